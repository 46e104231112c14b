-- The loop over records: what is written where the next one begins, and the whole text. Assumes nothing.
use Rattle.std.proofs.Common.{◌≡◌, ℕ, suc, ◌+◌, ◌-◌, ◌*◌, ◌<◌, ◌≤◌, List, [], ◌++◌, length, take, drop, sym, ap, ◌∙◌, zero-add, arith, length-append, length-drop, length-take-le, take_all}
use Rattle.hex_format.specs.Text.{record_line, data_lines, record_count, hex_of}
use Rattle.intel_hex.specs.Found.{PutsText}
use Rattle.intel_hex.proofs.Storing.{puts_then, puts-same}
use Rattle.intel_hex.proofs.TextLaws.{lines-last, lines-length, record-length}

-- the parts of an image that are lent for a line
pub part-full : (image : List ℕ) (from : ℕ) → take (from + 16 - from) (drop from image) ≡ take 16 (drop from image)
part-full image from = let e : from + 16 - from ≡ 16 = omega arith in rw e

pub size-full : (image : List ℕ) (from : ℕ) → from + 16 ≤ length image → length (take (from + 16 - from) (drop from image)) ≡ 16
size-full image from h = ap length (part-full image from) ∙ length-take-le 16 (drop from image) (omega (arith, length-drop from image))

pub part-rest : (image : List ℕ) (from : ℕ) → take (length image - from) (drop from image) ≡ drop from image
part-rest image from = take_all (length image - from) (drop from image) (omega (arith, length-drop from image))

pub size-rest : (image : List ℕ) (from : ℕ) → length (take (length image - from) (drop from image)) ≡ length image - from
size-rest image from = ap length (part-rest image from) ∙ length-drop from image

-- a line of the same bytes
pub puts-line : (bytes others : List ℕ) (address : ℕ) {b : List ℕ} {at : ℕ} {e : List ℕ} → bytes ≡ others → PutsText (record_line 0 address bytes) b at e → PutsText (record_line 0 address others) b at e
puts-line bytes others address h p = puts-same p (ap (record_line 0 address) h)

-- k records are written, each full
module _ (image : List ℕ) {before text : List ℕ} (k : ℕ) (inside : 16 * k ≤ length image) (w : PutsText (data_lines k 0 image) before 0 text) where
  lines-size : length (data_lines k 0 image) ≡ 44 * k
  lines-size = lines-length k 0 image inside

  -- the next record's line
  pub next-lines : (bytes : List ℕ) {e : List ℕ} → bytes ≡ take 16 (drop (16 * k) image) → PutsText (record_line 0 (16 * k) bytes) text (44 * k) e → PutsText (data_lines (suc k) 0 image) before 0 e
  next-lines bytes is p =
      let a : 0 + 16 * k ≡ 16 * k = zero-add (16 * k) in
      let line : record_line 0 (16 * k) bytes ≡ record_line 0 (0 + 16 * k) (take 16 (drop (16 * k) image)) = rw (a, is) in
      puts-same (puts_then w (44 * k) (omega (arith, lines-size)) p) (ap (λ (l : List ℕ). data_lines k 0 image ++ l) line ∙ sym (lines-last k 0 image))

  -- and the end record, after it
  pub even-text : {e : List ℕ} → length image ≡ 16 * k → PutsText (record_line 1 0 []) text (44 * k) e → PutsText (hex_of image) before 0 e
  unfolding hex_of
  even-text h p =
      let r : k ≡ record_count (length image) = omega arith in
      puts-same (puts_then w (44 * k) (omega (arith, lines-size)) p) (ap (λ (n : ℕ). data_lines n 0 image ++ record_line 1 0 []) r)

  -- a last record of fewer bytes
  module _ (some : 16 * k < length image) (less : length image < 16 * k + 16) where
    rest-size : length (take 16 (drop (16 * k) image)) ≡ length image - 16 * k
    rest-size =
        let all : take 16 (drop (16 * k) image) ≡ drop (16 * k) image = take_all 16 (drop (16 * k) image) (omega (arith, length-drop (16 * k) image)) in
        ap length all ∙ length-drop (16 * k) image

    pub rest-text : {m e : List ℕ} (next : ℕ) → next ≡ 44 * k + 12 + 2 * (length image - 16 * k) → PutsText (record_line 0 (16 * k) (drop (16 * k) image)) text (44 * k) m → PutsText (record_line 1 0 []) m next e
        → PutsText (hex_of image) before 0 e
    unfolding hex_of
    rest-text next n p q =
        let all : drop (16 * k) image ≡ take 16 (drop (16 * k) image) = sym (take_all 16 (drop (16 * k) image) (omega (arith, length-drop (16 * k) image))) in
        let r : suc k ≡ record_count (length image) = omega arith in
        let size : length (data_lines (suc k) 0 image) ≡ 44 * k + 12 + 2 * (length image - 16 * k) =
        ap length (lines-last k 0 image) ∙ omega (
          arith,
          length-append (data_lines k 0 image) (record_line 0 (0 + 16 * k) (take 16 (drop (16 * k) image))),
          lines-size,
          record-length 0 (0 + 16 * k) (take 16 (drop (16 * k) image)),
          rest-size,
        ) in
        puts-same (puts_then (next-lines (drop (16 * k) image) all p) next (omega (arith, size)) q) (ap (λ (n : ℕ). data_lines n 0 image ++ record_line 1 0 []) r)
