-- Inputs longer than a program's buffer. What follows the first 4,097 bytes of an image has no part in what is written of it; a text of more than
-- 983,053 characters is refused. Assumes nothing.
use mathlib.Core.Bool.{Bool, true, false, cond, ◌&&◌, true≢false}
use mathlib.Core.List.{List, [], ◌∷◌}
use mathlib.Core.Path.{◌≡◌, refl, ap, sym, ◌∙◌}
use Prim.Native.Nat.{ℕ, zero, suc, ◌+◌, ◌*◌, ◌≤◌, ◌<◌}
use native.Mathlib.Omega.{arith}
use borrow.Author.Tests.{lt-ltb, ne_eqb}
use lib.Dec.{eqb}
use lib.ListN.{length, take, get_or, length-append}
use lib.Seq.{length-take-le}
use Rattle.std.specs.Prelude.{Err}
use Rattle.image.specs.declared.Refusal.TheVariants.{BadLength}
use Rattle.image.specs.Image.{image_verdict}
use Rattle.hex_format.specs.Lines.{before, text_lines}
use Rattle.hex_format.specs.Record.{bytes_from, count_of, data_of}
use Rattle.hex_format.specs.Reading.{malformed, said_by}
use Rattle.intel_hex.specs.Answers.{ReadsAs, hex_written}
use Rattle.intel_hex.proofs.RecordLaws.{formed, data-parts, end-parts, Good, end, more, good}
use Rattle.intel_hex.proofs.Canonical.{below-64k}
use Rattle.hex_output.specs.Output.{refused_line, write_output}

too_long : (image : List ℕ) → 4096 < length image → image_verdict image ≡ Err BadLength
unfolding image_verdict
too_long image h = rw (ne_eqb (length image) 0 (λ e. omega arith), lt-ltb 4096 (length image) h)

refused-1 : (image output : List ℕ) → 4096 < length image → write_output image output ≡ refused_line 1
unfolding hex_written
refused-1 image output h = rw (too_long image h)

pub rest-ignored : (image output : List ℕ) → 4097 ≤ length image → write_output (take 4097 image) output ≡ write_output image output
rest-ignored image output h =
    let size : length (take 4097 image) ≡ 4097 = length-take-le 4097 image h in
    refused-1 (take 4097 image) output (omega arith) ∙ sym (refused-1 image output (omega arith))

-- the characters of lines, with CR LF after each
abbrev spread : List (List ℕ) → ℕ
spread [] = 0
spread (line ∷ lines) = length line + 2 + spread lines

one_more : (c : ℕ) (lines : List (List ℕ)) → 1 + spread lines ≤ spread (before c lines)
one_more c [] = omega arith
one_more c (line ∷ lines) = omega arith

-- a text has no more, and one less where it begins with LF
spread-most : (text : List ℕ) → (length text ≤ spread (text_lines text)) × (eqb (get_or text 0 0) 10 ≡ true → length text + 1 ≤ spread (text_lines text))
unfolding text_lines
spread-most [] = (omega arith, λ e. absurd (true≢false (sym e)))
spread-most (c ∷ text) = go (spread-most text) (eqb c 10) (eqb c 13) (eqb (get_or text 0 0) 10) refl
  where
    go : (length text ≤ spread (text_lines text)) × (eqb (get_or text 0 0) 10 ≡ true → length text + 1 ≤ spread (text_lines text))
        → (a b d : Bool) → eqb (get_or text 0 0) 10 ≡ d
        → (suc (length text) ≤ spread (cond a ([] ∷ text_lines text) (cond (b && d) (text_lines text) (before c (text_lines text)))))
        × (a ≡ true → suc (length text) + 1 ≤ spread (cond a ([] ∷ text_lines text) (cond (b && d) (text_lines text) (before c (text_lines text)))))
    go h true b d e = (omega (arith, h.0), λ p. omega (arith, h.0))
    go h false true true e = (omega (arith, h.1 e), λ p. absurd (true≢false (sym p)))
    go h false true false e = (omega (arith, h.0, one_more c (text_lines text)), λ p. absurd (true≢false (sym p)))
    go h false false d e = (omega (arith, h.0, one_more c (text_lines text)), λ p. absurd (true≢false (sym p)))

bytes-size : (line : List ℕ) (k n : ℕ) → length (bytes_from line k n) ≡ n
unfolding bytes_from
bytes-size line k zero = refl
bytes-size line k (suc n) = ap suc (bytes-size line (suc k) n)

-- at most 15 characters for each byte, and the end record's 13
lines-most : (lines : List (List ℕ)) → malformed lines ≡ false → spread lines ≤ 15 * length (said_by lines) + 13
unfolding said_by
lines-most [] h = omega arith
lines-most (line ∷ lines) h = go (lines-most lines) (good line lines h)
  where
    said : length (said_by (line ∷ lines)) ≡ count_of line + length (said_by lines)
    said = length-append (data_of line) (said_by lines) ∙ rw (bytes-size line 4 (count_of line))

    go : (malformed lines ≡ false → spread lines ≤ 15 * length (said_by lines) + 13) → Good line lines
        → length line + 2 + spread lines ≤ 15 * length (said_by (line ∷ lines)) + 13
    go rest (end e nothing) =
        let p = end-parts line e in
        let z : spread lines ≡ 0 = rw nothing in
        omega (arith, said, p.none, (formed line p.formed).size)
    go rest (more e d m) =
        let p = data-parts line d in
        omega (arith, said, rest m, p.some, (formed line p.formed).size)

pub longest-text : {text bytes : List ℕ} → ReadsAs text bytes → length text ≤ 983053
longest-text {text} r =
    omega (arith, (spread-most text).0, lines-most (text_lines text) r.lines, below-64k (text_lines text) 0 r.lines r.span (omega arith))
