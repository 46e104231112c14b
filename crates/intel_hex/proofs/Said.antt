-- The second pass: the bytes that a record says, and those behind it. Assumes nothing.
use Rattle.std.proofs.Common.{◌≡◌, ℕ, zero, suc, ◌+◌, ◌*◌, ◌<◌, ◌≤◌, Bool, true, false, ltb, List, [], ◌∷◌, ◌++◌, length, get_or, take, drop, sym, refl, ap, ◌∙◌, add-zero, zero-add, add-one, arith, length-append, length-drop, drop_of_length-le, length-take-le, drop-drop, take_at, take-add, drop_at, ltb-false, ltb-true}
use lib.Seq.{sets, length-sets, take-length}
use Rattle.hex_format.specs.Lines.{text_lines}
use Rattle.hex_format.specs.Record.{line_byte, bytes_from, count_of, data_of}
use Rattle.hex_format.specs.Reading.{malformed, said_by}
use Rattle.intel_hex.specs.Found.{pair_at, pairs_at, Digits, line_at}
use Rattle.intel_hex.proofs.LineLaws.{width_at, end-inside}
use Rattle.intel_hex.proofs.RecordLaws.{Good, end, more, good, data-parts, end-parts}
use Rattle.intel_hex.proofs.Standing.{pair-value, same_byte, next-line, Whole, whole}
use Rattle.intel_hex.proofs.Scanning.{no-lines}
use Rattle.intel_hex.proofs.Storing.{sets_then, sets-front}

pub pairs-size : (text : List ℕ) (p n : ℕ) → length (pairs_at text p n) ≡ n
unfolding pairs_at
pairs-size text p zero = refl
pairs-size text p (suc n) = omega (arith, length-append (pairs_at text p n) (pair_at text (p + 2 * n) ∷ []), pairs-size text p n)

-- one byte more is stored
pub one-more-byte : (b text : List ℕ) (at p i : ℕ) → sets (sets b at (pairs_at text p i)) (at + i) (pair_at text (p + 2 * i) ∷ []) ≡ sets b at (pairs_at text p (i + 1))
unfolding pairs_at
one-more-byte b text at p i = rw (add-one i) (sets_then b at i (pairs_at text p i) (pair_at text (p + 2 * i) ∷ []) (pairs-size text p i))

-- two digits there say a byte
pub digits-there : (text : List ℕ) (p n i : ℕ) → Digits text p (2 * n) → i < n → pair_at text (p + 2 * i) ≤ 255
digits-there text p n i digits h =
    let e : p + 2 * i + 1 ≡ p + (2 * i + 1) = omega arith in
    (pair-value text (p + 2 * i) (digits (2 * i) (omega arith)) (rw e (digits (2 * i + 1) (omega arith)))).1

-- all bytes of a line but the last, and the last
bytes-last : (line : List ℕ) (k m : ℕ) → bytes_from line k (suc m) ≡ bytes_from line k m ++ (line_byte line (k + m) ∷ [])
unfolding bytes_from
bytes-last line k zero = rw (add-zero k)
bytes-last line k (suc m) =
    let e : k + suc m ≡ suc k + m = omega arith in
    rw e (ap (λ (l : List ℕ). line_byte line k ∷ l) (bytes-last line (suc k) m))

-- a record's data, by positions in the text
data-at : (text : List ℕ) (at n : ℕ) → at + 11 + 2 * n ≤ length text → Digits text (at + 1) (2 * (n + 5)) → (m : ℕ) → m ≤ n → bytes_from (line_at text at n) 4 m ≡ pairs_at text (at + 9) m
unfolding bytes_from pairs_at
data-at text at n inside digits zero h = refl
data-at text at n inside digits (suc m) h =
    bytes-last (line_at text at n) 4 m ∙ rw (data-at text at n inside digits m (omega arith), same_byte text at n inside digits (4 + m) (at + 9 + 2 * m) (omega arith) (omega arith))

-- what is known of the next record of a text that is not malformed, where bytes are left
pub record Next (text : List ℕ) (from n : ℕ) : Type 0 where
  pub count : pair_at text (from + 1) ≡ n
  pub inside : from + 11 + 2 * n ≤ length text
  pub digits : Digits text (from + 9) (2 * n)
  pub some : 1 ≤ n
  pub few : n ≤ 16
  pub fine : malformed (text_lines (drop (from + 11 + 2 * n + width_at text (from + 11 + 2 * n)) text)) ≡ false
  pub said : said_by (text_lines (drop from text)) ≡ pairs_at text (from + 9) n ++ said_by (text_lines (drop (from + 11 + 2 * n + width_at text (from + 11 + 2 * n)) text))
  pub ended : width_at text (from + 11 + 2 * n) < 3
  pub next : from + 11 + 2 * n + width_at text (from + 11 + 2 * n) ≤ length text

not-over : (text : List ℕ) (from : ℕ) → 0 < length (said_by (text_lines (drop from text))) → from < length text
unfolding said_by
not-over text from h = go (ltb from (length text)) refl
  where
    go : (b : Bool) → ltb from (length text) ≡ b → from < length text
    go true e = ltb-true from (length text) e
    go false e =
        let z : length (said_by (text_lines (drop from text))) ≡ 0 = rw (drop_of_length-le text {i = from} (ltb-false from (length text) e), no-lines) in
        absurd (omega arith)

module _ (text : List ℕ) (from n : ℕ) (inside : from + 11 + 2 * n ≤ length text) (digits : Digits text (from + 1) (2 * (n + 5))) (count : pair_at text (from + 1) ≡ n) where
  line-count : count_of (line_at text from n) ≡ n
  line-count = same_byte text from n inside digits 0 (from + 1) (omega arith) (omega arith) ∙ count

  line-data : data_of (line_at text from n) ≡ pairs_at text (from + 9) n
  line-data = rw line-count (data-at text from n inside digits n (omega arith))

  data-digits : Digits text (from + 9) (2 * n)
  data-digits j h = let e : from + 9 + j ≡ from + 1 + (8 + j) = omega arith in rw e (digits (8 + j) (omega arith))

  module _ (colon : get_or text from 0 ≡ 58) (few : n ≤ 16) (ended : width_at text (from + 11 + 2 * n) < 3) where
    lines-on : text_lines (drop from text) ≡ line_at text from n ∷ text_lines (drop (from + 11 + 2 * n + width_at text (from + 11 + 2 * n)) text)
    lines-on = next-line text from n inside digits colon ended

    said-on : said_by (text_lines (drop from text)) ≡ pairs_at text (from + 9) n ++ said_by (text_lines (drop (from + 11 + 2 * n + width_at text (from + 11 + 2 * n)) text))
    unfolding said_by
    said-on = rw (lines-on, line-data)

    by_kind : 0 < length (said_by (text_lines (drop from text))) → Good (line_at text from n) (text_lines (drop (from + 11 + 2 * n + width_at text (from + 11 + 2 * n)) text)) → Next text from n
    unfolding said_by pairs_at
    by_kind left (end e nothing) =
        let z : n ≡ 0 = sym line-count ∙ (end-parts (line_at text from n) e).none in
        let none : length (said_by (text_lines (drop from text))) ≡ 0 = ap length said-on ∙ rw (nothing, z) in
        absurd (omega arith)
    by_kind left (more e d m) =
        record {
          count = count;
          inside = inside;
          digits = data-digits;
          some = omega (arith, (data-parts (line_at text from n) d).some, line-count);
          few = few;
          fine = m;
          said = said-on;
          ended = ended;
          next = end-inside text (from + 11 + 2 * n) inside ended;
        }

pub next-record : (text : List ℕ) (from n : ℕ) → n ≡ pair_at text (from + 1) → 0 < length (said_by (text_lines (drop from text))) → malformed (text_lines (drop from text)) ≡ false → Next text from n
next-record text from n is left fine =
    let w : Whole text from = whole text from (not-over text from left) fine in
    let same : w.n ≡ n = sym w.count ∙ sym is in
    rw same at (at-whole w)
  where
    at-whole : (w : Whole text from) → Next text from w.n
    at-whole w =
        by_kind text from w.n w.inside w.digits w.count w.colon w.few w.ended left
        (good _ _ (rw (lines-on text from w.n w.inside w.digits w.count w.colon w.few w.ended) at fine))

-- what is known where the next record begins: the bytes behind are stored, and those ahead are left
pub record Storing (text before : List ℕ) (from at : ℕ) (bytes : List ℕ) : Type 0 where
  pub fine : malformed (text_lines (drop from text)) ≡ false
  pub ahead : drop at (said_by (text_lines text)) ≡ said_by (text_lines (drop from text))
  pub behind : bytes ≡ sets before 0 (take at (said_by (text_lines text)))
  pub most : at ≤ length (said_by (text_lines text))
  pub inside : from ≤ length text

pub storing : (text before : List ℕ) → malformed (text_lines text) ≡ false → Storing text before 0 0 before
storing text before h = record { fine = h; ahead = refl; behind = refl; most = omega arith; inside = omega arith }

module _ {text before : List ℕ} {from at : ℕ} {bytes : List ℕ} (s : Storing text before from at bytes) where
  pub left_over : at < length (said_by (text_lines text)) → 0 < length (said_by (text_lines (drop from text)))
  left_over h = rw (← s.ahead) (omega (arith, length-drop at (said_by (text_lines text))))

  -- the next record
  pub next_of : (n : ℕ) → n ≡ pair_at text (from + 1) → at < length (said_by (text_lines text)) → Next text from n
  next_of n e h = next-record text from n e (left_over h) s.fine

  pub kept-size : length bytes ≡ length before
  kept-size = ap length s.behind ∙ length-sets before 0 (take at (said_by (text_lines text)))

  pub fits : (n : ℕ) → Next text from n → at + n ≤ length (said_by (text_lines text))
  fits n r =
      omega (
        arith,
        length-drop at (said_by (text_lines text)),
        ap length s.ahead,
        ap length r.said,
        length-append (pairs_at text (from + 9) n) (said_by (text_lines (drop (from + 11 + 2 * n + width_at text (from + 11 + 2 * n)) text))),
        pairs-size text (from + 9) n,
        s.most,
        r.some,
      )

  pub stored : (n next : ℕ) {after : List ℕ} → Next text from n → next ≡ from + 11 + 2 * n + width_at text (from + 11 + 2 * n) → after ≡ sets bytes at (pairs_at text (from + 9) n)
      → Storing text before next (at + n) after
  stored n next r e put =
      let said : List ℕ = said_by (text_lines text) in
      let here : List ℕ = pairs_at text (from + 9) n in
      let rest : List ℕ = said_by (text_lines (drop (from + 11 + 2 * n + width_at text (from + 11 + 2 * n)) text)) in
      let d : drop at said ≡ here ++ rest = s.ahead ∙ r.said in
      let size : length here ≡ n = pairs-size text (from + 9) n in
      let front : take (at + n) said ≡ take at said ++ here = take-add at n said ∙ rw (d, take_at here rest n size) in
      let place : sets (sets before 0 (take at said)) at here ≡ sets before 0 (take at said ++ here) =
      rw (zero-add at) at (sets_then before 0 at (take at said) here (length-take-le at said s.most)) in
      record {
        fine = rw e r.fine;
        ahead = sym (drop-drop n at said) ∙ rw (d, drop_at here rest n size, e);
        behind = put ∙ rw (s.behind, place, front);
        most = fits n r;
        inside = rw e r.next;
      }

  pub all-stored : at ≡ length (said_by (text_lines text)) → length (said_by (text_lines text)) ≤ length before → bytes ≡ said_by (text_lines text) ++ drop (length (said_by (text_lines text))) before
  all-stored e h =
      s.behind ∙ rw (e, take-length (said_by (text_lines text))) (sets-front before (said_by (text_lines text)) (length (said_by (text_lines text))) refl h)
