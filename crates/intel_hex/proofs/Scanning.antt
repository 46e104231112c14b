-- The pass over all lines: what is known where the next one begins, and the answer. Assumes nothing.
use Rattle.std.proofs.Common.{◌≡◌, ℕ, zero, suc, ◌+◌, ◌%◌, ◌<◌, ◌≤◌, Bool, true, false, not, ◌&&◌, ◌||◌, eqb, ltb, leb, List, [], length, drop, sym, refl, ap, ◌∙◌, zero-add, arith, length-append, length-drop, drop_of_length-le, ltb-false, ltb-true, lt-ltb, ne_eqb, le-leb}
use Rattle.std.specs.Prelude.{Option, Some, None, Result, Err}
use Rattle.std.specs.Option.{ok_or}
use mathlib.Core.Bool.{or_assoc, or-true, or-false}
use Rattle.intel_hex.specs.declared.line.HexRecord.{HexRecord}
use Rattle.intel_hex.specs.declared.line.RecordType.TheVariants.{Data, End}
use Rattle.intel_hex.specs.declared.ReadError.{ReadError}
use Rattle.intel_hex.specs.declared.ReadError.TheVariants.{Malformed}
use Rattle.hex_format.specs.Lines.{text_lines}
use Rattle.hex_format.specs.Record.{bytes_from, count_of, data_of, is_data, is_end}
use Rattle.hex_format.specs.Reading.{no_lines, malformed, bad_checksum, bad_span, said_by}
use Rattle.intel_hex.specs.Answers.{verdict_of}
use Rattle.intel_hex.specs.Found.{line_at, StandsAt, LineFound, number_of_type, scanned_as}
use Rattle.intel_hex.proofs.LineLaws.{cut}

-- so many bytes of a line
pub bytes-size : (line : List ℕ) (k n : ℕ) → length (bytes_from line k n) ≡ n
unfolding bytes_from
bytes-size line k zero = refl
bytes-size line k (suc n) = ap suc (bytes-size line (suc k) n)

pub no-lines : text_lines [] ≡ []
unfolding text_lines
no-lines = refl

-- where characters are left, a line is
lines_left : (cs : List ℕ) → 0 < length cs → not (no_lines (text_lines cs)) ≡ true
lines_left cs h = let c = cut cs h in rw c.lines

some : (n : ℕ) → (n ≡ 0 → ⊥) → 1 ≤ n
some zero h = absurd (h refl)
some (suc n) h = omega arith

lt_of_ne : (a b : ℕ) → a ≤ b → (a ≡ b → ⊥) → a < b
lt_of_ne a b l d = go (ltb a b) refl
  where
    go : (t : Bool) → ltb a b ≡ t → a < b
    go true e = ltb-true a b e
    go false e = absurd (d (omega (arith, ltb-false a b e)))

-- a byte past address FFFF, once met, stays so as the count grows
past : (p r b : Bool) (count n : ℕ) → ((p || ltb 65536 count) || (r || (ltb 65536 (count + n) || b))) ≡ (((p || r) || ltb 65536 (count + n)) || b)
past true r b count n = refl
past false r b count n = go (ltb 65536 count) refl r
  where
    go : (q : Bool) → ltb 65536 count ≡ q → (r : Bool) → (q || (r || (ltb 65536 (count + n) || b))) ≡ ((r || ltb 65536 (count + n)) || b)
    go true e true = refl
    go true e false = rw (lt-ltb 65536 (count + n) (omega (arith, ltb-true 65536 count e)))
    go false e true = refl
    go false e false = refl

-- the tests of all lines by those behind and those ahead
pub record Scanned (text : List ℕ) (at count : ℕ) (sum span : Bool) : Type 0 where
  pub lines : malformed (text_lines text) ≡ malformed (text_lines (drop at text))
  pub sums : bad_checksum (text_lines text) ≡ (sum || bad_checksum (text_lines (drop at text)))
  pub spans : bad_span 0 (text_lines text) ≡ ((span || ltb 65536 count) || bad_span count (text_lines (drop at text)))
  pub said : length (said_by (text_lines text)) ≡ count + length (said_by (text_lines (drop at text)))
  pub few : count ≤ at
  pub inside : at ≤ length text

pub begun : (text : List ℕ) → Scanned text 0 0 false false
begun text = record { lines = refl; sums = refl; spans = refl; said = sym (zero-add (length (said_by (text_lines text)))); few = omega arith; inside = omega arith }

-- a line ahead is malformed
pub refused : {text : List ℕ} {at count : ℕ} {sum span : Bool} → Scanned text at count sum span → malformed (text_lines (drop at text)) ≡ true → Err Malformed ≡ verdict_of (text_lines text)
unfolding verdict_of
refused s h = rw (s.lines, h)

module _ (text : List ℕ) (at : ℕ) (r : HexRecord) (f : StandsAt text at r) where
  is-end-by : is_end (line_at text at r.count) ≡ (eqb (number_of_type r.kind) 1 && (eqb r.count 0 && eqb r.address 0))
  unfolding is_end
  is-end-by = rw (f.formed, f.type, f.count, f.address)

  is-data-by : is_data (line_at text at r.count) ≡ (eqb (number_of_type r.kind) 0 && (leb 1 r.count && leb r.count 16))
  unfolding is_data
  is-data-by = rw (f.formed, f.type, f.count)

  -- an end record that is none, or has text after it
  pub end-of-more : r.kind ≡ End → (r.count ≡ 0 → ⊥) → malformed (text_lines (drop at text)) ≡ true
  unfolding malformed
  end-of-more k n = rw (f.lines, is-end-by, is-data-by, k, ne_eqb r.count 0 n)

  pub end-elsewhere : r.kind ≡ End → r.count ≡ 0 → (r.address ≡ 0 → ⊥) → malformed (text_lines (drop at text)) ≡ true
  unfolding malformed
  end-elsewhere k n a = rw (f.lines, is-end-by, is-data-by, k, n, ne_eqb r.address 0 a)

  pub text-after : r.kind ≡ End → r.count ≡ 0 → r.address ≡ 0 → (r.next ≡ length text → ⊥) → malformed (text_lines (drop at text)) ≡ true
  unfolding malformed
  text-after k n a more =
      let z : is_end (line_at text at r.count) ≡ true = is-end-by ∙ rw (k, n, a) in
      rw (f.lines, z) (lines_left (drop r.next text) (omega (arith, length-drop r.next text, f.inside, lt_of_ne r.next (length text) f.inside more)))

  pub no-data : r.kind ≡ Data → r.count ≡ 0 → malformed (text_lines (drop at text)) ≡ true
  unfolding malformed
  no-data k z = rw (f.lines, is-end-by, is-data-by, k, z)

  -- the end record, last
  pub ended : r.kind ≡ End → r.count ≡ 0 → r.address ≡ 0 → r.next ≡ length text → (count : ℕ) (sum span : Bool) → Scanned text at count sum span
      → scanned_as (sum || not (eqb (r.sum % 256) 0)) span count ≡ verdict_of (text_lines text)
  unfolding verdict_of malformed bad_checksum bad_span said_by bytes_from
  ended k n a l count sum span s =
      let z : is_end (line_at text at r.count) ≡ true = is-end-by ∙ rw (k, n, a) in
      let nothing : text_lines (drop r.next text) ≡ [] = rw (drop_of_length-le text {i = r.next} (omega arith)) no-lines in
      let c : count_of (line_at text at r.count) ≡ 0 = f.count ∙ n in
      let m : malformed (text_lines text) ≡ false = s.lines ∙ rw (f.lines, z, nothing) in
      let b : bad_checksum (text_lines text) ≡ (sum || not (eqb (r.sum % 256) 0)) = s.sums ∙ rw (f.lines, f.sum, nothing, or-false (not (eqb (r.sum % 256) 0))) in
      let p : bad_span 0 (text_lines text) ≡ (span || ltb 65536 count) = s.spans ∙ rw (f.lines, z, or-false (span || ltb 65536 count)) in
      let l : length (said_by (text_lines text)) ≡ count = s.said ∙ rw (f.lines, nothing, c) (omega arith) in
      rw (m, b, p, l)

  -- a data record, and what follows
  pub more : r.kind ≡ Data → (r.count ≡ 0 → ⊥) → (count : ℕ) (sum span : Bool) → Scanned text at count sum span
      → Scanned text r.next (count + r.count) (sum || not (eqb (r.sum % 256) 0)) (span || not (eqb r.address count))
  unfolding malformed bad_checksum bad_span said_by
  more k n count sum span s =
      let z : is_end (line_at text at r.count) ≡ false = is-end-by ∙ rw k in
      let d : is_data (line_at text at r.count) ≡ true = is-data-by ∙ rw (k, le-leb 1 r.count (some r.count n), le-leb r.count 16 f.few) in
      record {
        lines = s.lines ∙ rw (f.lines, z, d);
        sums = s.sums ∙ rw (f.lines, f.sum, or_assoc sum (not (eqb (r.sum % 256) 0)) (bad_checksum (text_lines (drop r.next text))));
        spans = s.spans ∙ rw (f.lines, z, f.address, f.count) (past span (not (eqb r.address count)) (bad_span (count + r.count) (text_lines (drop r.next text))) count r.count);
        said = s.said ∙ rw f.lines (omega (arith, length-append (data_of (line_at text at r.count)) (said_by (text_lines (drop r.next text))), bytes-size (line_at text at r.count) 4 (count_of (line_at text at r.count)), f.count));
        few = omega (arith, f.onward, s.few);
        inside = f.inside;
      }

-- no line is left, and no end record was met
pub all_lines : {text : List ℕ} {at count : ℕ} {sum span : Bool} → Scanned text at count sum span → length text ≤ at → scanned_as sum true count ≡ verdict_of (text_lines text)
unfolding verdict_of malformed bad_checksum bad_span said_by
all_lines {text} {at} {count} {sum} {span} s h =
    let nothing : text_lines (drop at text) ≡ [] = rw (drop_of_length-le text {i = at} h) no-lines in
    let m : malformed (text_lines text) ≡ false = s.lines ∙ rw nothing in
    let b : bad_checksum (text_lines text) ≡ sum = s.sums ∙ rw (nothing, or-false sum) in
    let p : bad_span 0 (text_lines text) ≡ true = s.spans ∙ rw nothing (or-true (span || ltb 65536 count)) in
    rw (m, b, p)

pub found : {text : List ℕ} {at : ℕ} {line : Option HexRecord} (r : HexRecord) → LineFound text at line → line ≡ Some r → StandsAt text at r
found {text} {at} r h e = rw e at h

pub not_found : {text : List ℕ} {at count : ℕ} {sum span : Bool} {line : Option HexRecord} {error : ReadError} → Scanned text at count sum span → LineFound text at line → line ≡ None
    → ◌≡◌ {A = Result HexRecord ReadError} (Err error) (ok_or line Malformed) → Err error ≡ verdict_of (text_lines text)
not_found {text} {at} {line = line} {error} s h none e =
    let told : ◌≡◌ {A = Result HexRecord ReadError} (Err error) (Err Malformed) = rw none at e in
    let same : error ≡ Malformed = cc in
    rw same (refused s (rw none at h))
