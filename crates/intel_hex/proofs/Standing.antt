-- A line at a position of a text: what the code finds by positions alone, and the line's record. Assumes nothing.
use Rattle.std.proofs.Common.{◌≡◌, ℕ, zero, suc, ◌+◌, ◌*◌, ◌%◌, ◌<◌, ◌≤◌, Bool, true, false, ltb, List, ◌∷◌, length, get_or, take, drop, sym, refl, ap, ◌∙◌, add-zero, add-one, arith, length-drop, length-take-le, get_or-drop, get_or-take, drop-drop, ltb-false, ltb-true}
use Rattle.hex_format.specs.Digits.{is_digit, digit_value}
use Rattle.hex_format.specs.Text.{total}
use Rattle.hex_format.specs.Lines.{text_lines}
use Rattle.hex_format.specs.Record.{line_byte, bytes_from, count_of, type_of}
use Rattle.hex_format.specs.Reading.{malformed}
use Rattle.intel_hex.specs.declared.line.RecordType.{RecordType}
use Rattle.intel_hex.specs.Found.{digit_weight, pair_at, sum_at, line_at, Weighs, number_of_type, FullAt, StandsAt}
use Rattle.intel_hex.proofs.DigitLaws.{value-most, weight-value, weight-most, light, plain}
use Rattle.intel_hex.proofs.LineLaws.{width_at, Plain, first-line, Cut, cut, end_rest, end-inside}
use Rattle.intel_hex.proofs.RecordLaws.{Formed, formed, is-formed, good, good-formed}

-- two digits say a byte
pub pair-value : (text : List ℕ) (p : ℕ) → is_digit (get_or text p 0) ≡ true → is_digit (get_or text (p + 1) 0) ≡ true
    → (pair_at text p ≡ 16 * digit_value (get_or text p 0) + digit_value (get_or text (p + 1) 0)) × (pair_at text p ≤ 255)
pair-value text p h l =
    let a = weight-value (get_or text p 0) h in
    let b = weight-value (get_or text (p + 1) 0) l in
    (rw (a, b), omega (arith, a, b, value-most (get_or text p 0) h, value-most (get_or text (p + 1) 0) l))

-- and so does a pair that is light
pub pair-most : (text : List ℕ) (p : ℕ) → pair_at text p < 8192 → pair_at text p ≤ 255
pair-most text p h = (pair-value text p (light (get_or text p 0) (omega arith)) (light (get_or text (p + 1) 0) (omega arith))).1

pub pair-bound : (text : List ℕ) (p : ℕ) → pair_at text p ≤ 139264
pair-bound text p = omega (arith, weight-most (get_or text p 0), weight-most (get_or text (p + 1) 0))

-- where all characters are digits, their pairs add up to at most 255 for each
pub sum-most : (text : List ℕ) (p m : ℕ) → ((j : ℕ) → j < 2 * m → is_digit (get_or text (p + j) 0) ≡ true) → sum_at text p m ≤ 255 * m
unfolding sum_at
sum-most text p zero digits = omega arith
sum-most text p (suc m) digits =
    let n : p + 2 * m + 1 ≡ p + (2 * m + 1) = omega arith in
    let two = pair-value text (p + 2 * m) (digits (2 * m) (omega arith)) (ap (λ (k : ℕ). is_digit (get_or text k 0)) n ∙ digits (2 * m + 1) (omega arith)) in
    omega (arith, two.1, sum-most text p m (λ j h. digits j (omega arith)))

-- and where they add up to less than 8,192, all are digits
pub all-light : (text : List ℕ) (p m : ℕ) → sum_at text p m < 8192 → (j : ℕ) → j < 2 * m → is_digit (get_or text (p + j) 0) ≡ true
unfolding sum_at
all-light text p zero h j l = absurd (omega arith)
all-light text p (suc m) h j l = before (λ g. all-light text p m (omega arith) j g) (ltb j (2 * m)) refl
  where
    last : is_digit (get_or text (p + 2 * m) 0) ≡ true
    last = light (get_or text (p + 2 * m) 0) (omega arith)

    after : is_digit (get_or text (p + 2 * m + 1) 0) ≡ true
    after = light (get_or text (p + 2 * m + 1) 0) (omega arith)

    here : (b : Bool) → 2 * m ≤ j → ltb j (2 * m + 1) ≡ b → is_digit (get_or text (p + j) 0) ≡ true
    here true g e = let n : p + j ≡ p + 2 * m = omega (arith, ltb-true j (2 * m + 1) e) in rw n last
    here false g e = let n : p + j ≡ p + 2 * m + 1 = omega (arith, ltb-false j (2 * m + 1) e) in rw n after

    before : (j < 2 * m → is_digit (get_or text (p + j) 0) ≡ true) → (b : Bool) → ltb j (2 * m) ≡ b → is_digit (get_or text (p + j) 0) ≡ true
    before rest true e = rest (ltb-true j (2 * m) e)
    before rest false e = here (ltb j (2 * m + 1)) (ltb-false j (2 * m) e) refl

-- so many pairs, and so many more
sum-split : (text : List ℕ) (p m k : ℕ) → sum_at text p (m + k) ≡ sum_at text p m + sum_at text (p + 2 * m) k
unfolding sum_at
sum-split text p m zero = rw (add-zero m, add-zero (sum_at text p m))
sum-split text p m (suc k) =
    let e : m + suc k ≡ suc (m + k) = omega arith in
    let place : p + 2 * (m + k) ≡ p + 2 * m + 2 * k = omega arith in
    rw (e, place) (omega (arith, sum-split text p m k))

-- a record's pairs by its parts: four, the data, and the checksum
pub sum-parts : (text : List ℕ) (at n : ℕ)
    → sum_at text (at + 1) (n + 5) ≡ pair_at text (at + 1) + pair_at text (at + 3) + pair_at text (at + 5) + pair_at text (at + 7) + sum_at text (at + 9) n + pair_at text (at + 9 + 2 * n)
unfolding sum_at
sum-parts text at n =
    let e : n + 5 ≡ 4 + (n + 1) = omega arith in
    let a : at + 1 + 2 * 4 ≡ at + 9 = omega arith in
    ap (sum_at text (at + 1)) e ∙ sum-split text (at + 1) 4 (n + 1) ∙ rw (a, add-one n) (four ∙ refl)
  where
    four : sum_at text (at + 1) 4 + sum_at text (at + 9) (suc n)
        ≡ pair_at text (at + 1) + pair_at text (at + 3) + pair_at text (at + 5) + pair_at text (at + 7) + sum_at text (at + 9) n + pair_at text (at + 9 + 2 * n)
    four =
        let b : at + 1 + 2 * 1 ≡ at + 3 = omega arith in
        let c : at + 1 + 2 * 2 ≡ at + 5 = omega arith in
        let d : at + 1 + 2 * 3 ≡ at + 7 = omega arith in
        let z : at + 1 + 2 * 0 ≡ at + 1 = omega arith in
        rw (z, b, c, d) (omega arith)

-- where the code's sum of the parts is light, so is that of all characters, and alike modulo 256
pub parts-light : (text : List ℕ) (at n inner : ℕ) → n ≤ 16 → Weighs text (at + 9) n inner
    → pair_at text (at + 1) + pair_at text (at + 3) + pair_at text (at + 5) + pair_at text (at + 7) + inner + pair_at text (at + 9 + 2 * n) < 8192
    → (sum_at text (at + 1) (n + 5) < 8192)
    × (sum_at text (at + 1) (n + 5) % 256
    ≡ (pair_at text (at + 1) + pair_at text (at + 3) + pair_at text (at + 5) + pair_at text (at + 7) + inner + pair_at text (at + 9 + 2 * n)) % 256)
parts-light text at n inner few w low = go (ltb (sum_at text (at + 9) n) 8192) refl
  where
    go : (b : Bool) → ltb (sum_at text (at + 9) n) 8192 ≡ b
        → (sum_at text (at + 1) (n + 5) < 8192)
        × (sum_at text (at + 1) (n + 5) % 256
        ≡ (pair_at text (at + 1) + pair_at text (at + 3) + pair_at text (at + 5) + pair_at text (at + 7) + inner + pair_at text (at + 9 + 2 * n)) % 256)
    go true e =
        let l : sum_at text (at + 9) n < 8192 = ltb-true (sum_at text (at + 9) n) 8192 e in
        let m : sum_at text (at + 9) n ≤ 255 * n = sum-most text (at + 9) n (all-light text (at + 9) n l) in
        let first = pair-most text (at + 1) (omega arith) in
        let second = pair-most text (at + 3) (omega arith) in
        let third = pair-most text (at + 5) (omega arith) in
        let fourth = pair-most text (at + 7) (omega arith) in
        let last = pair-most text (at + 9 + 2 * n) (omega arith) in
        rw (sum-parts text at n) (omega arith, omega (arith, w.same l))
    go false e = absurd (omega (arith, w.heavy (ltb-false (sum_at text (at + 9) n) 8192 e)))

-- and the other way round
pub light-parts : (text : List ℕ) (at n inner : ℕ) → n ≤ 16 → Weighs text (at + 9) n inner → ((j : ℕ) → j < 2 * (n + 5) → is_digit (get_or text (at + 1 + j) 0) ≡ true)
    → pair_at text (at + 1) + pair_at text (at + 3) + pair_at text (at + 5) + pair_at text (at + 7) + inner + pair_at text (at + 9 + 2 * n) < 8192
light-parts text at n inner few w digits =
    let m : sum_at text (at + 9) n ≤ 255 * n = sum-most text (at + 9) n (λ j h. moved (at + 9 + j) (8 + j) (omega arith) (omega arith)) in
    let l : sum_at text (at + 9) n < 8192 = omega arith in
    let first = pair (at + 1) 0 (omega arith) (omega arith) in
    let high = pair (at + 3) 2 (omega arith) (omega arith) in
    let low = pair (at + 5) 4 (omega arith) (omega arith) in
    let type = pair (at + 7) 6 (omega arith) (omega arith) in
    let check = pair (at + 9 + 2 * n) (8 + 2 * n) (omega arith) (omega arith) in
    omega (arith, w.light l)
  where
    moved : (p j : ℕ) → p ≡ at + 1 + j → j < 2 * (n + 5) → is_digit (get_or text p 0) ≡ true
    moved p j e h = rw e (digits j h)

    pair : (p j : ℕ) → p ≡ at + 1 + j → j + 1 < 2 * (n + 5) → pair_at text p ≤ 255
    pair p j e h = (pair-value text p (moved p j e (omega arith)) (moved (p + 1) (j + 1) (omega arith) h)).1

sum_bound : (text : List ℕ) (p m : ℕ) → sum_at text p m ≤ 139264 * m
unfolding sum_at
sum_bound text p zero = omega arith
sum_bound text p (suc m) = omega (arith, sum_bound text p m, weight-most (get_or text (p + 2 * m) 0), weight-most (get_or text (p + 2 * m + 1) 0))

-- the sum itself stands for it
pub weighs-itself : (text : List ℕ) (p m r : ℕ) → m ≤ 16 → r ≡ sum_at text p m → Weighs text p m r
weighs-itself text p m r few e =
    record {
      most = omega (arith, sum_bound text p m);
      light = λ h. omega (arith, sum-most text p m (all-light text p m h));
      same = λ h. rw e;
      heavy = λ h. omega arith;
    }

-- all bytes of a line but the last, and the last
total-last : (line : List ℕ) (k m : ℕ) → total (bytes_from line k (suc m)) ≡ total (bytes_from line k m) + line_byte line (k + m)
unfolding total bytes_from
total-last line k zero = rw (add-zero k) (omega arith)
total-last line k (suc m) =
    let e : k + suc m ≡ suc k + m = omega arith in
    rw e (omega (arith, total-last line (suc k) m))

-- a line of digits after its first character, by positions in the text and in the line
module _ (text : List ℕ) (at n : ℕ) (inside : at + 11 + 2 * n ≤ length text) where
  pub same-character : (j : ℕ) → j < 11 + 2 * n → get_or (line_at text at n) j 0 ≡ get_or text (at + j) 0
  same-character j h = get_or-take (11 + 2 * n) (drop at text) j 0 h ∙ get_or-drop at text j 0

  pub line-size : length (line_at text at n) ≡ 11 + 2 * n
  line-size = length-take-le (11 + 2 * n) (drop at text) (omega (arith, length-drop at text))

  module _ (digits : (j : ℕ) → j < 2 * (n + 5) → is_digit (get_or text (at + 1 + j) 0) ≡ true) where
    pub same_byte : (k p : ℕ) → k < n + 5 → p ≡ at + 1 + 2 * k → line_byte (line_at text at n) k ≡ pair_at text p
    same_byte k p h e =
        let one : at + (2 * k + 1) ≡ p = omega arith in
        let two : at + (2 * k + 2) ≡ p + 1 = omega arith in
        let next : p + 1 ≡ at + 1 + (2 * k + 1) = omega arith in
        let a : is_digit (get_or text p 0) ≡ true = rw e (digits (2 * k) (omega arith)) in
        let b : is_digit (get_or text (p + 1) 0) ≡ true = rw next (digits (2 * k + 1) (omega arith)) in
        rw (same-character (2 * k + 1) (omega arith), same-character (2 * k + 2) (omega arith), one, two) (sym (pair-value text p a b).0)

    pub same_sum : (m : ℕ) → m ≤ n + 5 → total (bytes_from (line_at text at n) 0 m) ≡ sum_at text (at + 1) m
    unfolding total bytes_from sum_at
    same_sum zero h = refl
    same_sum (suc m) h =
        let z : 0 + m ≡ m = omega arith in
        total-last (line_at text at n) 0 m ∙ rw (z, same_sum m (omega arith), same_byte m (at + 1 + 2 * m) (omega arith) refl)

    pub line-formed : get_or text at 0 ≡ 58 → pair_at text (at + 1) ≡ n → Formed (line_at text at n)
    line-formed colon count =
        let z : at + 0 ≡ at = add-zero at in
        record {
          colon = same-character 0 (omega arith) ∙ rw z colon;
          digits = λ j l.
              let e : at + suc j ≡ at + 1 + j = omega arith in
              rw (same-character (suc j) (omega (arith, line-size)), e) (digits j (omega (arith, line-size)));
          size = omega (arith, line-size, same_byte 0 (at + 1) (omega arith) (omega arith), count);
        }

    -- such a line is a text's next
    pub next-line : get_or text at 0 ≡ 58 → width_at text (at + 11 + 2 * n) < 3
        → text_lines (drop at text) ≡ line_at text at n ∷ text_lines (drop (at + 11 + 2 * n + width_at text (at + 11 + 2 * n)) text)
    next-line colon ended =
        let place : at + 11 + 2 * n ≡ at + (11 + 2 * n) = omega arith in
        let e : width_at text (at + 11 + 2 * n) ≡ width_at (drop at text) (11 + 2 * n) = ap (width_at text) place ∙ end_rest text at (11 + 2 * n) (omega arith) in
        let far : at + (11 + 2 * n + width_at (drop at text) (11 + 2 * n)) ≡ at + 11 + 2 * n + width_at text (at + 11 + 2 * n) = omega arith in
        let d : drop (11 + 2 * n + width_at (drop at text) (11 + 2 * n)) (drop at text) ≡ drop (at + 11 + 2 * n + width_at text (at + 11 + 2 * n)) text =
        drop-drop (11 + 2 * n + width_at (drop at text) (11 + 2 * n)) at text ∙ ap (λ (k : ℕ). drop k text) far in
        first-line (11 + 2 * n) (drop at text) (omega (arith, length-drop at text)) (omega (arith, length-drop at text)) plains (omega arith)
        ∙ ap (λ (rest : List ℕ). line_at text at n ∷ text_lines rest) d
      where
        plains : (j : ℕ) → j < 11 + 2 * n → Plain (get_or (drop at text) j 0)
        plains zero h = rw (get_or-drop at text 0 0, add-zero at, colon) (λ x. omega arith, λ x. omega arith)
        plains (suc j) h =
            let e : at + suc j ≡ at + 1 + j = omega arith in
            rw (get_or-drop at text (suc j) 0, e) (plain (get_or text (at + 1 + j) 0) (digits j (omega arith)))

-- what the code finds is a record's line
module _ (text : List ℕ) (at n inner after : ℕ) (inside : at + 11 + 2 * n ≤ length text) (colon : get_or text at 0 ≡ 58) (count : pair_at text (at + 1) ≡ n) (few : n ≤ 16) where
  pub stands : Weighs text (at + 9) n inner → {sum address : ℕ} {kind : RecordType}
      → sum ≡ pair_at text (at + 1) + pair_at text (at + 3) + pair_at text (at + 5) + pair_at text (at + 7) + inner + pair_at text (at + 9 + 2 * n) → sum < 8192
      → after ≡ width_at text (at + 11 + 2 * n) → after < 3 → address ≡ 256 * pair_at text (at + 3) + pair_at text (at + 5) → number_of_type kind ≡ pair_at text (at + 7)
      → StandsAt text at (record { count = n; address = address; kind = kind; sum = sum; next = at + 11 + 2 * n + after })
  stands w s low e ended a k =
      let p = parts-light text at n inner few w (omega arith) in
      let digits = all-light text (at + 1) (n + 5) p.0 in
      let f = line-formed text at n inside digits colon count in
      let c : count_of (line_at text at n) ≡ n = same_byte text at n inside digits 0 (at + 1) (omega arith) (omega arith) ∙ count in
      record {
        lines = rw e (next-line text at n inside digits colon (omega arith));
        formed = is-formed (line_at text at n) f;
        count = c;
        few = few;
        address = rw (same_byte text at n inside digits 1 (at + 3) (omega arith) (omega arith), same_byte text at n inside digits 2 (at + 5) (omega arith) (omega arith)) (sym a);
        type = same_byte text at n inside digits 3 (at + 7) (omega arith) (omega arith) ∙ sym k;
        sum = rw (c, same_sum text at n inside digits (n + 5) (omega arith), s) p.1;
        onward = omega arith;
        inside = rw e (end-inside text (at + 11 + 2 * n) inside (omega arith));
      }

-- a line that 27 is not given for, by positions
pub record Whole (text : List ℕ) (at : ℕ) : Type 0 where
  pub n : ℕ
  pub inside : at + 11 + 2 * n ≤ length text
  pub colon : get_or text at 0 ≡ 58
  pub digits : (j : ℕ) → j < 2 * (n + 5) → is_digit (get_or text (at + 1 + j) 0) ≡ true
  pub count : pair_at text (at + 1) ≡ n
  pub few : n ≤ 16
  pub type : pair_at text (at + 7) ≤ 1
  pub ended : width_at text (at + 11 + 2 * n) < 3

module _ (text : List ℕ) (at n : ℕ) (line : List ℕ) (is : line ≡ line_at text at n) (inside : at + 11 + 2 * n ≤ length text) where
  -- the same, in a line that is known
  whole_of : Formed line → count_of line ≡ n → n ≤ 16 → type_of line ≤ 1 → width_at (drop at text) (11 + 2 * n) < 3 → Whole text at
  whole_of f count few type ended =
      let digits : (j : ℕ) → j < 2 * (n + 5) → is_digit (get_or text (at + 1 + j) 0) ≡ true = λ j l.
      let e : at + 1 + j ≡ at + suc j = omega arith in
      rw (e, ← same-character text at n inside (suc j) (omega arith), ← is) (f.digits j (omega (arith, f.size))) in
      let place : at + 11 + 2 * n ≡ at + (11 + 2 * n) = omega arith in
      let c : line_byte (line_at text at n) 0 ≡ pair_at text (at + 1) = same_byte text at n inside digits 0 (at + 1) (omega arith) (omega arith) in
      record {
        n = n;
        inside = inside;
        colon = rw (← add-zero at, ← same-character text at n inside 0 (omega arith), ← is) f.colon;
        digits = digits;
        count = sym c ∙ rw (← is) count;
        few = few;
        type = omega (arith, rw is at type, same_byte text at n inside digits 3 (at + 7) (omega arith) (omega arith));
        ended = rw (place, end_rest text at (11 + 2 * n) (omega arith)) ended;
      }

pub whole : (text : List ℕ) (at : ℕ) → at < length text → malformed (text_lines (drop at text)) ≡ false → Whole text at
whole text at h fine = go (cut (drop at text) (omega (arith, length-drop at text)))
  where
    go : Cut (drop at text) → Whole text at
    go c =
        let g = good-formed c.line _ (good c.line _ (rw c.lines at fine)) in
        let f = formed c.line g.0 in
        whole_of text at (count_of c.line) c.line (c.first ∙ ap (λ (m : ℕ). take m (drop at text)) f.size) (omega (arith, c.inside, f.size, length-drop at text)) f refl g.1 g.2
        (rw f.size at c.ended)

-- where the code finds no such line, the text is malformed
pub not-whole : (text : List ℕ) (at : ℕ) → at < length text → (Whole text at → ⊥) → malformed (text_lines (drop at text)) ≡ true
not-whole text at h never = go (malformed (text_lines (drop at text))) refl
  where
    go : (b : Bool) → malformed (text_lines (drop at text)) ≡ b → malformed (text_lines (drop at text)) ≡ true
    go true e = e
    go false e = absurd (never (whole text at h e))

-- such a line is neither too heavy nor without an end
module _ (text : List ℕ) (at n : ℕ) (count : n ≡ pair_at text (at + 1)) (w : Whole text at) where
  same_count : w.n ≡ n
  same_count = sym w.count ∙ sym count

  pub never-heavy : (inner : ℕ) → Weighs text (at + 9) n inner
      → 8191 < pair_at text (at + 1) + pair_at text (at + 3) + pair_at text (at + 5) + pair_at text (at + 7) + inner + pair_at text (at + 9 + 2 * n) → ⊥
  never-heavy inner v h = omega (arith, light-parts text at n inner (omega (arith, w.few, same_count)) v (rw same_count at w.digits))

  pub never-open : width_at text (at + 11 + 2 * n) ≡ 3 → ⊥
  never-open e = let l : width_at text (at + 11 + 2 * n) < 3 = rw same_count at w.ended in omega arith

-- the characters `10`, and `00`
pub sixteen : (text : List ℕ) (p q : ℕ) → q ≡ p + 1 → get_or text p 0 ≡ 49 → get_or text q 0 ≡ 48 → pair_at text p ≡ 16
unfolding digit_weight is_digit digit_value
sixteen text p q e h l = rw (h, rw e at l)

nought : (text : List ℕ) (p q : ℕ) → q ≡ p + 1 → get_or text p 0 ≡ 48 → get_or text q 0 ≡ 48 → pair_at text p ≡ 0
unfolding digit_weight is_digit digit_value
nought text p q e h l = rw (h, rw e at l)

pub full-told : (text : List ℕ) (at : ℕ) → FullAt text at → (pair_at text (at + 1) ≡ 16) × (pair_at text (at + 7) ≡ 0)
full-told text at f =
    (sixteen text (at + 1) (at + 2) (omega arith) f.count.0 f.count.1, nought text (at + 7) (at + 8) (omega arith) f.type.0 f.type.1)
