-- Laws of a line's record: its parts, and what a text that is not malformed has. Assumes nothing.
use Rattle.std.proofs.Common.{◌≡◌, ℕ, zero, suc, ◌+◌, ◌*◌, ◌<◌, ◌≤◌, Bool, true, false, cond, not, ◌&&◌, ◌||◌, eqb, leb, List, [], ◌∷◌, length, get_or, drop, sym, refl, ap, ◌∙◌, true≢false, arith, length-drop, get_or-drop, eq-eqb, eqb-true, le-leb, leb-true}
use mathlib.Core.Bool.{and-eq-true_iff}
use Rattle.hex_format.specs.Digits.{is_digit}
use Rattle.hex_format.specs.Record.{line_byte, count_of, address_of, type_of, all_digits, well_formed, is_data, is_end}
use Rattle.hex_format.specs.Reading.{no_lines, malformed}
use Rattle.intel_hex.proofs.DigitLaws.{value-most}

digits-each : (xs : List ℕ) → all_digits xs ≡ true → (j : ℕ) → j < length xs → is_digit (get_or xs j 0) ≡ true
unfolding all_digits
digits-each [] h j l = absurd (omega arith)
digits-each (x ∷ xs) h zero l = ((and-eq-true_iff (is_digit x) (all_digits xs)).0 h).0
digits-each (x ∷ xs) h (suc j) l = digits-each xs ((and-eq-true_iff (is_digit x) (all_digits xs)).0 h).1 j (omega arith)

digits-all : (xs : List ℕ) → ((j : ℕ) → j < length xs → is_digit (get_or xs j 0) ≡ true) → all_digits xs ≡ true
unfolding all_digits
digits-all [] h = refl
digits-all (x ∷ xs) h = rw (h 0 (omega arith)) (digits-all xs (λ j l. h (suc j) (omega arith)))

-- the parts of the grammar
pub record Formed (line : List ℕ) : Type 0 where
  pub colon : get_or line 0 0 ≡ 58
  pub digits : (j : ℕ) → suc j < length line → is_digit (get_or line (suc j) 0) ≡ true
  pub size : length line ≡ 11 + 2 * count_of line

one_on : (line : List ℕ) (j : ℕ) → get_or (drop 1 line) j 0 ≡ get_or line (suc j) 0
one_on line j =
    let e : 1 + j ≡ suc j = omega arith in
    get_or-drop 1 line j 0 ∙ ap (λ (k : ℕ). get_or line k 0) e

pub formed : (line : List ℕ) → well_formed line ≡ true → Formed line
unfolding well_formed
formed line h =
    let a = (and-eq-true_iff (eqb (get_or line 0 0) 58) (all_digits (drop 1 line) && eqb (length line) (11 + 2 * count_of line))).0 h in
    let b = (and-eq-true_iff (all_digits (drop 1 line)) (eqb (length line) (11 + 2 * count_of line))).0 a.1 in
    record {
      colon = eqb-true (get_or line 0 0) 58 a.0;
      digits = λ j l. sym (ap is_digit (one_on line j)) ∙ digits-each (drop 1 line) b.0 j (omega (arith, length-drop 1 line));
      size = eqb-true (length line) (11 + 2 * count_of line) b.1;
    }

pub is-formed : (line : List ℕ) → Formed line → well_formed line ≡ true
unfolding well_formed
is-formed line f =
    let d : all_digits (drop 1 line) ≡ true = digits-all (drop 1 line) (λ j l. ap is_digit (one_on line j) ∙ f.digits j (omega (arith, length-drop 1 line))) in
    rw (eq-eqb (get_or line 0 0) 58 f.colon, d, eq-eqb (length line) (11 + 2 * count_of line) f.size)

-- a byte of a line
pub byte-most : (line : List ℕ) → Formed line → (k : ℕ) → 2 * k + 2 < length line → line_byte line k ≤ 255
byte-most line f k l =
    let h : is_digit (get_or line (2 * k + 1) 0) ≡ true = ap (λ (j : ℕ). is_digit (get_or line j 0)) (omega arith) ∙ f.digits (2 * k) (omega arith) in
    let o : is_digit (get_or line (2 * k + 2) 0) ≡ true = ap (λ (j : ℕ). is_digit (get_or line j 0)) (omega arith) ∙ f.digits (2 * k + 1) (omega arith) in
    omega (arith, value-most (get_or line (2 * k + 1) 0) h, value-most (get_or line (2 * k + 2) 0) o)

-- the two records
pub record IsData (line : List ℕ) : Type 0 where
  pub formed : well_formed line ≡ true
  pub type : type_of line ≡ 0
  pub some : 1 ≤ count_of line
  pub few : count_of line ≤ 16

pub data-parts : (line : List ℕ) → is_data line ≡ true → IsData line
unfolding is_data
data-parts line h =
    let a = (and-eq-true_iff (well_formed line) (eqb (type_of line) 0 && (leb 1 (count_of line) && leb (count_of line) 16))).0 h in
    let b = (and-eq-true_iff (eqb (type_of line) 0) (leb 1 (count_of line) && leb (count_of line) 16)).0 a.1 in
    let c = (and-eq-true_iff (leb 1 (count_of line)) (leb (count_of line) 16)).0 b.1 in
    record {
      formed = a.0;
      type = eqb-true (type_of line) 0 b.0;
      some = leb-true 1 (count_of line) c.0;
      few = leb-true (count_of line) 16 c.1;
    }

pub is-data : (line : List ℕ) → IsData line → is_data line ≡ true
unfolding is_data
is-data line d = rw (d.formed, eq-eqb (type_of line) 0 d.type, le-leb 1 (count_of line) d.some, le-leb (count_of line) 16 d.few)

pub record IsEnd (line : List ℕ) : Type 0 where
  pub formed : well_formed line ≡ true
  pub type : type_of line ≡ 1
  pub none : count_of line ≡ 0
  pub first : address_of line ≡ 0

pub end-parts : (line : List ℕ) → is_end line ≡ true → IsEnd line
unfolding is_end
end-parts line h =
    let a = (and-eq-true_iff (well_formed line) (eqb (type_of line) 1 && (eqb (count_of line) 0 && eqb (address_of line) 0))).0 h in
    let b = (and-eq-true_iff (eqb (type_of line) 1) (eqb (count_of line) 0 && eqb (address_of line) 0)).0 a.1 in
    let c = (and-eq-true_iff (eqb (count_of line) 0) (eqb (address_of line) 0)).0 b.1 in
    record {
      formed = a.0;
      type = eqb-true (type_of line) 1 b.0;
      none = eqb-true (count_of line) 0 c.0;
      first = eqb-true (address_of line) 0 c.1;
    }

pub is-end : (line : List ℕ) → IsEnd line → is_end line ≡ true
unfolding is_end
is-end line d = rw (d.formed, eq-eqb (type_of line) 1 d.type, eq-eqb (count_of line) 0 d.none, eq-eqb (address_of line) 0 d.first)

-- a first line that 27 is not given for: the end record alone, or a data record and what follows
pub data Good (line : List ℕ) (lines : List (List ℕ)) : Type 0 where
  end : is_end line ≡ true → lines ≡ [] → Good line lines
  more : is_end line ≡ false → is_data line ≡ true → malformed lines ≡ false → Good line lines

pub good : (line : List ℕ) (lines : List (List ℕ)) → malformed (line ∷ lines) ≡ false → Good line lines
unfolding malformed
good line lines h = one (is_end line) refl h
  where
    last : (ls : List (List ℕ)) → not (no_lines ls) ≡ false → ls ≡ []
    last [] e = refl
    last (l ∷ ls) e = absurd (true≢false e)

    two : (b : Bool) → is_end line ≡ false → is_data line ≡ b → (not b || malformed lines) ≡ false → Good line lines
    two true e d g = more e d g
    two false e d g = absurd (true≢false g)

    one : (b : Bool) → is_end line ≡ b → cond b (not (no_lines lines)) (not (is_data line) || malformed lines) ≡ false → Good line lines
    one true e g = end e (last lines g)
    one false e g = two (is_data line) e refl g

pub good-formed : (line : List ℕ) (lines : List (List ℕ)) → Good line lines → (well_formed line ≡ true) × (count_of line ≤ 16) × (type_of line ≤ 1)
good-formed line lines (end e n) = let p = end-parts line e in (p.formed, omega (arith, p.none), omega (arith, p.type))
good-formed line lines (more e d m) = let p = data-parts line d in (p.formed, p.few, omega (arith, p.type))
