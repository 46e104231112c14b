-- Laws of a text's lines: the first of them, and where it ends. Assumes nothing.
use Rattle.std.specs.Prelude.{Option, Some, None}
use Rattle.std.proofs.Common.{◌≡◌, ℕ, zero, suc, ◌+◌, ◌-◌, ◌<◌, ◌≤◌, Bool, true, false, cond, ◌&&◌, eqb, ltb, List, [], ◌∷◌, length, get_or, take, drop, sym, refl, ap, ◌∙◌, zero-add, arith, length-drop, get_or-drop, ltb-false, ltb-true, eq-eqb, ne_eqb, eqb-true}
use mathlib.Core.Bool.{and-eq-true_iff}
use borrow.Author.Tests.{eqb-false}
use lib.Dec.{eqb-suc-suc, eqb-zero-suc}
use lib.ListN.{get_or-eq_default}
use lib.Seq.{drop-nil}
use Rattle.hex_format.specs.Lines.{before, text_lines}
use Rattle.intel_hex.specs.Found.{end_at}

-- how many characters end a line at a position; 3 where no line ends there
unfoldable pub width_at : List ℕ → ℕ → ℕ
width_at text at = cond (eqb at (length text)) 0 (cond (eqb (get_or text at 0) 10) 1 (cond (eqb (get_or text at 0) 13 && eqb (get_or text (at + 1) 0) 10) 2 3))

-- what the code tells of it
pub data Width (text : List ℕ) (at : ℕ) : Option ℕ → Type 0 where
  ends : {n : ℕ} → width_at text at ≡ n → n < 3 → Width text at (Some n)
  open_end : width_at text at ≡ 3 → Width text at None

width : (text : List ℕ) (at : ℕ) → Width text at (end_at text at)
unfolding width_at end_at
width text at = one (eqb at (length text)) (eqb (get_or text at 0) 10) (eqb (get_or text at 0) 13 && eqb (get_or text (at + 1) 0) 10) refl refl refl
  where
    one : (a b c : Bool) → eqb at (length text) ≡ a → eqb (get_or text at 0) 10 ≡ b → (eqb (get_or text at 0) 13 && eqb (get_or text (at + 1) 0) 10) ≡ c
        → Width text at (cond a (Some 0) (cond b (Some 1) (cond c (Some 2) None)))
    one true b c x y z = ends (rw x) (omega arith)
    one false true c x y z = ends (rw (x, y)) (omega arith)
    one false false true x y z = ends (rw (x, y, z)) (omega arith)
    one false false false x y z = open_end (rw (x, y, z))

some-width : (text : List ℕ) (at n : ℕ) (o : Option ℕ) → Width text at o → o ≡ Some n → (width_at text at ≡ n) × (n < 3)
some-width text at n (Some m) (ends e l) p = let same : m ≡ n = cc in (e ∙ same, omega arith)
some-width text at n None (open_end e) p = cc

pub end-told : (text : List ℕ) (at n : ℕ) → end_at text at ≡ Some n → (width_at text at ≡ n) × (n < 3)
end-told text at n e = some-width text at n (end_at text at) (width text at) e

no-width : (text : List ℕ) (at : ℕ) (o : Option ℕ) → Width text at o → o ≡ None → width_at text at ≡ 3
no-width text at (Some m) (ends e l) p = cc
no-width text at None (open_end e) p = e

pub no-end : (text : List ℕ) (at : ℕ) → end_at text at ≡ None → width_at text at ≡ 3
no-end text at e = no-width text at (end_at text at) (width text at) e

by-width : (text : List ℕ) (at : ℕ) (o : Option ℕ) → Width text at o → width_at text at < 3 → o ≡ Some (width_at text at)
by-width text at (Some m) (ends e l) h = ap Some (sym e)
by-width text at None (open_end e) h = absurd (omega arith)

pub end-is : (text : List ℕ) (at : ℕ) → width_at text at < 3 → end_at text at ≡ Some (width_at text at)
end-is text at h = by-width text at (end_at text at) (width text at) h

-- a character that is no part of a line's end
abbrev pub Plain : ℕ → Type 0
Plain c = (c ≡ 10 → ⊥) × (c ≡ 13 → ⊥)

-- what ends no line belongs to one
inside-line : (c : ℕ) (text : List ℕ) → eqb c 10 ≡ false → (eqb c 13 && eqb (get_or text 0 0) 10) ≡ false → text_lines (c ∷ text) ≡ before c (text_lines text)
unfolding text_lines
inside-line c text e f = rw (e, f)

pub plain-first : (c : ℕ) (text : List ℕ) → Plain c → text_lines (c ∷ text) ≡ before c (text_lines text)
plain-first c text p = inside-line c text (ne_eqb c 10 p.0) (rw (ne_eqb c 13 p.1))

no_more : (c e : ℕ) → before c (text_lines []) ≡ (c ∷ []) ∷ text_lines (drop (1 + e) (c ∷ []))
unfolding text_lines
no_more c e =
    let s : 1 + e ≡ suc e = omega arith in
    rw (s, drop-nil {A = ℕ} e)

end_later : (c : ℕ) (text : List ℕ) (k : ℕ) → width_at (c ∷ text) (suc k) ≡ width_at text k
unfolding width_at
end_later c text k =
    let e : suc k + 1 ≡ suc (k + 1) = omega arith in
    rw (eqb-suc-suc k (length text), e)

-- where a line ends at the front: at an LF, or at a CR LF
pub data Ended (cs : List ℕ) : Type 0 where
  feed : (text : List ℕ) → cs ≡ 10 ∷ text → Ended cs
  return : (text : List ℕ) → cs ≡ 13 ∷ 10 ∷ text → Ended cs

pub ended-first : (c : ℕ) (text : List ℕ) → width_at (c ∷ text) 0 < 3 → Ended (c ∷ text)
unfolding width_at
ended-first c text h = one (eqb c 10) refl (rw (eqb-zero-suc (length text)) at h)
  where
    three : (t : List ℕ) → c ≡ 13 → get_or t 0 0 ≡ 10 → Ended (c ∷ t)
    three [] e g = absurd (omega arith)
    three (d ∷ t) e g = return t (rw (e, g))

    two : (b : Bool) → (eqb c 13 && eqb (get_or text 0 0) 10) ≡ b → cond b 2 3 < 3 → Ended (c ∷ text)
    two true e l = let t = (and-eq-true_iff (eqb c 13) (eqb (get_or text 0 0) 10)).0 e in three text (eqb-true c 13 t.0) (eqb-true (get_or text 0 0) 10 t.1)
    two false e l = absurd (omega arith)

    one : (b : Bool) → eqb c 10 ≡ b → cond b 1 (cond (eqb c 13 && eqb (get_or text 0 0) 10) 2 3) < 3 → Ended (c ∷ text)
    one true e l = feed text (rw (eqb-true c 10 e))
    one false e l = two (eqb c 13 && eqb (get_or text 0 0) 10) refl l

-- a line that says nothing
pub empty-line : (cs : List ℕ) → Ended cs → (text_lines cs ≡ [] ∷ text_lines (drop (width_at cs 0) cs)) × (width_at cs 0 < 3)
unfolding text_lines width_at
empty-line cs (feed text e) = rw (e, eqb-zero-suc (length text)) (refl, omega arith)
empty-line cs (return text e) = rw (e, eqb-zero-suc (suc (length text))) (refl, omega arith)

-- plain characters up to a line's end are a line
pub first-line : (k : ℕ) (cs : List ℕ) → 0 < length cs → k ≤ length cs → ((j : ℕ) → j < k → Plain (get_or cs j 0)) → width_at cs k < 3
    → text_lines cs ≡ take k cs ∷ text_lines (drop (k + width_at cs k) cs)
first-line k [] some inside plain ended = absurd (omega arith)
first-line zero (c ∷ text) some inside plain ended = rw (zero-add (width_at (c ∷ text) 0)) (empty-line (c ∷ text) (ended-first c text ended)).0
first-line (suc zero) (c ∷ []) some inside plain ended = plain-first c [] (plain 0 (omega arith)) ∙ no_more c (width_at (c ∷ []) 1)
first-line (suc (suc k)) (c ∷ []) some inside plain ended = absurd (omega arith)
first-line (suc k) (c ∷ d ∷ text) some inside plain ended =
    let e : suc k + width_at (d ∷ text) k ≡ suc (k + width_at (d ∷ text) k) = omega arith in
    rw (
      plain-first c (d ∷ text) (plain 0 (omega arith)),
      end_later c (d ∷ text) k,
      e,
      first-line k (d ∷ text) (omega arith) (omega arith) (λ j h. plain (suc j) (omega arith)) (rw (end_later c (d ∷ text) k) at ended),
    )

-- the first line, whatever its characters
pub record Cut (cs : List ℕ) : Type 0 where
  pub line : List ℕ
  pub lines : text_lines cs ≡ line ∷ text_lines (drop (length line + width_at cs (length line)) cs)
  pub first : line ≡ take (length line) cs
  pub inside : length line ≤ length cs
  pub ended : width_at cs (length line) < 3

cut-after : (c : ℕ) (text : List ℕ) → Cut text → text_lines (c ∷ text) ≡ before c (text_lines text) → Cut (c ∷ text)
cut-after c text cut is =
    let n : ℕ = length cut.line in
    let e : suc n + width_at text n ≡ suc (n + width_at text n) = omega arith in
    record {
      line = c ∷ cut.line;
      lines = rw (is, end_later c text n, e, cut.lines);
      first = ap (λ (l : List ℕ). c ∷ l) cut.first;
      inside = omega (arith, cut.inside);
      ended = rw (end_later c text n) cut.ended;
    }

cut-empty : (cs : List ℕ) → Ended cs → Cut cs
cut-empty cs h =
    let e = empty-line cs h in
    record { line = []; lines = rw (zero-add (width_at cs 0)) e.0; first = refl; inside = omega arith; ended = e.1 }

cut-return : (c : ℕ) (text : List ℕ) → c ≡ 13 → get_or text 0 0 ≡ 10 → Cut (c ∷ text)
cut-return c [] e f = absurd (omega arith)
cut-return c (d ∷ text) e f = cut-empty (c ∷ d ∷ text) (return text (rw (e, f)))

cut-last : (c : ℕ) → text_lines (c ∷ []) ≡ before c (text_lines []) → Cut (c ∷ [])
unfolding width_at
cut-last c is = record { line = c ∷ []; lines = is ∙ no_more c (width_at (c ∷ []) 1); first = refl; inside = omega arith; ended = omega arith }

by_tests : (c : ℕ) (text : List ℕ) → (text_lines (c ∷ text) ≡ before c (text_lines text) → Cut (c ∷ text)) → Cut (c ∷ text)
by_tests c text go = one (eqb c 10) refl
  where
    two : eqb c 10 ≡ false → (b : Bool) → (eqb c 13 && eqb (get_or text 0 0) 10) ≡ b → Cut (c ∷ text)
    two e true f = let t = (and-eq-true_iff (eqb c 13) (eqb (get_or text 0 0) 10)).0 f in cut-return c text (eqb-true c 13 t.0) (eqb-true (get_or text 0 0) 10 t.1)
    two e false f = go (inside-line c text e f)

    one : (b : Bool) → eqb c 10 ≡ b → Cut (c ∷ text)
    one true e = cut-empty (c ∷ text) (feed text (rw (eqb-true c 10 e)))
    one false e = two e (eqb c 13 && eqb (get_or text 0 0) 10) refl

cut-cons : (c : ℕ) (text : List ℕ) → Cut (c ∷ text)
cut-cons c [] = by_tests c [] (cut-last c)
cut-cons c (d ∷ text) = by_tests c (d ∷ text) (cut-after c (d ∷ text) (cut-cons d text))

pub cut : (cs : List ℕ) → 0 < length cs → Cut cs
cut [] some = absurd (omega arith)
cut (c ∷ text) some = cut-cons c text

-- where a line ends in a text's rest
pub end_rest : (text : List ℕ) (at k : ℕ) → at + k ≤ length text → width_at text (at + k) ≡ width_at (drop at text) k
unfolding width_at
end_rest text at k h =
    let n : at + k + 1 ≡ at + (k + 1) = omega arith in
    rw (length-drop at text, get_or-drop at text k 0, get_or-drop at text (k + 1) 0, n, same (eqb (at + k) (length text)) refl)
  where
    same : (b : Bool) → eqb (at + k) (length text) ≡ b → eqb (at + k) (length text) ≡ eqb k (length text - at)
    same true e = e ∙ sym (eq-eqb k (length text - at) (omega (arith, eqb-true (at + k) (length text) e)))
    same false e = e ∙ sym (ne_eqb k (length text - at) (λ g. eqb-false (at + k) (length text) e (omega arith)))

-- a line's end lies in the text
stands-in : (text : List ℕ) (k : ℕ) → get_or text k 0 ≡ 10 → k < length text
stands-in text k e = go (ltb k (length text)) refl
  where
    go : (b : Bool) → ltb k (length text) ≡ b → k < length text
    go true t = ltb-true k (length text) t
    go false t = absurd (omega (arith, get_or-eq_default text 0 {n = k} (ltb-false k (length text) t)))

pub end-inside : (text : List ℕ) (k : ℕ) → k ≤ length text → width_at text k < 3 → k + width_at text k ≤ length text
unfolding width_at
end-inside text k h l = one (eqb k (length text)) refl l
  where
    feeds : Bool
    feeds = eqb (get_or text k 0) 10

    returns : Bool
    returns = eqb (get_or text k 0) 13 && eqb (get_or text (k + 1) 0) 10

    three : (b : Bool) → returns ≡ b → cond b 2 3 < 3 → k + cond b 2 3 ≤ length text
    three true e g = omega (arith, stands-in text (k + 1) (eqb-true (get_or text (k + 1) 0) 10 ((and-eq-true_iff (eqb (get_or text k 0) 13) (eqb (get_or text (k + 1) 0) 10)).0 e).1))
    three false e g = absurd (omega arith)

    two : (b : Bool) → feeds ≡ b → cond b 1 (cond returns 2 3) < 3 → k + cond b 1 (cond returns 2 3) ≤ length text
    two true e g = omega (arith, stands-in text k (eqb-true (get_or text k 0) 10 e))
    two false e g = three returns refl g

    one : (b : Bool) → eqb k (length text) ≡ b → cond b 0 (cond feeds 1 (cond returns 2 3)) < 3 → k + cond b 0 (cond feeds 1 (cond returns 2 3)) ≤ length text
    one true e g = omega arith
    one false e g = two feeds refl g

pub end-most : (text : List ℕ) (k : ℕ) → width_at text k ≤ 3
unfolding width_at
end-most text k = one (eqb k (length text)) (eqb (get_or text k 0) 10) (eqb (get_or text k 0) 13 && eqb (get_or text (k + 1) 0) 10)
  where
    one : (a b c : Bool) → cond a 0 (cond b 1 (cond c 2 3)) ≤ 3
    one true b c = omega arith
    one false true c = omega arith
    one false false true = omega arith
    one false false false = omega arith
