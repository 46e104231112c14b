-- Laws of digits and of the tables of them. Assumes nothing.
use Rattle.std.proofs.Common.{◌≡◌, ℕ, zero, suc, ◌+◌, ◌-◌, ◌<◌, ◌≤◌, Bool, true, false, cond, ◌&&◌, ◌||◌, eqb, ltb, leb, List, [], ◌∷◌, length, get_or, refl, ap, ◌∙◌, add-zero, zero-add, arith, ltb-false, ltb-true, eqb-true, le-leb, leb-true}
use mathlib.Core.Bool.{and-eq-true_iff}
use borrow.Author.Tests.{lt-leb}
use Rattle.hex_format.specs.Digits.{capital, between, is_digit, digit_value}
use Rattle.intel_hex.specs.declared.digits.TheConstants.{WEIGHTS}
use Rattle.intel_hex.specs.Found.{digit_weight}

-- where a digit's character lies
pub data Range (c : ℕ) : Type 0 where
  number : 48 ≤ c → c ≤ 57 → Range c
  upper : 65 ≤ c → c ≤ 70 → Range c
  lower : 97 ≤ c → c ≤ 102 → Range c

bounds : (first last c : ℕ) → between first last c ≡ true → (first ≤ c) × (c ≤ last)
bounds first last c h =
    let t = (and-eq-true_iff (leb first c) (leb c last)).0 h in
    (leb-true first c t.0, leb-true c last t.1)

pub range : (c : ℕ) → is_digit c ≡ true → Range c
unfolding is_digit
range c h = one (between 48 57 c) refl h
  where
    two : (b : Bool) → between 65 70 c ≡ b → (b || between 97 102 c) ≡ true → Range c
    two true e g = upper (bounds 65 70 c e).0 (bounds 65 70 c e).1
    two false e g = lower (bounds 97 102 c g).0 (bounds 97 102 c g).1

    one : (b : Bool) → between 48 57 c ≡ b → (b || (between 65 70 c || between 97 102 c)) ≡ true → Range c
    one true e g = number (bounds 48 57 c e).0 (bounds 48 57 c e).1
    one false e g = two (between 65 70 c) refl g

value-at-most : (c : ℕ) → Range c → digit_value c ≤ 15
unfolding digit_value
value-at-most c (number a b) = rw (le-leb c 57 b) (omega arith)
value-at-most c (upper a b) = rw (lt-leb c 57 (omega arith), le-leb c 70 b) (omega arith)
value-at-most c (lower a b) = rw (lt-leb c 57 (omega arith), lt-leb c 70 (omega arith)) (omega arith)

pub value-most : (c : ℕ) → is_digit c ≡ true → digit_value c ≤ 15
value-most c h = value-at-most c (range c h)

plain_in : (c : ℕ) → Range c → (c ≡ 10 → ⊥) × (c ≡ 13 → ⊥)
plain_in c (number a b) = (λ e. omega arith, λ e. omega arith)
plain_in c (upper a b) = (λ e. omega arith, λ e. omega arith)
plain_in c (lower a b) = (λ e. omega arith, λ e. omega arith)

-- a digit is no part of a line's end
pub plain : (c : ℕ) → is_digit c ≡ true → (c ≡ 10 → ⊥) × (c ≡ 13 → ⊥)
plain c h = plain_in c (range c h)

-- a digit's weight is its value, and nothing else weighs as little
pub weight-value : (c : ℕ) → is_digit c ≡ true → digit_weight c ≡ digit_value c
unfolding digit_weight
weight-value c h = rw h

by-digit : (c : ℕ) (b : Bool) → is_digit c ≡ b → (digit_weight c ≤ 8192) × (digit_weight c < 8192 → is_digit c ≡ true)
unfolding digit_weight
by-digit c true h = rw h (omega (arith, value-most c h), λ l. refl)
by-digit c false h = rw h (omega arith, λ l. absurd (omega arith))

pub weight-most : (c : ℕ) → digit_weight c ≤ 8192
weight-most c = (by-digit c (is_digit c) refl).0

pub light : (c : ℕ) → digit_weight c < 8192 → is_digit c ≡ true
light c = (by-digit c (is_digit c) refl).1

-- a capital is a digit of its value
pub capital-digit : (d : ℕ) → d < 16 → (is_digit (capital d) ≡ true) × (digit_value (capital d) ≡ d)
unfolding capital is_digit digit_value
capital-digit d h = go (ltb d 10) refl
  where
    go : (b : Bool) → ltb d 10 ≡ b → ((between 48 57 (cond b (48 + d) (55 + d)) || (between 65 70 (cond b (48 + d) (55 + d)) || between 97 102 (cond b (48 + d) (55 + d)))) ≡ true)
        × (cond (leb (cond b (48 + d) (55 + d)) 57) (cond b (48 + d) (55 + d) - 48) (cond (leb (cond b (48 + d) (55 + d)) 70) (cond b (48 + d) (55 + d) - 55) (cond b (48 + d) (55 + d) - 87)) ≡ d)
    go true e =
        let l : d < 10 = ltb-true d 10 e in
        rw (le-leb 48 (48 + d) (omega arith), le-leb (48 + d) 57 (omega arith)) (refl, omega arith)
    go false e =
        let l : 10 ≤ d = ltb-false d 10 e in
        rw (le-leb 48 (55 + d) (omega arith), lt-leb (55 + d) 57 (omega arith), le-leb 65 (55 + d) (omega arith), le-leb (55 + d) 70 (omega arith)) (refl, omega arith)

-- a rule that holds at each entry of a table, by one test over all of them
abbrev pub every : (ℕ → ℕ → Bool) → ℕ → List ℕ → Bool
every rule i [] = true
every rule i (x ∷ xs) = rule i x && every rule (suc i) xs

pub each : (rule : ℕ → ℕ → Bool) (xs : List ℕ) (i k : ℕ) → every rule i xs ≡ true → k < length xs → rule (i + k) (get_or xs k 0) ≡ true
each rule [] i k h l = absurd (omega arith)
each rule (x ∷ xs) i zero h l = rw (add-zero i) ((and-eq-true_iff (rule i x) (every rule (suc i) xs)).0 h).0
each rule (x ∷ xs) i (suc k) h l =
    let e : i + suc k ≡ suc i + k = omega arith in
    rw e (each rule xs (suc i) k ((and-eq-true_iff (rule i x) (every rule (suc i) xs)).0 h).1 (omega arith))

-- the table has each character's weight
weights-right : (c : ℕ) → c < 256 → get_or WEIGHTS c 0 ≡ digit_weight c
unfolding digit_weight is_digit digit_value
weights-right c h =
    let e : eqb (get_or WEIGHTS c 0) (digit_weight (0 + c)) ≡ true = each (λ k x. eqb x (digit_weight k)) WEIGHTS 0 c refl h in
    eqb-true (get_or WEIGHTS c 0) (digit_weight c) (rw (zero-add c) at e)

pub weighed : (k c : ℕ) → k ≡ c → c < 256 → (get_or WEIGHTS k 0 ≡ digit_weight c) × (get_or WEIGHTS k 0 ≤ 8192)
weighed k c e h =
    let w : get_or WEIGHTS k 0 ≡ digit_weight c = ap (λ (n : ℕ). get_or WEIGHTS n 0) e ∙ weights-right c h in
    (w, omega (arith, w, weight-most c))
