-- Laws of decimal digits: a number's digits by its tenth's, and how many there are. Assumes nothing.
use mathlib.Core.Bool.{Bool, true, false, cond}
use mathlib.Core.List.{List, [], ◌∷◌, ◌++◌}
use mathlib.Core.Path.{◌≡◌, refl, ap, sym, ◌∙◌}
use Prim.Native.Nat.{ℕ, zero, suc, ◌+◌, ◌*◌, ◌/◌, ◌%◌, ◌≤◌, ◌<◌}
use native.Mathlib.Omega.{arith}
use borrow.Author.Tests.{lt-ltb, le-ltb, ltb-false}
use lib.Dec.{ltb}
use lib.ListN.{length, length-append}
use Rattle.text.proofs.Writing.{followed, same_text}
use Rattle.text.specs.Text.{digits_of, decimal_of}
use Rattle.text.specs.Buffer.{Put}

-- steps enough give the same digits
steps-enough : (k j n : ℕ) → n ≤ k → n ≤ j → digits_of k n ≡ digits_of j n
unfolding digits_of
steps-enough zero zero n h l = refl
steps-enough zero (suc j) n h l = rw (lt-ltb n 10 (omega arith))
steps-enough (suc k) zero n h l = rw (lt-ltb n 10 (omega arith))
steps-enough (suc k) (suc j) n h l = rw (steps-enough k j (n / 10) (omega arith) (omega arith))

-- one digit
pub units-only : (n : ℕ) → n < 10 → decimal_of n ≡ (48 + n) ∷ []
unfolding decimal_of digits_of
units-only zero h = refl
units-only (suc n) h = rw (lt-ltb (suc n) 10 h)

-- the digits of a tenth, and then the last
pub tens-and-units : (n : ℕ) → 10 ≤ n → decimal_of n ≡ decimal_of (n / 10) ++ ((48 + n % 10) ∷ [])
unfolding decimal_of digits_of
tens-and-units zero h = absurd (omega arith)
tens-and-units (suc n) h = rw (le-ltb (suc n) 10 h, steps-enough n (suc n / 10) (suc n / 10) (omega arith) (omega arith))

-- 10 to the power of a number
abbrev pub power : ℕ → ℕ
power zero = 1
power (suc k) = 10 * power k

by-test : (k s n : ℕ) (b : Bool) → ltb n 10 ≡ b → ((d : ℕ) → n / 10 < power (suc d) → length (digits_of s (n / 10)) ≤ suc d) → n < power (suc k)
    → length (cond b ((48 + n) ∷ []) (digits_of s (n / 10) ++ ((48 + n % 10) ∷ []))) ≤ suc k
by-test k s n true e r h = omega arith
by-test zero s n false e r h = absurd (omega (arith, ltb-false n 10 e))
by-test (suc k) s n false e r h = simp length-append (omega (arith, r k (omega arith)))

few : (k s n : ℕ) → n < power (suc k) → length (digits_of s n) ≤ suc k
unfolding digits_of
few k zero n h = omega arith
few k (suc s) n h = by-test k s n (ltb n 10) refl (λ d l. few d s (n / 10) l) h

-- a number below 10 to the power of k + 1 has at most k + 1 digits
pub few-digits : (k n : ℕ) → n < power (suc k) → length (decimal_of n) ≤ suc k
unfolding decimal_of
few-digits k n h = few k n n h

module _ (n digit : ℕ) (is : digit ≡ 48 + n % 10) where
  -- the only digit, written
  pub one-digit : n < 10 → {b e : List ℕ} {at next : ℕ} → Put (digit ∷ []) b at next e → Put (decimal_of n) b at next e
  one-digit h p = let d : digit ≡ 48 + n = omega arith in same_text (ap (λ (x : ℕ). x ∷ []) d ∙ sym (units-only n h)) p

  -- the last digit, written after a tenth's
  pub last-digit : 10 ≤ n → {b m e : List ℕ} {at next end : ℕ} → Put (decimal_of (n / 10)) b at next m → Put (digit ∷ []) m next end e → Put (decimal_of n) b at end e
  last-digit h p q = same_text (ap (λ (x : ℕ). decimal_of (n / 10) ++ (x ∷ [])) is ∙ sym (tens-and-units n h)) (followed p q)
