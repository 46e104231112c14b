-- Laws of the mask of pending slots: at first none is pending, a fork makes its result slot pending and no other, and sixteen bits hold
-- all slots. Assumes nothing.
use mathlib.Core.Bool.{true, false}
use mathlib.Core.Path.{◌≡◌, refl, sym, ◌∙◌, ap}
use Prim.Native.Nat.{ℕ, zero, suc, ◌+◌, ◌-◌, ◌*◌, ◌/◌, ◌%◌, ◌^◌, ◌<◌, ◌≤◌, max}
use native.Mathlib.Nat.{div-eq_of_lt, one-mul, max-le, max-zero}
use native.Mathlib.Decide.{ℕ_discrete, dec_lt}
use native.Mathlib.Omega.{arith}
use lib.Bits.{bit_or, or_shr, or_step, or_lt, shifted_even}
use lib.Pow.{pow-add, pow-lt, shl-shr, suc_ones}
use lib.Dec.{eqb}
use Rattle.thread.specs.Thread.{is_pending, with_pending}

power-some : (k : ℕ) → 0 < 2 ^ k
power-some k = let e = suc_ones k in omega arith

-- where no bit is set nothing is pending
pub nothing-pending : (k : ℕ) → is_pending 0 k ≡ false
unfolding is_pending
nothing-pending k = rw (div-eq_of_lt {n = 0} {m = 2 ^ k} (power-some k))

-- the bits of 2 to the d: bit d, and no other
own-bit : (d : ℕ) → 2 ^ d / 2 ^ d % 2 ≡ 1
own-bit d = ap (λ z. z % 2) (ap (λ z. z / 2 ^ d) (sym (one-mul (2 ^ d))) ∙ shl-shr 1 d)

other-bit : (d k : ℕ) → (k ≡ d → ⊥) → 2 ^ d / 2 ^ k % 2 ≡ 0
other-bit d k n = go (dec_lt k d)
  where
    split : (m : ℕ) → d ≡ suc m + k → 2 ^ d ≡ 2 ^ suc m * 2 ^ k
    split m e = ap (λ z. 2 ^ z) e ∙ pow-add 2 (suc m) k

    go : Dec (k < d) → 2 ^ d / 2 ^ k % 2 ≡ 0
    go (yes l) =
        ap (λ z. z / 2 ^ k % 2) (split (d - k - 1) (omega arith)) ∙ ap (λ z. z % 2) (shl-shr (2 ^ suc (d - k - 1)) k)
        ∙ ap (λ z. z % 2) (sym (one-mul (2 ^ suc (d - k - 1)))) ∙ shifted_even 1 (d - k - 1)
    go (no l) = ap (λ z. z % 2) (div-eq_of_lt (pow-lt {i = d} {j = k} (omega arith)))

-- the lowest bit of a union
lowest : (a b : ℕ) → bit_or a b % 2 ≡ max (a % 2) (b % 2)
lowest a b = let q : max (a % 2) (b % 2) ≤ 1 = max-le (omega arith) (omega arith) in rw (or_step a b) (omega arith)

-- slot d becomes pending
pub pending-set : (mask d : ℕ) → is_pending (with_pending mask d) d ≡ true
unfolding is_pending with_pending
pending-set mask d = rw (or_shr, lowest, own-bit d) (full (mask / 2 ^ d % 2) (omega arith))
  where
    full : (x : ℕ) → x < 2 → eqb (max x 1) 1 ≡ true
    full zero h = refl
    full (suc zero) h = refl
    full (suc (suc x)) h = absurd (omega arith)

-- and no other
pub pending-else : (mask d k : ℕ) → (k ≡ d → ⊥) → is_pending (with_pending mask d) k ≡ is_pending mask k
unfolding is_pending with_pending
pending-else mask d k n = rw (or_shr, lowest, other-bit d k n, max-zero)

-- so what was pending stays so
pub pending-stays : (mask d k : ℕ) → is_pending mask k ≡ true → is_pending (with_pending mask d) k ≡ true
pending-stays mask d k h = go (ℕ_discrete k d)
  where
    go : Dec (k ≡ d) → is_pending (with_pending mask d) k ≡ true
    go (yes e) = rw e (pending-set mask d)
    go (no n) = pending-else mask d k n ∙ h

-- sixteen bits are enough for sixteen slots
pub pending-bound : (mask d : ℕ) → mask < 65536 → d < 16 → with_pending mask d < 65536
unfolding with_pending
pending-bound mask d m l = or_lt 16 mask (2 ^ d) m (pow-lt {i = d} {j = 16} l)
