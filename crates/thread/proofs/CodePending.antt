-- Pending slots as bits of a mask: what the code that tests them rests on. Assumes nothing.
use borrow.Author.Tests.{ne_eqb}
use mathlib.Core.Bool.{false, ◌||◌, not}
use mathlib.Core.Path.{◌≡◌, refl, sym, ◌∙◌, ap, subst}
use Prim.Native.Nat.{ℕ, zero, suc, ◌*◌, ◌/◌, ◌%◌, ◌^◌, ◌≤◌, ◌<◌}
use native.Mathlib.Decide.{ℕ_discrete}
use native.Mathlib.Nat.{div-eq_of_lt, div-one, mod-eq_of_lt, mod-one, one-mul, zero-div, zero-mod}
use native.Mathlib.Numerals.{add-one}
use native.Mathlib.Omega.{arith}
use lib.Dec.{eqb}
use lib.Pow.{pow-lt, pow_mono, shr_le, shr_lt, shr-shr, field, mod-mod-pow}
use Rattle.thread.specs.Effect.{run, any_pending}
use Rattle.thread.specs.Thread.{is_pending}

-- a mask of 16 bits has no bit from 16 on
pub none_high : (mask k : ℕ) → mask < 65536 → 16 ≤ k → false ≡ is_pending mask k
unfolding is_pending
none_high mask k h l = let b : 2 ^ 16 ≤ 2 ^ k = pow_mono l in let e : mask / 2 ^ k ≡ 0 = div-eq_of_lt (omega arith) in rw e

-- an empty mask has no bit
pub none_empty : (mask k : ℕ) → mask ≡ 0 → false ≡ is_pending mask k
unfolding is_pending
none_empty mask k h = let e : 0 / 2 ^ k ≡ 0 = zero-div (2 ^ k) in rw (h, e)

-- a number is 0 when its lowest bit and the rest are
low-or-rest : (x : ℕ) → (eqb (x % 2) 1 || not (eqb (x / 2) 0)) ≡ not (eqb x 0)
low-or-rest zero = refl
low-or-rest (suc x) = go (ℕ_discrete (suc x % 2) 1)
  where
    go : Dec (suc x % 2 ≡ 1) → (eqb (suc x % 2) 1 || not (eqb (suc x / 2) 0)) ≡ not (eqb (suc x) 0)
    go (yes e) = rw (e, ne_eqb (suc x) 0 (omega arith))
    go (no n) = rw (ne_eqb _ _ n, ne_eqb (suc x / 2) 0 (omega arith), ne_eqb (suc x) 0 (omega arith))

-- one of the slots from a on is pending when the mask is not 0 from bit a on
some-from : (mask n a : ℕ) → mask / 2 ^ a < 2 ^ n → any_pending (is_pending mask) (run a n) ≡ not (eqb (mask / 2 ^ a) 0)
unfolding run any_pending is_pending
some-from mask zero a h = let e : mask / 2 ^ a ≡ 0 = omega arith in rw e
some-from mask (suc n) a h =
    ap (λ z. eqb (mask / 2 ^ a % 2) 1 || z) (some-from mask n (suc a) (subst (λ z. z < 2 ^ n) half (shr_lt n 1 (rw add-one h)))
    ∙ ap (λ z. not (eqb z 0)) (sym half))
    ∙ low-or-rest (mask / 2 ^ a)
  where
    half : mask / 2 ^ a / 2 ≡ mask / 2 ^ suc a
    half = shr-shr mask a 1 ∙ ap (λ z. mask / 2 ^ z) (add-one a)

-- one of n slots from a on is pending when the n bits from bit a on are not all 0
some_in : (mask n a : ℕ) → any_pending (is_pending mask) (run a n) ≡ not (eqb (mask / 2 ^ a % 2 ^ n) 0)
unfolding run any_pending is_pending
some_in mask zero a = rw (mod-one (mask / 2 ^ a))
some_in mask (suc n) a =
    ap (λ z. eqb (mask / 2 ^ a % 2) 1 || z) (some_in mask n (suc a) ∙ ap (λ z. not (eqb z 0)) (sym rest))
    ∙ ap (λ z. eqb z 1 || not (eqb (mask / 2 ^ a % 2 ^ suc n / 2) 0)) (sym lowest)
    ∙ low-or-rest (mask / 2 ^ a % 2 ^ suc n)
  where
    rest : mask / 2 ^ a % 2 ^ suc n / 2 ≡ mask / 2 ^ suc a % 2 ^ n
    rest = ap (λ z. mask / 2 ^ a % 2 ^ z / 2) (sym (add-one n)) ∙ field (mask / 2 ^ a) n 1
        ∙ ap (λ z. z % 2 ^ n) (shr-shr mask a 1 ∙ ap (λ z. mask / 2 ^ z) (add-one a))

    lowest : mask / 2 ^ a % 2 ^ suc n % 2 ≡ mask / 2 ^ a % 2
    lowest = ap (λ z. mask / 2 ^ a % 2 ^ z % 2) (sym (add-one n)) ∙ mod-mod-pow (mask / 2 ^ a) n 1

-- no slot from 16 on
pub run_high : (mask a n : ℕ) → mask < 65536 → 16 ≤ a → false ≡ any_pending (is_pending mask) (run a n)
run_high mask a n h l =
    let b : 2 ^ 16 ≤ 2 ^ a = pow_mono l in
    let e : mask / 2 ^ a ≡ 0 = div-eq_of_lt (omega arith) in
    let z : 0 % 2 ^ n ≡ 0 = zero-mod (2 ^ n) in
    sym (some_in mask n a ∙ rw (e, z))

-- more slots than there are
pub run_long : (mask a n : ℕ) → mask < 65536 → 16 ≤ n → not (eqb (mask / 2 ^ a) 0) ≡ any_pending (is_pending mask) (run a n)
run_long mask a n h l =
    let b : 2 ^ 16 ≤ 2 ^ n = pow_mono l in
    let s = shr_le mask a in
    sym (some-from mask n a (omega arith))

-- fewer: the bits below bit n, which 16 bits hold
pub one_bit : (n : ℕ) → n < 16 → 1 * 2 ^ n % 65536 ≡ 2 ^ n
one_bit n h = mod-eq_of_lt (rw one-mul (pow-lt {i = n} {j = 16} h)) ∙ one-mul (2 ^ n)

pub bit_some : (n : ℕ) → n < 16 → 0 < 1 * 2 ^ n % 65536
bit_some n h = let b : 2 ^ 0 ≤ 2 ^ n = pow_mono {i = 0} {j = n} (omega arith) in rw (one_bit n h) (omega arith)

pub run_part : (mask a n : ℕ) → n < 16 → not (eqb (mask / 2 ^ a % (1 * 2 ^ n % 65536)) 0) ≡ any_pending (is_pending mask) (run a n)
run_part mask a n h = rw (one_bit n h) (sym (some_in mask n a))

-- one of the sixteen slots is pending when the mask is not 0
pub some_pending : (mask : ℕ) → mask < 65536 → not (eqb mask 0) ≡ any_pending (is_pending mask) (run 0 16)
some_pending mask h = sym (some-from mask 16 0 (omega arith) ∙ ap (λ z. not (eqb z 0)) (div-one mask))
