-- An image with zeros behind it. Assumes nothing.
use mathlib.Core.List.{List, ◌++◌}
use mathlib.Core.Path.{◌≡◌, sym, ◌∙◌, ap}
use Prim.Native.Nat.{ℕ, ◌+◌, ◌-◌, ◌<◌}
use native.Mathlib.Decide.{dec_lt}
use native.Mathlib.Omega.{arith}
use lib.ListN.{get_or, length, replicate, get_or-append, get_or-eq_default, get_or-replicate, length-replicate}
use lib.Seq.{get_or-append-add}
use Rattle.serial.specs.Steps.{Padded}

-- a zero stands at every position of zeros, and past them
zero-at : (n i : ℕ) → get_or (replicate {A = ℕ} n 0) i 0 ≡ 0
zero-at n i = go (dec_lt i n)
  where
    go : Dec (i < n) → get_or (replicate {A = ℕ} n 0) i 0 ≡ 0
    go (yes h) = get_or-replicate n i 0 0 h
    go (no h) = get_or-eq_default (replicate {A = ℕ} n 0) 0 {n = i} (omega (arith, length-replicate {A = ℕ} n 0))

pub with_zeros : (xs : List ℕ) (n : ℕ) → Padded xs (xs ++ replicate n 0)
with_zeros xs n = record { same = λ i. go i (dec_lt i (length xs)) }
  where
    go : (i : ℕ) → Dec (i < length xs) → get_or (xs ++ replicate n 0) i 0 ≡ get_or xs i 0
    go i (yes h) = get_or-append xs (replicate n 0) 0 i h
    go i (no h) =
        let e : i ≡ length xs + (i - length xs) = omega arith in
        ap (λ k. get_or (xs ++ replicate n 0) k 0) e ∙ get_or-append-add xs (replicate n 0) (i - length xs) 0
        ∙ zero-at n (i - length xs) ∙ sym (get_or-eq_default xs 0 (omega arith))
