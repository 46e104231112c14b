-- The first slots of a routine: each is its argument, or zero; its arguments stand before as many of the zeros as are left. Assumes nothing.
use mathlib.Core.List.{List, ◌++◌}
use mathlib.Core.Path.{◌≡◌, sym, ◌∙◌, ap}
use Prim.Native.Nat.{ℕ, ◌+◌, ◌-◌, ◌≤◌, ◌<◌}
use native.Mathlib.Omega.{arith}
use lib.ListN.{get_or, length, take, drop, replicate}
use lib.Seq.{get_or-take}
use Rattle.std.proofs.Math.Seq.{take-append-add}
use Rattle.std.proofs.lemmas.List.{take-replicate, drop-replicate}
use Rattle.serial.specs.Steps.{first_slots}
use Rattle.serial.proofs.Zeros.{with_zeros}

-- slot i of the first slots
pub first-at : (xs : List ℕ) (i : ℕ) → i < 16 → get_or (first_slots xs) i 0 ≡ get_or xs i 0
first-at xs i h = get_or-take 16 (xs ++ replicate 16 0) i 0 h ∙ (with_zeros xs 16).same i

-- its arguments, laid over zeros
pub laid : (xs : List ℕ) → length xs ≤ 16 → xs ++ drop (length xs) (replicate 16 0) ≡ first_slots xs
laid xs few =
    let rest = 16 - length xs in
    let all : 16 ≡ length xs + rest = omega (arith, few) in
    let zeros = sym (take-replicate rest 16 0 (omega arith)) in
    ap (λ z. xs ++ z) (drop-replicate (length xs) 16 0 ∙ zeros) ∙ sym (take-append-add xs (replicate 16 0) rest) ∙ ap (λ k. take k (xs ++ replicate 16 0)) (sym all)
