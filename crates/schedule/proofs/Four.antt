-- Four steps that stand at a position are told by their bytes, and are read there one after another. Assumes nothing.
use mathlib.Core.Bool.{true}
use mathlib.Core.List.{List}
use mathlib.Core.Path.{◌≡◌}
use Prim.Native.Nat.{ℕ, ◌+◌, ◌≤◌}
use native.Mathlib.Nat.{add_assoc}
use native.Mathlib.Omega.{arith}
use borrow.Author.Tests.{leb-true, eqb-true}
use lib.ListN.{length, get_or}
use Rattle.schedule.proofs.Bools.{both}
use Rattle.schedule.proofs.Standing.{reads-step}
use Rattle.schedule.specs.Format.{entry_at}
use Rattle.schedule.specs.Four.{four_steps}
use Rattle.schedule.specs.declared.Entry.TheVariants.{Step}
use Rattle.std.proofs.Common.{Some, Ok}

-- the bytes of four steps
pub record Bytes (s : List ℕ) (at : ℕ) : Type 0 where
  pub fits : at + 8 ≤ length s
  pub first : get_or s at 0 ≡ 1
  pub second : get_or s (at + 2) 0 ≡ 1
  pub third : get_or s (at + 4) 0 ≡ 1
  pub fourth : get_or s (at + 6) 0 ≡ 1

-- the steps as they are read
pub record Steps (s : List ℕ) (at : ℕ) : Type 0 where
  pub first : entry_at s at ≡ Ok (Some (Step (get_or s (at + 1) 0), at + 2))
  pub second : entry_at s (at + 2) ≡ Ok (Some (Step (get_or s (at + 3) 0), at + 4))
  pub third : entry_at s (at + 4) ≡ Ok (Some (Step (get_or s (at + 5) 0), at + 6))
  pub fourth : entry_at s (at + 6) ≡ Ok (Some (Step (get_or s (at + 7) 0), at + 8))

module _ (s : List ℕ) (at : ℕ) where
  bytes : four_steps s at ≡ true → Bytes s at
  unfolding four_steps
  bytes h =
      let a = both _ _ h in
      let b = both _ _ a.1 in
      let c = both _ _ b.1 in
      let d = both _ _ c.1 in
      record { fits = leb-true _ _ a.0; first = eqb-true _ _ b.0; second = eqb-true _ _ c.0; third = eqb-true _ _ d.0; fourth = eqb-true _ _ d.1 }

  -- the step k bytes behind the position
  behind : (k : ℕ) → at + k + 2 ≤ length s → get_or s (at + k) 0 ≡ 1 → entry_at s (at + k) ≡ Ok (Some (Step (get_or s (at + (k + 1)) 0), at + (k + 2)))
  behind k l h = rw (← add_assoc at k 1, ← add_assoc at k 2) (reads-step s (at + k) (omega arith) h)

  pub steps : four_steps s at ≡ true → Steps s at
  steps h =
      let b : Bytes s at = bytes h in
      record {
        first = reads-step s at (omega arith) b.first;
        second = behind 2 (omega arith) b.second;
        third = behind 4 (omega arith) b.third;
        fourth = behind 6 (omega arith) b.fourth;
      }
