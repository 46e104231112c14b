-- Rows of steps of one core: what the loops of `steps_after` have passed. Assumes nothing.
use mathlib.Core.List.{List}
use mathlib.Core.Path.{◌≡◌}
use Prim.Native.Nat.{ℕ, ◌+◌, ◌*◌, ◌-◌, ◌/◌, ◌≤◌, ◌<◌}
use native.Mathlib.Nat.{add-zero, mul-zero}
use native.Mathlib.Omega.{arith}
use borrow.Author.Count.{below_none, below_more}
use lib.ListN.{length}
use Rattle.schedule.specs.declared.Entry.TheVariants.{Step}
use Rattle.schedule.specs.Format.{entry_at}
use Rattle.schedule.proofs.Standing.{FoundAt, found}
use Rattle.reader.proofs.Pairs.{Steps}
use Rattle.reader.specs.Row.{StepsRow}
use Rattle.std.proofs.Common.{Some, Ok}

-- some steps of core c, from a position to another
pub record Part (s : List ℕ) (at c i : ℕ) : Type 0 where
  pub many : ℕ
  pub here : i ≡ at + 2 * many
  pub within : i ≤ length s
  pub each : (k : ℕ) → k < many → entry_at s (at + 2 * k) ≡ Ok (Some (Step c, at + 2 * k + 2))

module _ (s : List ℕ) (at c : ℕ) where
  -- one more
  pub one_more : (i next : ℕ) → Part s at c i → entry_at s i ≡ Ok (Some (Step c, next)) → Part s at c next
  one_more i next p h =
      let f : FoundAt s i (Step c) next = found s i (Step c) next h in
      let after : next ≡ i + 2 = f.after in
      let last : entry_at s (at + 2 * p.many) ≡ Ok (Some (Step c, at + 2 * p.many + 2)) = rw (← p.here, ← after) h in
      record {
        many = p.many + 1;
        here = omega (arith, after, p.here);
        within = f.within;
        each = below_more _ p.many p.each last;
      }

  pub one : entry_at s at ≡ Ok (Some (Step c, at + 2)) → Part s at c (at + 2)
  one h = one_more at (at + 2) (record { many = 0; here = omega arith; within = omega (arith, (found s at (Step c) _ h).wide, (found s at (Step c) _ h).within); each = below_none _ }) h

  pub four-more : (i : ℕ) → Part s at c i → Steps s i c → Part s at c (i + 8)
  four-more i p f = one_more _ _ (one_more _ _ (one_more _ _ (one_more _ _ p f.first) f.second) f.third) f.fourth

  -- no step stands at the position itself
  pub no_row : ((next : ℕ) → entry_at s at ≡ Ok (Some (Step c, next)) → ⊥) → StepsRow s at c 0
  no_row h = record { each = below_none _; ends = rw (mul-zero, add-zero) h }

  -- none stands behind those passed
  pub whole_row : (i : ℕ) → Part s at c i → ((next : ℕ) → entry_at s i ≡ Ok (Some (Step c, next)) → ⊥) → StepsRow s at c ((i - at) / 2)
  whole_row i p h =
      let r : (i - at) / 2 ≡ p.many = omega (arith, p.here) in
      rw r (record { each = p.each; ends = rw p.here at h })
