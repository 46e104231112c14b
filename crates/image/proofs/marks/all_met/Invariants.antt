-- `image::marks::all_met` meets its contract. Assumes nothing.
use mathlib.Core.Path.{◌≡◌}
use mathlib.Core.Bool.{true, false}
use Prim.Native.Nat.{ℕ, ◌<◌}
use lib.ListN.{get_or}
use Rattle.image.specs.Marks.{Left}
use Rattle.image.proofs.marks.all_met.Given as goal

abbrev pub invariant-loop-mark : goal.invariant-loop-mark
invariant-loop-mark l = (l.met ≡ true → (t : ℕ) → t < l.mark-index → get_or l.marks t 0 ≡ 2 → ⊥) × (l.met ≡ false → Left l.marks)
