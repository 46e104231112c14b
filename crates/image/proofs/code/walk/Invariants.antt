-- `image::code::walk` meets its contract. Assumes nothing.
use mathlib.Core.Path.{◌≡◌}
use Prim.Native.Nat.{◌-◌}
use lib.ListN.{length}
use Rattle.image.specs.Marks.{may_end}
use Rattle.image.specs.Image.{in_range}
use Rattle.image.proofs.Walk.{Far}
use Rattle.image.proofs.code.walk.Given as goal

abbrev pub invariant-loop-at : goal.invariant-loop-at
invariant-loop-at l = Far (in_range l.image l.slots) l.code l.marks l.at (may_end l.last) l.inside × (length l.marks ≡ length l.initial.marks)

abbrev pub decreases-loop-at : goal.decreases-loop-at
decreases-loop-at l = length l.code - l.at
