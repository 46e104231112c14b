-- `image::routines_verdict` meets its contract. Assumes nothing.
use mathlib.Core.Path.{◌≡◌}
use Prim.Native.Nat.{◌-◌}
use lib.ListN.{length}
use Rattle.image.specs.Image.{routines_verdict}
use Rattle.image.specs.Layout.{start_of}
use Rattle.image.proofs.Parts.{BlankFrom}
use Rattle.image.proofs.routines_verdict.Given as goal

abbrev pub invariant-loop-r : goal.invariant-loop-r
invariant-loop-r l =
    (l.start ≡ start_of l.image l.r) × (routines_verdict l.image (l.count - l.r) l.r ≡ routines_verdict l.image l.count 0) × BlankFrom l.start l.marks × (length l.marks ≡ length l.initial.marks)
