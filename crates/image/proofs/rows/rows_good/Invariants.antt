-- `image::rows::rows_good` meets its contract. Assumes nothing.
use mathlib.Core.Bool.{true}
use mathlib.Core.Path.{◌≡◌}
use Rattle.image.specs.Image.{rows_good}
use Rattle.image.proofs.rows.rows_good.Given as goal

abbrev pub invariant-loop-r : goal.invariant-loop-r
invariant-loop-r l = rows_good l.image l.r ≡ true
