-- `image::rows::rows_of` meets its contract. Assumes nothing.
use mathlib.Core.Path.{◌≡◌}
use Rattle.image.specs.Layout.{start_of, rows_of}
use Rattle.image.proofs.rows.rows_of.Given as goal

abbrev pub invariant-loop-r : goal.invariant-loop-r
invariant-loop-r l = (l.rows ≡ rows_of l.image l.r) × (l.start ≡ start_of l.image l.r)
