-- `image::rows::codes_end` meets its contract. Assumes nothing.
use mathlib.Core.Path.{◌≡◌}
use Prim.Native.Nat.{◌+◌, ◌*◌, ◌≤◌}
use Rattle.image.specs.Layout.{start_of}
use Rattle.image.proofs.rows.codes_end.Given as goal

abbrev pub invariant-loop-r : goal.invariant-loop-r
invariant-loop-r l = (l.end ≡ start_of l.image l.r) × (l.end ≤ 129 + 65535 * l.r)
