-- `image::rows::codes_end` meets its contract. Assumes nothing.
use Prim.Native.Nat.{◌+◌, ◌*◌}
use native.Mathlib.Omega.{arith}
use Rattle.image.proofs.Places.{start_first, start-next}
use Rattle.image.proofs.rows.codes_end.Goals as goal

pub loop-r-init : goal.loop-r-init
loop-r-init c = (start_first _ _ c.requires.0, omega arith)

pub overflow_add-end-in-loop-r : goal.overflow_add-end-in-loop-r
overflow_add-end-in-loop-r c = omega (arith, c.length_of-end.ensures, c.type_inv.image (4 * c.loop-r.r + 3), c.type_inv.image (4 * c.loop-r.r + 4))

pub loop-r-preserved : goal.loop-r-preserved
loop-r-preserved c = (rw (c.loop-r.invariant.0, c.length_of-end.ensures) (start-next _ _), omega (arith, c.length_of-end.ensures, c.type_inv.image (4 * c.loop-r.r + 3), c.type_inv.image (4 * c.loop-r.r + 4)))
