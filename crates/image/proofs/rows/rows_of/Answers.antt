-- `image::rows::rows_of` meets its contract. Assumes nothing.
use mathlib.Core.Path.{ap}
use native.Mathlib.Omega.{arith}
use Rattle.image.proofs.Places.{start_first, start-next, rows-first, rows_more, code_inside}
use Rattle.image.proofs.rows.rows_of.Goals as goal

pub loop-r-init : goal.loop-r-init
loop-r-init c = (rows-first _, start_first _ _ c.requires.0)

pub row_of-row-requires : goal.row_of-row-requires
row_of-row-requires c = (omega arith, c.loop-r.invariant.1)

pub overflow_add-start-in-loop-r : goal.overflow_add-start-in-loop-r
overflow_add-start-in-loop-r c = omega (arith, code_inside c.args.image.now c.loop-r.r c.args.count (omega arith), ap (λ row. row.length) c.row_of-row.ensures, c.loop-r.invariant.1, c.requires.2)

pub loop-r-preserved : goal.loop-r-preserved
loop-r-preserved c = (
  rw (c.loop-r.invariant.0, c.row_of-row.ensures) (rows_more _ _),
  rw (c.loop-r.invariant.1, c.row_of-row.ensures) (start-next _ _),
)
