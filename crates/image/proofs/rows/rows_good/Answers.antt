-- `image::rows::rows_good` meets its contract. Assumes nothing.
use mathlib.Core.Path.{sym, ◌∙◌}
use native.Mathlib.Omega.{arith}
use Rattle.image.proofs.Places.{good-first, good_more, bad-row}
use Rattle.image.proofs.rows.rows_good.Goals as goal

pub loop-r-init : goal.loop-r-init
loop-r-init c = good-first _

pub returns-then-not-row_good : goal.returns-then-not-row_good
returns-then-not-row_good c = bad-row _ _ _ (omega arith) (sym c.row_good.ensures ∙ c.if-not-row_good.true)

pub loop-r-preserved : goal.loop-r-preserved
loop-r-preserved c = good_more _ _ c.loop-r.invariant (sym c.row_good.ensures ∙ c.if-not-row_good.false)
