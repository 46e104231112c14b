-- `intel_hex::line::sum` meets its contract: one pair more each turn. Assumes nothing.
use Rattle.std.proofs.Common.{refl, add-one, arith}
use Rattle.intel_hex.specs.Found.{sum_at}
use Rattle.intel_hex.proofs.line.sum.Goals as goal

pub loop-i-init : goal.loop-i-init
unfolding sum_at
loop-i-init c = (refl, omega arith)

pub loop-i-preserved : goal.loop-i-preserved
unfolding sum_at
loop-i-preserved c = (rw (add-one c.loop-i.i) (omega (arith, c.byte-sum.ensures.0, c.loop-i.invariant.0)), omega (arith, c.byte-sum.ensures.1))
