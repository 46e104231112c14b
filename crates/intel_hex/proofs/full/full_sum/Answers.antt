-- `intel_hex::full::full_sum` meets its contract: one character more each turn. Assumes nothing.
use Rattle.std.proofs.Common.{refl, arith}
use Rattle.intel_hex.proofs.FullLaws.{none-tallied, one-more-tallied, tallied-bad, tallied-good}
use Rattle.intel_hex.proofs.full.full_sum.Goals as goal

pub loop-i-init : goal.loop-i-init
loop-i-init c = (omega arith, none-tallied _ _)

pub loop-i-preserved : goal.loop-i-preserved
loop-i-preserved c = (omega arith, one-more-tallied _ _ _ (omega arith) _ _ _ _ _ _ c.loop-i.invariant.1 c.value-v.ensures refl c.placed-sum.ensures refl)

pub returns-then-bad : goal.returns-then-bad
returns-then-bad c = tallied-bad _ _ _ _ (omega arith) (rw c.if-bad.true at c.loop-i.invariant.1)

pub returns-else-bad : goal.returns-else-bad
returns-else-bad c = rw c.from.ensures (tallied-good _ _ _ _ (omega arith) c.loop-i.invariant.0 (rw c.if-bad.false at c.loop-i.invariant.1))
