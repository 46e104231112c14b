-- `wipe_frame` meets its contract. Assumes nothing.
use native.Mathlib.Omega.{arith}
use Rattle.stacklets.proofs.Wiping.{wiped-starts, wiped-more, wiped-ends}
use Rattle.stacklets.proofs.wipe_frame.Goals as goal

pub loop-i-init : goal.loop-i-init
loop-i-init c = wiped-starts _ _

pub loop-i-preserved : goal.loop-i-preserved
loop-i-preserved c = wiped-more _ _ _ _ (omega arith) c.loop-i.invariant

pub returns : goal.returns
returns c = wiped-ends _ _ _ c.min-end.result _ _ c.min-end.ensures c.loop-i.auto.i c.loop-i.auto.i-end c.loop-i-test.false c.loop-i.invariant
