-- `text::put_log` meets its contract: the lines of the first log bytes are put, one more each turn. Assumes nothing.
use native.Mathlib.Omega.{arith}
use lib.ListN.{take, length-take}
use Rattle.text.proofs.LineLaws.{one-more-line, no_lines, all_lines}
use Rattle.text.proofs.put_log.Goals as goal

pub loop-number-init : goal.loop-number-init
loop-number-init c = (omega arith, no_lines _)

pub loop-number-preserved : goal.loop-number-preserved
loop-number-preserved c = (omega (arith, c.put_entry-at.ensures.1), one-more-line (take c.min.result c.args.log.now) _ (omega arith) c.loop-number.invariant.1 c.put_entry-at.ensures.0)

pub returns : goal.returns
returns c = all_lines _ _ _ c.min.ensures (omega arith) (omega (arith, length-take c.min.result c.args.log.now)) c.loop-number.invariant.0 c.loop-number.invariant.1
