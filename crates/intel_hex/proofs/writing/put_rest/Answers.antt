-- `intel_hex::writing::put_rest` meets its contract: one byte more each turn. Assumes nothing.
use Rattle.std.proofs.Common.{refl, arith}
use Rattle.hex_format.specs.Text.{pairs_of, total}
use Rattle.intel_hex.proofs.Storing.{puts_none}
use Rattle.intel_hex.proofs.TextLaws.{one-more-pair, one-more-summed, all-put, all-summed}
use Rattle.intel_hex.proofs.writing.put_rest.Goals as goal

pub loop-i-init : goal.loop-i-init
unfolding pairs_of total
loop-i-init c = (puts_none _ _, refl)

pub loop-i-preserved : goal.loop-i-preserved
loop-i-preserved c = (one-more-pair _ _ _ _ _ _ (omega arith) c.loop-i.invariant.0 c.put_byte.ensures, one-more-summed _ _ _ (omega arith) c.loop-i.invariant.1)

pub returns : goal.returns
returns c = (all-put _ _ (omega arith) c.loop-i.invariant.0, all-summed _ _ _ (omega arith) c.loop-i.invariant.1)
