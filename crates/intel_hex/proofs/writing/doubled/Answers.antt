-- `intel_hex::writing::doubled` meets its contract: two places more each turn. Assumes nothing.
use Rattle.std.proofs.Common.{length-set}
use Rattle.intel_hex.proofs.FullText.{doubled-more}
use Rattle.intel_hex.proofs.writing.doubled.Goals as goal

pub loop-i-preserved : goal.loop-i-preserved
loop-i-preserved c =
    let size = c.loop-i.invariant.0 in
    (simp length-set size, doubled-more _ _ _ c.loop-i-test.true size c.loop-i.invariant.1)
