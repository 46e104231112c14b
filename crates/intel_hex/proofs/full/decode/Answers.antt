-- `intel_hex::full::decode` meets its contract: one byte more each turn. Assumes nothing.
use Rattle.std.proofs.Common.{refl, arith}
use Rattle.intel_hex.specs.Found.{pairs_at}
use Rattle.intel_hex.proofs.FullLaws.{one-more-decoded, all-decoded}
use Rattle.intel_hex.proofs.full.decode.Goals as goal

pub loop-i-init : goal.loop-i-init
unfolding pairs_at
loop-i-init c = refl

pub loop-i-preserved : goal.loop-i-preserved
loop-i-preserved c = one-more-decoded _ _ _ _ _ _ _ _ (omega arith) c.loop-i.invariant c.requires.0 c.plain-high.ensures c.plain-low.ensures refl

pub returns : goal.returns
returns c = all-decoded _ _ _ _ _ refl (omega arith) c.loop-i.invariant
