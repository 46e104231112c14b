-- `intel_hex::bytes::put_pairs` meets its contract: one byte more each turn. Assumes nothing.
use Rattle.std.proofs.Common.{refl, arith}
use Rattle.intel_hex.specs.Found.{pairs_at}
use Rattle.intel_hex.proofs.Said.{one-more-byte, digits-there}
use Rattle.intel_hex.proofs.bytes.put_pairs.Goals as goal

pub loop-i-init : goal.loop-i-init
unfolding pairs_at
loop-i-init c = refl

pub overflow_cast-bytes : goal.overflow_cast-bytes
overflow_cast-bytes c = omega (arith, c.byte.ensures.0, digits-there c.args.text.now c.args.from c.args.n c.loop-i.i c.requires.0 (omega arith))

pub loop-i-preserved : goal.loop-i-preserved
loop-i-preserved c = rw (c.byte.ensures.0, c.loop-i.invariant) (one-more-byte _ _ _ _ _)
