-- `text::put_text` meets its contract: the first bytes are put, one more each turn. Assumes nothing.
use native.Mathlib.Omega.{arith}
use Rattle.text.proofs.Writing.{silent, first-size, one_more, whole}
use Rattle.text.proofs.put_text.Goals as goal

pub loop-byte-init : goal.loop-byte-init
loop-byte-init c = silent _ _

pub put-next-requires : goal.put-next-requires
put-next-requires c = omega (arith, c.loop-byte.invariant.position, first-size)

pub loop-byte-preserved : goal.loop-byte-preserved
loop-byte-preserved c = one_more _ _ (omega arith) c.loop-byte.invariant c.put-next.ensures

pub returns : goal.returns
returns c = whole _ _ (omega arith) c.loop-byte.invariant
