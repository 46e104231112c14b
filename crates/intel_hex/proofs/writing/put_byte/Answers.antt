-- `intel_hex::writing::put_byte` meets its contract. Assumes nothing.
use Rattle.std.proofs.Common.{arith}
use Rattle.intel_hex.proofs.TextLaws.{stored-pair}
use Rattle.intel_hex.proofs.writing.put_byte.Goals as goal

pub returns : goal.returns
returns c = stored-pair _ _ _ _ c.from-k.ensures (omega arith)
