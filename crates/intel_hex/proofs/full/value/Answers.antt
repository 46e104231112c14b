-- `intel_hex::full::value` meets its contract: it is right of each character. Assumes nothing.
use Rattle.std.proofs.Common.{arith}
use Rattle.intel_hex.proofs.FullLaws.{value-told}
use Rattle.intel_hex.proofs.full.value.Goals as goal

pub returns : goal.returns
returns c = value-told _ _ _ (omega arith) c.max-number.ensures c.min.ensures
