-- `intel_hex::full::plain` meets its contract: it is right of each digit. Assumes nothing.
use Rattle.std.proofs.Common.{arith}
use Rattle.intel_hex.proofs.FullLaws.{plain-told}
use Rattle.intel_hex.proofs.full.plain.Goals as goal

pub returns : goal.returns
returns c = plain-told _ _ (omega arith) c.min.ensures
