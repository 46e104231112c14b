-- `intel_hex::digits::weight` meets its contract. Assumes nothing.
use Rattle.std.proofs.Common.{arith}
use Rattle.intel_hex.proofs.DigitLaws.{weighed}
use Rattle.intel_hex.proofs.digits.weight.Goals as goal

pub returns : goal.returns
returns c = weighed _ _ c.from.ensures (omega (arith, c.type_inv.text c.args.at))
