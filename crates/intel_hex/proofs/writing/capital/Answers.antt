-- `intel_hex::writing::capital` meets its contract. Assumes nothing.
use Rattle.std.proofs.Common.{arith, le-ltb, lt-ltb}
use Rattle.hex_format.specs.Digits.{capital}
use Rattle.intel_hex.proofs.writing.capital.Goals as goal

pub returns-then-d-gt9 : goal.returns-then-d-gt9
unfolding capital
returns-then-d-gt9 c = simp (le-ltb c.args.d 10 (omega arith))

pub returns-else-d-gt9 : goal.returns-else-d-gt9
unfolding capital
returns-else-d-gt9 c = simp (lt-ltb c.args.d 10 (omega arith))
