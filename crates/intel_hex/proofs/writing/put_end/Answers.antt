-- `intel_hex::writing::put_end` meets its contract: its characters are the end record's. Assumes nothing.
use Rattle.std.proofs.Common.{arith}
use Rattle.hex_format.specs.Digits.{capital}
use Rattle.hex_format.specs.Text.{pairs_of, total}
use Rattle.intel_hex.proofs.Storing.{sets-mid}
use Rattle.intel_hex.proofs.writing.put_end.Goals as goal

pub returns : goal.returns
unfolding pairs_of total capital
returns c = record { stored = sets-mid _ _ _ _ _ c.copy_from_slice.ensures.after (omega arith) (omega arith) }
