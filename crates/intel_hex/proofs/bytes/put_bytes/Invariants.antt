-- `intel_hex::bytes::put_bytes` meets its contract: each turn stores one record's data. Assumes nothing.
use Rattle.std.proofs.Common.{◌-◌}
use Rattle.intel_hex.proofs.Said.{Storing}
use Rattle.intel_hex.proofs.bytes.put_bytes.Given as goal

abbrev pub invariant-loop-at : goal.invariant-loop-at
invariant-loop-at l = Storing l.text l.initial.bytes l.from l.at l.bytes

abbrev pub decreases-loop-at : goal.decreases-loop-at
decreases-loop-at l = l.count - l.at
