-- `intel_hex::scan::scan` meets its contract: each turn tests one line more. Assumes nothing.
use Rattle.std.proofs.Common.{◌-◌, length}
use Rattle.intel_hex.proofs.Scanning.{Scanned}
use Rattle.intel_hex.proofs.scan.scan.Given as goal

abbrev pub invariant-loop-at : goal.invariant-loop-at
invariant-loop-at l = Scanned l.text l.at l.count l.bad_sum l.bad_span

abbrev pub decreases-loop-at : goal.decreases-loop-at
decreases-loop-at l = length l.text - l.at
