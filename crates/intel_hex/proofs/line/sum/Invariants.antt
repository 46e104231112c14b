-- `intel_hex::line::sum` meets its contract: one pair more each turn. Assumes nothing.
use Rattle.std.proofs.Common.{◌≡◌, ◌*◌, ◌≤◌}
use Rattle.intel_hex.specs.Found.{sum_at}
use Rattle.intel_hex.proofs.line.sum.Given as goal

abbrev pub invariant-loop-i : goal.invariant-loop-i
invariant-loop-i l = (l.sum ≡ sum_at l.text l.at l.i) × (l.sum ≤ 139264 * l.i)
