-- `intel_hex::full::full_sum` meets its contract: one character more each turn. Assumes nothing.
use Rattle.std.proofs.Common.{◌<◌}
use Rattle.intel_hex.proofs.FullLaws.{Tallied}
use Rattle.intel_hex.proofs.full.full_sum.Given as goal

abbrev pub invariant-loop-i : goal.invariant-loop-i
invariant-loop-i l = (l.sum < 256) × Tallied l.text l.at l.i l.sum l.bad
