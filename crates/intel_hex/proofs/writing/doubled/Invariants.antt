-- `intel_hex::writing::doubled` meets its contract: two places more each turn. Assumes nothing.
use Rattle.std.proofs.Common.{◌≡◌, ◌*◌, length}
use Rattle.intel_hex.specs.Found.{Doubled}
use Rattle.intel_hex.proofs.writing.doubled.Given as goal

abbrev pub invariant-loop-i : goal.invariant-loop-i
invariant-loop-i l = (length l.twice ≡ 32) × Doubled l.bytes (2 * l.i) l.twice
