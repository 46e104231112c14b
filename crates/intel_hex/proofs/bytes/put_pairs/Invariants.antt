-- `intel_hex::bytes::put_pairs` meets its contract: one byte more each turn. Assumes nothing.
use Rattle.std.proofs.Common.{◌≡◌}
use lib.Seq.{sets}
use Rattle.intel_hex.specs.Found.{pairs_at}
use Rattle.intel_hex.proofs.bytes.put_pairs.Given as goal

abbrev pub invariant-loop-i : goal.invariant-loop-i
invariant-loop-i l = l.bytes ≡ sets l.initial.bytes l.at (pairs_at l.text l.from l.i)
