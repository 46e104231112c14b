-- `intel_hex::full::decode` meets its contract: one byte more each turn. Assumes nothing.
use Rattle.std.proofs.Common.{◌≡◌, replicate}
use lib.Seq.{sets}
use Rattle.intel_hex.specs.Found.{pairs_at}
use Rattle.intel_hex.proofs.full.decode.Given as goal

abbrev pub invariant-loop-i : goal.invariant-loop-i
invariant-loop-i l = l.part ≡ sets (replicate 16 0) 0 (pairs_at l.text l.from l.i)
