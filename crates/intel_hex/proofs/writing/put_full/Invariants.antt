-- `intel_hex::writing::put_full` meets its contract: one character more each turn, and then one byte more. Assumes nothing.
use Rattle.std.proofs.Common.{◌≡◌, ◌%◌, take}
use Rattle.hex_format.specs.Text.{pairs_of, total}
use Rattle.intel_hex.specs.Found.{PutsText}
use Rattle.intel_hex.proofs.writing.put_full.Given as goal

abbrev pub invariant-loop-i : goal.invariant-loop-i
invariant-loop-i l = PutsText (take l.i (pairs_of l.bytes)) l.initial.text l.at l.text

abbrev pub invariant-loop-k : goal.invariant-loop-k
invariant-loop-k l = l.sum ≡ total (take l.k l.bytes) % 256
