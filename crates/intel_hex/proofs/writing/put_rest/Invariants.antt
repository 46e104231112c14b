-- `intel_hex::writing::put_rest` meets its contract: one byte more each turn. Assumes nothing.
use Rattle.std.proofs.Common.{◌≡◌, ◌%◌, take}
use Rattle.hex_format.specs.Text.{pairs_of, total}
use Rattle.intel_hex.specs.Found.{PutsText}
use Rattle.intel_hex.proofs.writing.put_rest.Given as goal

abbrev pub invariant-loop-i : goal.invariant-loop-i
invariant-loop-i l = PutsText (pairs_of (take l.i l.bytes)) l.initial.text l.at l.text × (l.sum ≡ total (take l.i l.bytes) % 256)
