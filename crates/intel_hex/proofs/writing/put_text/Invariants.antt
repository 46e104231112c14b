-- `intel_hex::writing::put_text` meets its contract: each turn writes a full record. Assumes nothing.
use Rattle.hex_format.specs.Text.{data_lines}
use Rattle.intel_hex.specs.Found.{PutsText}
use Rattle.intel_hex.proofs.writing.put_text.Given as goal

abbrev pub invariant-loop-k : goal.invariant-loop-k
invariant-loop-k l = PutsText (data_lines l.k 0 l.image) l.initial.text 0 l.text
