-- `text::put_text` meets its contract: the first bytes are put, one more each turn. Assumes nothing.
use lib.ListN.{take}
use Rattle.text.specs.Buffer.{Put}
use Rattle.text.proofs.put_text.Given as goal

abbrev pub invariant-loop-byte : goal.invariant-loop-byte
invariant-loop-byte l = Put (take l.byte-index l.text) l.initial.output l.at l.next l.output
