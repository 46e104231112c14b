-- `text::put_log` meets its contract: the lines of the first log bytes are put, one more each turn. Assumes nothing.
use Prim.Native.Nat.{◌≤◌, ◌*◌}
use lib.ListN.{take}
use Rattle.text.specs.Text.{entry_lines}
use Rattle.text.specs.Buffer.{Put}
use Rattle.text.proofs.put_log.Given as goal

abbrev pub invariant-loop-number : goal.invariant-loop-number
invariant-loop-number l = (l.at ≤ 10 * l.number) × Put (entry_lines 0 (take l.number l.byte-items)) l.initial.output 0 l.at l.output
