-- `text::put_line` meets its contract: the word and the first numbers are put, one more each turn. Assumes nothing.
use mathlib.Core.List.{◌++◌}
use Prim.Native.Nat.{◌+◌, ◌*◌, ◌≤◌}
use lib.ListN.{length, take}
use Rattle.text.specs.Buffer.{Put}
use Rattle.text.proofs.LineLaws.{all_spaced}
use Rattle.text.proofs.put_line.Given as goal

abbrev pub invariant-loop-number : goal.invariant-loop-number
invariant-loop-number l = Put (l.word ++ all_spaced (take l.number-index l.number-items)) l.fn.output l.at l.next l.output × (l.next ≤ l.at + length l.word + 11 * l.number-index)
