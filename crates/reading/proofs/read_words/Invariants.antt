-- `reading::read_words` meets its contract: the first words are read, one more each turn, and the others stay. Assumes nothing.
use mathlib.Core.Path.{◌≡◌}
use Rattle.reading.specs.Reading.{read_over}
use Rattle.reading.proofs.read_words.Given as goal

abbrev pub invariant-loop-i : goal.invariant-loop-i
invariant-loop-i l = l.words ≡ read_over l.bytes l.at l.i l.initial.words
