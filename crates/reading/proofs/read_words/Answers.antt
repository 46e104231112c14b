-- `reading::read_words` meets its contract: the first words are read, one more each turn, and the others stay. Assumes nothing.
use native.Mathlib.Omega.{arith}
use Rattle.reading.proofs.Words.{one-more-word, no_words, all_words}
use Rattle.reading.proofs.read_words.Goals as goal

pub loop-i-init : goal.loop-i-init
loop-i-init c = no_words _ _ _

pub loop-i-preserved : goal.loop-i-preserved
loop-i-preserved c = one-more-word _ _ _ _ _ _ (omega arith) c.loop-i.invariant c.word_at.ensures

pub returns : goal.returns
returns c = all_words _ _ _ _ _ (omega arith) (omega arith) c.loop-i.invariant
