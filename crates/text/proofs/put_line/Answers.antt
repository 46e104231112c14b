-- `text::put_line` meets its contract: the word and the first numbers are put, one more each turn. Assumes nothing.
use mathlib.Core.Path.{ap}
use native.Mathlib.Omega.{arith}
use Rattle.text.proofs.Writing.{same_text}
use Rattle.text.specs.Text.{line}
use Rattle.text.proofs.LineLaws.{word_alone, one-more-number, whole_line, cut-short}
use Rattle.text.proofs.put_line.Goals as goal

pub loop-number-init : goal.loop-number-init
loop-number-init c = (word_alone c.put_text-next.ensures, omega (arith, c.put_text-next.ensures.position))

pub loop-number-preserved : goal.loop-number-preserved
loop-number-preserved c = (one-more-number _ _ _ (omega arith) c.loop-number.invariant.0 c.put_spaced-next.ensures.0, omega (arith, c.loop-number.invariant.1, c.put_spaced-next.ensures.1))

pub returns : goal.returns
returns c = same_text (ap (line c.args.word.now) (cut-short 4294967295 _ c.args.numbers.now c.min.ensures)) (whole_line _ _ _ (omega arith) c.loop-number.invariant.0 c.put.ensures)
