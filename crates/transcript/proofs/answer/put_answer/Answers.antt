-- `transcript::answer::put_answer` meets its contract. Assumes nothing.
use mathlib.Core.Path.{◌∙◌}
use native.Mathlib.Omega.{arith}
use Rattle.transcript.proofs.LastLineLaws.{written-refused, written-finished, written-faulted, written-open}
use Rattle.transcript.proofs.answer.put_answer.Goals as goal

pub returns-in-Refused : goal.returns-in-Refused
returns-in-Refused c = written-refused c.in-Refused.is (omega arith) (c.from.ensures ∙ c.number.ensures) c.put_line.ensures

pub returns-in-Finished : goal.returns-in-Finished
returns-in-Finished c = written-finished c.in-Finished.is (omega arith) (omega arith) c.put_line-in-Finished.ensures

pub returns-in-Faulted : goal.returns-in-Faulted
returns-in-Faulted c = written-faulted c.in-Faulted.is (omega arith) (omega arith) (omega arith) c.from-in-Faulted.ensures c.from-in-Faulted-2.ensures c.from-in-Faulted-3.ensures c.put_line-in-Faulted.ensures

pub returns-in-Open : goal.returns-in-Open
returns-in-Open c = written-open c.in-Open.is (omega arith) c.put_line-in-Open.ensures
