-- `transcript::print` meets its contract. Assumes nothing.
use Rattle.transcript.proofs.Printing.{prints-early, prints-run}
use Rattle.transcript.proofs.print.Goals as goal

pub returns-then-input-end : goal.returns-then-input-end
returns-then-input-end c = prints-early _ _ c.schedule_at-end.ensures c.if-input-end.true c.put_answer.ensures

pub returns : goal.returns
returns c = prints-run _ _ _ c.image_at-start.ensures.0 c.schedule_at-end.ensures _ _ _ _ c.core_count.ensures c.allowance.ensures c.argument_count-count.ensures.0 c.read_arguments.ensures.first c.if-input-end.false c.transcribe.ensures
