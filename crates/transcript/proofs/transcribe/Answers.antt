-- `transcript::transcribe` meets its contract. Assumes nothing.
use Rattle.transcript.proofs.Running.{enough-log, written}
use Rattle.transcript.proofs.transcribe.Goals as goal

pub slice_bounds-put_log-end : goal.slice_bounds-put_log-end
slice_bounds-put_log-end c = enough-log _ _ _ c.lines-count.ensures c.args.log.now c.run-ran.new.log c.requires c.run-ran.auto.log

pub returns : goal.returns
returns c = written _ _ _ c.requires _ _ _ c.run-ran.ensures.runs _ c.lines-count.ensures c.put_log-at.ensures c.put_answer.ensures
