-- `tables::lines::queue_at` meets its contract. Assumes nothing.
use Rattle.std.proofs.Common.{arith, ◌∙◌}
use Rattle.tables.specs.Meaning.{queue_in}
use Rattle.tables.proofs.Runs.{part-is}
use Rattle.tables.proofs.lines.queue_at.Goals as goal

pub returns : goal.returns
unfolding queue_in
returns c = rw (c.copy_from_slice.ensures.after ∙ part-is c.args.tables.now c.args.at 32 _ (omega arith) (omega arith))
