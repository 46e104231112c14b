-- `entries::fork::hand_out_number` meets its contract. Assumes nothing.
use Rattle.dispatch.proofs.Queues.{rest_of}
use Rattle.tables.proofs.Changes.{here}
use Rattle.tables.specs.Meaning.{meaning}
use Rattle.rules.specs.Update.{set_free_threads}
use Rattle.std.proofs.Common.{ℕ, List, ap}
use Rattle.entries.proofs.fork.hand_out_number.Goals as goal

pub returns : goal.returns
returns c =
    here (λ l words memory. ap (λ (q : List ℕ). set_free_threads q (meaning c.args.tables.now words memory)) (rest_of _ _ _ (c.queue_of.ensures.means l words memory) c.dequeue.ensures)) c.put_queue.ensures
