-- `entries::fork::place_child` meets its contract. Assumes nothing.
use Rattle.dispatch.proofs.Queues.{behind-last}
use Rattle.tables.proofs.Changes.{here}
use Rattle.tables.specs.Meaning.{meaning}
use Rattle.rules.specs.Update.{set_core, set_ready}
use Rattle.std.proofs.Common.{ℕ, List, ap, mod-eq_of_lt}
use Rattle.entries.proofs.fork.place_child.Goals as goal

pub returns-in-Called : goal.returns-in-Called
returns-in-Called c =
    let args' = c.args in
    rw c.in-Called.is (here (λ l words memory. ap (λ (k : ℕ). set_core k args'.n (meaning args'.tables.now words memory)) (mod-eq_of_lt c.requires.1)) c.put_core.ensures)

pub returns-in-Queued : goal.returns-in-Queued
returns-in-Queued c =
    let args' = c.args in
    rw c.in-Queued.is (here (λ l words memory. ap (λ (q : List ℕ). set_ready q (meaning args'.tables.now words memory)) (behind-last _ _ args'.n _ (c.queue_of.ensures.means l words memory) c.enqueue.ensures)) c.put_queue.ensures)

pub returns-in-Stolen : goal.returns-in-Stolen
returns-in-Stolen c =
    let args' = c.args in
    rw c.in-Stolen.is (here (λ l words memory. ap (λ (k : ℕ). set_core k args'.n (meaning args'.tables.now words memory)) (mod-eq_of_lt c.requires.1)) c.put_core-in-Stolen.ensures)
