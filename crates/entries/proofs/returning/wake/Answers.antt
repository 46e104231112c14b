-- `entries::returning::wake` meets its contract. Assumes nothing.
use Rattle.dispatch.proofs.Queues.{behind-last}
use Rattle.tables.proofs.Changes.{here}
use Rattle.tables.specs.Meaning.{meaning}
use Rattle.rules.specs.Return.{ready_after}
use Rattle.rules.specs.Update.{set_ready}
use Rattle.std.proofs.Common.{ℕ, List, sym, refl, ap, ◌∙◌}
use Rattle.entries.proofs.returning.wake.Goals as goal

pub returns-then-does_wake : goal.returns-then-does_wake
unfolding ready_after
returns-then-does_wake c =
    here (λ l words memory. rw (sym c.does_wake.ensures ∙ c.if-does_wake.true) (ap (λ (q : List ℕ). set_ready q (meaning c.args.tables.now words memory)) (behind-last _ _ _ _ (c.queue_of.ensures.means l words memory) c.enqueue.ensures))) c.put_queue.ensures

pub returns-else-does_wake : goal.returns-else-does_wake
unfolding ready_after
returns-else-does_wake c =
    record { means = λ l words memory. rw (sym c.does_wake.ensures ∙ c.if-does_wake.false); sized = refl; other = λ _. refl }
