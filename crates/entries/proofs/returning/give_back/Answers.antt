-- `entries::returning::give_back` meets its contract. Assumes nothing.
use Rattle.dispatch.proofs.Queues.{behind-last}
use Rattle.tables.proofs.Changes.{here}
use Rattle.queue.specs.Contents.{contents}
use Rattle.tables.specs.Meaning.{meaning}
use Rattle.rules.specs.Return.{stacklets_without}
use Rattle.rules.specs.Update.{set_free_stacklets}
use Rattle.std.proofs.Common.{ℕ, List, sym, refl, ap, ◌∙◌}
use Rattle.entries.proofs.returning.give_back.Goals as goal

pub returns-then-not-is_lowest : goal.returns-then-not-is_lowest
unfolding stacklets_without
returns-then-not-is_lowest c =
    record { means = λ l words memory. rw (sym c.is_lowest.ensures ∙ c.if-not-is_lowest.true); sized = refl; other = λ _. refl }

pub returns : goal.returns
unfolding stacklets_without
returns c =
    here {f = set_free_stacklets (contents c.enqueue.result)} (λ l words memory. rw (sym c.is_lowest.ensures ∙ c.if-not-is_lowest.false) (ap (λ (q : List ℕ). set_free_stacklets q (meaning c.args.tables.now words memory)) (behind-last _ _ _ _ (c.queue_of.ensures.means l words memory) c.enqueue.ensures))) c.put_queue.ensures
