-- `entries::fork::find_place` meets its contract. Assumes nothing.
use Rattle.entries.proofs.Born.{none_left}
use Rattle.dispatch.proofs.Queues.{first-of, rest_of}
use Rattle.tables.proofs.Changes.{here}
use Rattle.tables.specs.Meaning.{meaning}
use Rattle.rules.specs.Update.{set_free_stacklets}
use Rattle.std.proofs.Common.{ℕ, List, sym, refl, ap, ◌∙◌}
use Rattle.entries.proofs.fork.find_place.Goals as goal

pub returns-then-above : goal.returns-then-above
returns-then-above c = record {
  left = record { means = λ l words memory. rw c.if-above.true; sized = refl; other = λ _. refl };
  spot = record { means = λ l words memory. rw c.if-above.true; other = λ _. rw c.if-above.true };
  none = λ _. record { means = λ l words memory. refl; sized = refl; other = λ _. refl };
}

pub returns : goal.returns
returns c =
    let left' = c.if-above.false in
    let seen = c.queue_of.ensures in
    let taken = c.dequeue-free.ensures in
    let stored = c.put_queue.ensures in record {
      left = here (λ l words memory. rw left' (ap (λ (q : List ℕ). set_free_stacklets q (meaning c.args.tables.now words memory)) (rest_of _ _ _ (seen.means l words memory) taken))) stored;
      spot = record {
        means = λ l words memory. rw left' (first-of _ _ _ (seen.means l words memory) taken);
        other = λ n. rw left' (first-of _ _ _ (seen.other n) taken);
      };
      none = λ e. here (λ l words memory. none_left _ _ (rest_of _ _ _ (seen.means l words memory) taken) (sym (first-of _ _ _ (seen.means l words memory) taken) ∙ e)) stored;
    }
