-- `entries::returning::free_thread` meets its contract. Assumes nothing.
use Rattle.entries.proofs.Ended.{retired-by}
use Rattle.entries.proofs.Chains.{charged, popped}
use Rattle.dispatch.proofs.Queues.{behind-last}
use Rattle.entries.specs.Given.{record_in, turn_with}
use Rattle.tables.proofs.Changes.{thread-seen, thread-stored}
use Rattle.tables.specs.Meaning.{meaning}
use Rattle.rules.specs.Return.{retired}
use Rattle.thread.specs.declared.Thread.{Thread}
use Rattle.rules.specs.Update.{set_free_threads}
use Rattle.std.proofs.Common.{◌≡◌, ℕ, List, [], ap, ◌∙◌}
use Rattle.entries.proofs.returning.free_thread.Goals as goal

pub give_back-requires : goal.give_back-requires
give_back-requires c =
    let thread-at' = c.thread_at-th in (
      c.pop_frame.ensures.tops.sized ∙ c.charge.ensures.sized ∙ c.requires.sized,
      rw (thread-seen c.requires.sized [] [] c.args.at.thread thread-at'.result c.requires.number thread-at'.ensures) c.requires.base,
    )

pub returns : goal.returns
returns c =
    let args' = c.args in
    let pre' = c.requires in
    let thread-at' = c.thread_at-th in
    let charge' = c.charge in
    let pop-frame' = c.pop_frame in
    let give-back' = c.give_back in
    let put-free-threads' = c.put_queue in
    let blank-thread' = c.blank in
    let th = thread-at'.result in
    let small = pre'.number in
    let is : th ≡ record_in args'.tables.now args'.at.thread = thread-seen pre'.sized [] [] args'.at.thread th small thread-at'.ensures in record {
      tables = λ next offset. record {
        means = λ l words memory.
            let l1 = charge'.ensures.sized ∙ l in
            let l2 = pop-frame'.ensures.tops.sized ∙ l1 in
            let l3 = give-back'.ensures.sized ∙ l2 in
            let l4 = put-free-threads'.ensures.sized ∙ l3 in
            retired-by (turn_with args'.at.core args'.at.thread th args'.at.weight next offset) _ _ _ _ _ _ _
            (charged args'.at.weight l pre'.units charge'.ensures words memory)
            (popped th.origin.base l1 (rw is pre'.base) pop-frame'.ensures.tops words memory)
            (give-back'.ensures.means l2 words memory)
            (put-free-threads'.ensures.means l3 words memory ∙ ap (λ (q : List ℕ). set_free_threads q (meaning give-back'.new.tables words memory)) (behind-last _ _ _ _ (c.queue_of.ensures.means l3 words memory) c.enqueue.ensures))
            blank-thread'.ensures
            (thread-stored l4 words memory args'.at.thread blank-thread'.result small c.put_thread.ensures)
            ∙ ap (λ (h : Thread). retired (turn_with args'.at.core args'.at.thread h args'.at.weight next offset) (meaning args'.tables.now words memory)) is;
        sized = c.put_thread.ensures.sized ∙ put-free-threads'.ensures.sized ∙ give-back'.ensures.sized ∙ pop-frame'.ensures.tops.sized ∙ charge'.ensures.sized;
        other = λ n. absurd (n pre'.sized);
      };
      words = rw (← is) pop-frame'.ensures.words;
    }
