-- `entries::returning::return_value` meets its contract. Assumes nothing.
use Rattle.entries.proofs.Ended.{left_behind, returned-by, returned-root, has-parent}
use Rattle.entries.proofs.Born.{with-words}
use Rattle.entries.specs.Given.{record_in, turn_with}
use Rattle.image.specs.Layout.{slots_of}
use Rattle.stacklets.specs.Frames.{wiped}
use Rattle.tables.proofs.Changes.{thread-seen, thread-stored, core-stored}
use Rattle.tables.specs.Meaning.{meaning}
use Rattle.rules.specs.State.{job_of}
use Rattle.rules.specs.Return.{retired, return_of}
use Rattle.thread.specs.declared.Thread.{Thread}
use Rattle.std.proofs.Common.{◌≡◌, ℕ, ◌+◌, ◌<◌, List, [], set, sym, refl, ap, ◌∙◌}
use Rattle.entries.proofs.returning.return_value.Goals as goal

pub free_thread-requires : goal.free_thread-requires
free_thread-requires c = c.requires.seated

pub returns-then-is_root : goal.returns-then-is_root
unfolding meaning
returns-then-is_root c =
    let args' = c.args in
    let pre' = c.requires in
    let thread-at' = c.thread_at-th in
    let slots-of' = c.slots_of in
    let free-thread' = c.free_thread in
    let is-root' = c.is_root in
    let put-core' = c.put_core in
    let l = pre'.seated.sized in
    let th = thread-at'.result in
    let same : th ≡ record_in args'.tables.now args'.at.thread = thread-seen l [] [] args'.at.thread th pre'.seated.number thread-at'.ensures in
    let ws = args'.words.now in
    let us = free-thread'.new.words in
    let cleared : us ≡ wiped ws th.origin.base (slots_of args'.image.now th.origin.routine) =
    free-thread'.ensures.words ∙ ap (λ (h : Thread). wiped ws h.origin.base slots-of'.result) (sym same) ∙ ap (λ (n : ℕ). wiped ws th.origin.base n) slots-of'.ensures in
    λ starts parameters memory allowance next offset.
    let j = job_of args'.image.now starts parameters allowance in
    let l1 = (free-thread'.ensures.tables 0 0).sized ∙ l in
    let l2 = put-core'.ensures.sized ∙ l1 in
    returned-root j (turn_with args'.at.core args'.at.thread th args'.at.weight next offset) args'.v (meaning args'.tables.now ws memory) _ _ _ _ us is-root'.result
    is-root'.ensures c.if-is_root.true (with-words args'.tables.now ws us memory)
    ((free-thread'.ensures.tables next offset).means l us memory
    ∙ ap (λ (h : Thread). retired (turn_with args'.at.core args'.at.thread h args'.at.weight next offset) (meaning args'.tables.now us memory)) (sym same))
    cleared
    (core-stored l1 us memory args'.at.core 32 pre'.seated.core put-core'.ensures) (c.finish.ensures.means l2 us memory)
    ∙ ap (λ (h : Thread). return_of j (meaning args'.tables.now ws memory) (turn_with args'.at.core args'.at.thread h args'.at.weight next offset) args'.v) same

pub wake-requires : goal.wake-requires
wake-requires c =
    c.put_thread.ensures.sized ∙ (c.free_thread.ensures.tables 0 0).sized ∙ c.requires.seated.sized

pub returns : goal.returns
unfolding meaning
returns c =
    let args' = c.args in
    let pre' = c.requires in
    let thread-at' = c.thread_at-th in
    let slots-of' = c.slots_of in
    let free-thread' = c.free_thread in
    let is-root' = c.is_root in
    let if1' = c.if-is_root in
    let thread-at2' = c.thread_at-q in
    let set-slot' = c.set_slot in
    let without-child' = c.without_child in
    let put-thread' = c.put_thread in
    let wake' = c.wake in
    let core-after' = c.core_after in
    let l = pre'.seated.sized in
    let th = thread-at'.result in
    let same : th ≡ record_in args'.tables.now args'.at.thread = thread-seen l [] [] args'.at.thread th pre'.seated.number thread-at'.ensures in
    let ws = args'.words.now in
    let us = free-thread'.new.words in
    let cleared : us ≡ wiped ws th.origin.base (slots_of args'.image.now th.origin.routine) =
    free-thread'.ensures.words ∙ ap (λ (h : Thread). wiped ws h.origin.base slots-of'.result) (sym same) ∙ ap (λ (n : ℕ). wiped ws th.origin.base n) slots-of'.ensures in
    let low : th.origin.parent < 32 = has-parent _ _ is-root'.ensures if1'.false in
    let apart : th.origin.parent ≡ args'.at.thread → ⊥ = λ e. pre'.other (ap (λ (h : Thread). h.origin.parent) (sym same) ∙ e) in
    let q = thread-at2'.result in
    let vs = set-slot'.new.words in
    λ starts parameters memory allowance next offset.
    let j = job_of args'.image.now starts parameters allowance in
    let o = turn_with args'.at.core args'.at.thread th args'.at.weight next offset in
    let l1 = (free-thread'.ensures.tables 0 0).sized ∙ l in
    let l2 = put-thread'.ensures.sized ∙ l1 in
    let l3 = wake'.ensures.sized ∙ l2 in
    let gone : (xs : List ℕ) → meaning free-thread'.new.tables xs memory ≡ retired o (meaning args'.tables.now xs memory) =
    λ xs. (free-thread'.ensures.tables next offset).means l xs memory
    ∙ ap (λ (h : Thread). retired (turn_with args'.at.core args'.at.thread h args'.at.weight next offset) (meaning args'.tables.now xs memory)) (sym same) in
    returned-by j o th.origin.parent args'.v (meaning args'.tables.now ws memory) _ _ _ _ _ q _ _ vs _ is-root'.result
    is-root'.ensures if1'.false refl
    (left_behind o (meaning args'.tables.now ws memory) _ th.origin.parent q (gone ws) apart (thread-seen l1 ws memory th.origin.parent q low thread-at2'.ensures))
    (with-words args'.tables.now ws vs memory)
    (gone vs)
    (set-slot'.ensures ∙ ap (λ (xs : List ℕ). set xs (q.origin.base + th.origin.result) args'.v) cleared)
    c.status_after.ensures without-child'.ensures
    (thread-stored l1 vs memory th.origin.parent without-child'.result low put-thread'.ensures) (wake'.ensures.means l2 vs memory)
    core-after'.ensures (core-stored l3 vs memory args'.at.core core-after'.result pre'.seated.core c.put_core-2.ensures)
    ∙ ap (λ (h : Thread). return_of j (meaning args'.tables.now ws memory) (turn_with args'.at.core args'.at.thread h args'.at.weight next offset) args'.v) same
