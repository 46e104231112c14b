-- `entries::fork::fork` meets its contract. Assumes nothing.
use Rattle.entries.proofs.Born.{with-words, no_number, no-stacklet, born-by, spot-low, frame_pushed, frame-laid, base-found, room-kept}
use Rattle.entries.proofs.Chains.{charged}
use Rattle.dispatch.proofs.Queues.{head-below, first-of}
use Rattle.entries.specs.Given.{record_in, turn_with}
use Rattle.tables.proofs.Changes.{thread-seen}
use Rattle.tables.specs.Meaning.{meaning}
use Rattle.rules.specs.Fork.{asked, fork_of}
use Rattle.rules.specs.Update.{refused}
use Rattle.rules.specs.State.{job_of}
use Rattle.thread.specs.declared.Thread.{Thread}
use Rattle.std.proofs.Common.{◌≡◌, ◌/◌, ◌^◌, ◌<◌, [], sym, refl, ap, ◌∙◌, arith}
use Rattle.entries.proofs.fork.fork.Goals as goal

pub returns-in_default : goal.returns-in_default
returns-in_default c =
    λ starts parameters memory allowance offset. no_number _ _ _ _ _ c.dequeue.result.0
    (first-of _ _ _ (c.queue_of.ensures.means c.requires.seated.sized _ memory) c.dequeue.ensures) c.in_default.is

pub goes_above-above-requires : goal.goes_above-above-requires
goes_above-above-requires c =
    let args' = c.args in
    let pre' = c.requires in
    let thread-at' = c.thread_at-th in
    (pre'.seated.sized, rw (thread-seen pre'.seated.sized [] [] args'.at.thread thread-at'.result pre'.seated.number thread-at'.ensures) pre'.seated.base)

pub find_place-requires : goal.find_place-requires
find_place-requires c =
    let args' = c.args in
    let pre' = c.requires in
    let thread-at' = c.thread_at-th in
    rw (thread-seen pre'.seated.sized [] [] args'.at.thread thread-at'.result pre'.seated.number thread-at'.ensures) pre'.seated.base

pub returns-in_default-find_place : goal.returns-in_default-find_place
returns-in_default-find_place c =
    let args' = c.args in
    let pre' = c.requires in
    let thread-at' = c.thread_at-th in
    let goes-above' = c.goes_above-above in
    let find-place' = c.find_place in
    let l = pre'.seated.sized in
    let th = thread-at'.result in
    let same : th ≡ record_in args'.tables.now args'.at.thread = thread-seen pre'.seated.sized [] [] args'.at.thread thread-at'.result pre'.seated.number thread-at'.ensures in
    let ws = args'.words.now in
    λ starts parameters memory allowance offset.
    ap (refused 21) ((find-place'.ensures.none c.in_default-find_place.is).means l ws memory)
    ∙ no-stacklet (job_of args'.image.now starts parameters allowance) (meaning args'.tables.now ws memory) (turn_with args'.at.core args'.at.thread th args'.at.weight args'.next offset) (asked args'.r args'.d args'.a args'.e) args'.kind _ _ _ goes-above'.result c.dequeue.result.0 find-place'.result (meaning args'.tables.now ws memory).store.tops
    (first-of _ _ _ (c.queue_of.ensures.means l ws memory) c.dequeue.ensures) c.in-Some.is c.slots_of.ensures c.slots_of-wide.ensures refl
    (goes-above'.ensures ws memory) (find-place'.ensures.spot.means l ws memory) c.in_default-find_place.is
    ∙ ap (λ (h : Thread). fork_of (job_of args'.image.now starts parameters allowance) (meaning args'.tables.now ws memory) args'.kind (turn_with args'.at.core args'.at.thread h args'.at.weight args'.next offset) (asked args'.r args'.d args'.a args'.e)) same

pub put_records-requires : goal.put_records-requires
put_records-requires c =
    let args' = c.args in
    let pre' = c.requires in
    let thread-at' = c.thread_at-th in
    let same : thread-at'.result ≡ record_in args'.tables.now args'.at.thread = thread-seen pre'.seated.sized [] [] args'.at.thread thread-at'.result pre'.seated.number thread-at'.ensures in
    record {
      parent = pre'.seated.number;
      child = head-below (meaning args'.tables.now [] []).queues.free_threads 32 _ pre'.numbers (sym (first-of _ _ _ (c.queue_of.ensures.means pre'.seated.sized [] []) c.dequeue.ensures) ∙ c.in-Some.is);
      children = rw same pre'.children;
      result = pre'.result;
      low = rw same pre'.low;
      high = rw same pre'.high;
    }

pub overflow_add-base : goal.overflow_add-base
overflow_add-base c =
    let args' = c.args in
    let pre' = c.requires in
    let thread-at' = c.thread_at-th in
    let low : thread-at'.result.origin.base < 1024 = rw (thread-seen pre'.seated.sized [] [] args'.at.thread thread-at'.result pre'.seated.number thread-at'.ensures) pre'.seated.base in
    record { fits = omega (arith, c.ranges.a.fits) }

pub place_child-requires : goal.place_child-requires
place_child-requires c =
    let pre' = c.requires in
    let l = pre'.seated.sized in
    let l1 = c.find_place.ensures.left.sized ∙ l in
    let l2 = c.hand_out_number.ensures.sized ∙ l1 in
    let l3 = c.put_records.ensures.sized ∙ l2 in
    let l4 = c.charge.ensures.sized ∙ l3 in
    let l5 = c.push_frame.ensures.tops.sized ∙ l4 in
    (l5, pre'.seated.core)

pub returns : goal.returns
unfolding meaning
returns c =
    let args' = c.args in
    let pre' = c.requires in
    let thread-at' = c.thread_at-th in
    let goes-above' = c.goes_above-above in
    let find-place' = c.find_place in
    let spot' = c.in-Some-find_place in
    let hand-out-number' = c.hand_out_number in
    let next-base' = c.next_base-above_it in
    let put-records' = c.put_records in
    let charge' = c.charge in
    let push-frame' = c.push_frame in
    let l = pre'.seated.sized in
    let th = thread-at'.result in
    let same : th ≡ record_in args'.tables.now args'.at.thread = thread-seen pre'.seated.sized [] [] args'.at.thread thread-at'.result pre'.seated.number thread-at'.ensures in
    let ws = args'.words.now in
    let vs = push-frame'.new.words in
    let n = c.in-Some.n in
    let x = spot'.x in
    let low : x < 16 = spot-low goes-above'.result (th.origin.base / 64) x (meaning args'.tables.now [] []).queues.free_stacklets _ (let b : th.origin.base < 1024 = rw same pre'.seated.base in omega arith) pre'.stacklets (find-place'.ensures.spot.means l [] []) spot'.is in
    let l1 = find-place'.ensures.left.sized ∙ l in
    let l2 = hand-out-number'.ensures.sized ∙ l1 in
    let l3 = put-records'.ensures.sized ∙ l2 in
    let l4 = charge'.ensures.sized ∙ l3 in
    let l5 = push-frame'.ensures.tops.sized ∙ l4 in
    let room = room-kept goes-above'.result args'.kind args'.at.thread n args'.next next-base'.result args'.at.weight (2 ^ 32) th (asked args'.r args'.d 0 args'.e) _ _ _ _ (find-place'.ensures.left.means l [] []) (hand-out-number'.ensures.means l1 [] []) (put-records'.ensures.means l2 [] []) pre'.seated.units in
    λ starts parameters memory allowance offset.
    born-by (job_of args'.image.now starts parameters allowance) (meaning args'.tables.now ws memory) (turn_with args'.at.core args'.at.thread th args'.at.weight args'.next offset) (asked args'.r args'.d args'.a args'.e) args'.kind _ _ _ goes-above'.result c.dequeue.result.0 find-place'.result (meaning args'.tables.now ws memory).store.tops
    (first-of _ _ _ (c.queue_of.ensures.means l ws memory) c.dequeue.ensures) c.in-Some.is c.slots_of.ensures c.slots_of-wide.ensures refl
    (goes-above'.ensures ws memory) (find-place'.ensures.spot.means l ws memory) x spot'.is _ _ _ _ _ _ _ vs next-base'.result c.arguments_of-given.result
    (with-words args'.tables.now ws vs memory) (find-place'.ensures.left.means l vs memory) (hand-out-number'.ensures.means l1 vs memory)
    (put-records'.ensures.means l2 vs memory) (charged args'.at.weight l3 room charge'.ensures vs memory)
    (frame_pushed l4 x c.slots_of-wide.result low vs memory _ push-frame'.ensures.tops) (c.place_child.ensures.means l5 vs memory)
    (base-found l2 x 0 low vs memory next-base'.result next-base'.ensures) c.arguments_of-given.ensures
    (frame-laid l4 x c.slots_of-wide.result low vs memory _ _ _ push-frame'.ensures.words)
    ∙ ap (λ (h : Thread). fork_of (job_of args'.image.now starts parameters allowance) (meaning args'.tables.now ws memory) args'.kind (turn_with args'.at.core args'.at.thread h args'.at.weight args'.next offset) (asked args'.r args'.d args'.a args'.e)) same
