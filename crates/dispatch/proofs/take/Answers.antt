-- `dispatch::take` meets its contract. Assumes nothing.
use Rattle.dispatch.proofs.Queues.{head-below, first-of, rest_of}
use Rattle.dispatch.proofs.Dispatching.{take-over, take-no-core, take-busy, take_none, took}
use Rattle.dispatch.proofs.Able.{ready-first}
use Rattle.tables.proofs.Changes.{thread-seen, core-seen, thread-stored, core-stored}
use Rattle.tables.specs.Meaning.{meaning}
use Rattle.rules.specs.Update.{set_ready}
use native.Mathlib.Omega.{arith}
use Prim.Native.Nat.{ℕ, ◌<◌}
use mathlib.Core.List.{List}
use mathlib.Core.Path.{sym, ap, ◌∙◌}
use Rattle.dispatch.proofs.take.Goals as goal

pub returns-then-is_over : goal.returns-then-is_over
returns-then-is_over c =
    let args' = c.args in
    λ words memory. take-over (meaning args'.tables.now words memory) args'.c c.is_over.result (c.is_over.ensures.means c.requires.sized words memory) c.if-is_over.true

pub returns-then-count-c : goal.returns-then-count-c
returns-then-count-c c =
    let args' = c.args in
    let pre' = c.requires in
    let is-over' = c.is_over in
    λ words memory. take-no-core (meaning args'.tables.now words memory) args'.c is-over'.result (is-over'.ensures.means pre'.sized words memory) c.count.result c.if-is_over.false (c.count.ensures.means pre'.sized words memory) c.if-count-c.true

pub returns-then-core_at-lt32 : goal.returns-then-core_at-lt32
returns-then-core_at-lt32 c =
    let args' = c.args in
    let pre' = c.requires in
    let is-over' = c.is_over in
    let count' = c.count in
    let if2' = c.if-count-c in
    let low : args'.c < 4 = (omega (arith, if2'.false, count'.ensures.means pre'.sized pre'.words pre'.memory, pre'.sound.sized.most)) in
    λ words memory. take-busy (meaning args'.tables.now words memory) args'.c is-over'.result (is-over'.ensures.means pre'.sized words memory) count'.result c.if-is_over.false (count'.ensures.means pre'.sized words memory) c.core_at.result if2'.false (core-seen pre'.sized words memory args'.c c.core_at.result low c.core_at.ensures) c.if-core_at-lt32.true

pub returns-in_default : goal.returns-in_default
returns-in_default c =
    let args' = c.args in
    let pre' = c.requires in
    let is-over' = c.is_over in
    let count' = c.count in
    let if2' = c.if-count-c in
    let core-at' = c.core_at in
    let low : args'.c < 4 = (omega (arith, if2'.false, count'.ensures.means pre'.sized pre'.words pre'.memory, pre'.sound.sized.most)) in
    λ words memory. take_none (meaning args'.tables.now words memory) args'.c is-over'.result (is-over'.ensures.means pre'.sized words memory) count'.result c.if-is_over.false (count'.ensures.means pre'.sized words memory) core-at'.result if2'.false (core-seen pre'.sized words memory args'.c core-at'.result low core-at'.ensures) c.if-core_at-lt32.false c.dequeue-first.result.0 (first-of _ _ _ (c.queue_of.ensures.means pre'.sized words memory) c.dequeue-first.ensures) c.in_default.is

pub returns : goal.returns
returns c =
    let args' = c.args in
    let pre' = c.requires in
    let is-over' = c.is_over in
    let count' = c.count in
    let if2' = c.if-count-c in
    let core-at' = c.core_at in
    let ready' = c.queue_of in
    let dequeue' = c.dequeue-first in
    let first' = c.in-Some in
    let put-ready' = c.put_queue in
    let thread-at' = c.thread_at-th in
    let with-status' = c.with_status in
    let put-thread' = c.put_thread in
    let low : args'.c < 4 = (omega (arith, if2'.false, count'.ensures.means pre'.sized pre'.words pre'.memory, pre'.sound.sized.most)) in
    let t = first'.t in
    let small : t < 32 = head-below (meaning args'.tables.now pre'.words pre'.memory).queues.ready 32 t (ready-first pre'.job _ pre'.sound) (sym (first-of _ _ _ (ready'.ensures.means pre'.sized pre'.words pre'.memory) dequeue'.ensures) ∙ first'.is) in
    λ words memory.
    let l = pre'.sized in
    let l1 = put-ready'.ensures.sized ∙ l in
    let l2 = put-thread'.ensures.sized ∙ l1 in
    took (meaning args'.tables.now words memory) args'.c is-over'.result (is-over'.ensures.means pre'.sized words memory) count'.result c.if-is_over.false (count'.ensures.means pre'.sized words memory) core-at'.result if2'.false (core-seen pre'.sized words memory args'.c core-at'.result low core-at'.ensures) c.if-core_at-lt32.false dequeue'.result.0 (first-of _ _ _ (ready'.ensures.means pre'.sized words memory) dequeue'.ensures) t _ _ _ _ _ first'.is
    (put-ready'.ensures.means l words memory ∙ ap (λ (q : List ℕ). set_ready q (meaning args'.tables.now words memory)) (rest_of _ _ _ (ready'.ensures.means l words memory) dequeue'.ensures))
    (thread-seen l1 words memory t thread-at'.result small thread-at'.ensures) with-status'.ensures
    (thread-stored l1 words memory t with-status'.result small put-thread'.ensures)
    (core-stored l2 words memory args'.c t low c.put_core.ensures)
