-- `dispatch::enable` meets its contract. Assumes nothing.
use Rattle.dispatch.proofs.Queues.{behind-last}
use Rattle.dispatch.proofs.Dispatching.{enable-over, enable-none, enable-awake, enabled}
use Rattle.tables.proofs.Changes.{thread-seen, thread-stored}
use Rattle.tables.specs.Meaning.{meaning}
use Rattle.rules.specs.Update.{set_ready}
use Prim.Native.Nat.{ℕ}
use mathlib.Core.List.{List}
use mathlib.Core.Bool.{true, false}
use mathlib.Core.Path.{◌≡◌, refl, ap, ◌∙◌}
use Rattle.std.proofs.Common.{rules}
use Rattle.thread.specs.declared.Status.TheVariants.{Suspended}
use Rattle.thread.specs.Thread.{◌is◌}
use Rattle.dispatch.proofs.enable.Goals as goal

pub returns-then-is_over : goal.returns-then-is_over
returns-then-is_over c =
    let args' = c.args in
    λ words memory. enable-over (meaning args'.tables.now words memory) args'.t c.is_over.result (c.is_over.ensures.means c.requires words memory) c.if-is_over.true

pub returns-then-t-ge32 : goal.returns-then-t-ge32
returns-then-t-ge32 c =
    let args' = c.args in
    λ words memory. enable-none (meaning args'.tables.now words memory) args'.t c.is_over.result (c.is_over.ensures.means c.requires words memory) c.if-is_over.false c.if-t-ge32.true

pub returns-then-ne : goal.returns-then-ne
returns-then-ne c =
    let args' = c.args in
    let pre' = c.requires in
    let is-over' = c.is_over in
    let if2' = c.if-t-ge32 in
    let awake : (c.thread_at-th.result.status is Suspended) ≡ false = search rules in
    λ words memory. enable-awake (meaning args'.tables.now words memory) args'.t is-over'.result (is-over'.ensures.means (pre') words memory) c.if-is_over.false if2'.false c.thread_at-th.result (thread-seen (pre') words memory args'.t c.thread_at-th.result if2'.false c.thread_at-th.ensures) _ refl awake

pub returns : goal.returns
returns c =
    let args' = c.args in
    let pre' = c.requires in
    let is-over' = c.is_over in
    let if2' = c.if-t-ge32 in
    let thread-at' = c.thread_at-th in
    let asleep : (c.thread_at-th.result.status is Suspended) ≡ true = search rules in
    let with-status' = c.with_status in
    let put-thread' = c.put_thread in
    λ words memory.
    let l1 = put-thread'.ensures.sized ∙ (pre') in
    enabled (meaning args'.tables.now words memory) args'.t is-over'.result (is-over'.ensures.means (pre') words memory) c.if-is_over.false if2'.false thread-at'.result (thread-seen (pre') words memory args'.t thread-at'.result if2'.false thread-at'.ensures) _ refl _ _ _ asleep with-status'.ensures
    (thread-stored (pre') words memory args'.t with-status'.result if2'.false put-thread'.ensures)
    (c.put_queue.ensures.means l1 words memory ∙ ap (λ (q : List ℕ). set_ready q (meaning put-thread'.new.tables words memory)) (behind-last _ _ _ _ (c.queue_of.ensures.means l1 words memory) c.enqueue.ensures))
