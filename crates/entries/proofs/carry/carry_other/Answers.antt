-- `entries::carry::carry_other` meets its contract. Assumes nothing.
use mathlib.Core.Logic.{inl, inr}
use Rattle.std.proofs.Common.{ℕ, List, ap, ◌∙◌}
use Rattle.thread.specs.Effect.{number_of_fault}
use Rattle.rules.specs.State.{State}
use Rattle.rules.specs.Update.{accepted, set_ready, enqueue_ready}
use Rattle.rules.specs.Rules.{carried_of}
use Rattle.tables.specs.Meaning.{meaning}
use Rattle.dispatch.proofs.Queues.{behind-last}
use Rattle.entries.proofs.carry.carry_other.Goals as goal

pub fork-requires : goal.fork-requires
fork-requires c =
    let pre' = c.requires in
    rw c.in-Lforks.is at pre'

pub fork-requires-in-Forks : goal.fork-requires-in-Forks
fork-requires-in-Forks c =
    let pre' = c.requires in
    rw c.in-Forks.is at pre'

pub pass_join-requires : goal.pass_join-requires
pass_join-requires c = rw c.in-Joins.is at c.requires

pub go_off-requires : goal.go_off-requires
go_off-requires c = rw c.in-Suspends.is at c.requires

pub go_off-requires-in-Yields : goal.go_off-requires-in-Yields
go_off-requires-in-Yields c = rw c.in-Yields.is at c.requires

pub return_value-requires : goal.return_value-requires
return_value-requires c =
    let pre' = c.requires in
    rw c.in-Returns.is at pre'

pub share-requires : goal.share-requires
share-requires c =
    let pre' = c.requires in
    rw c.in-Shares.is at pre'

pub returns-in-Lforks : goal.returns-in-Lforks
unfolding carried_of
returns-in-Lforks c =
    let args' = c.args in
    λ starts parameters memory allowance. rw c.in-Lforks.is (c.fork.ensures starts parameters memory allowance args'.place)

pub returns-in-Forks : goal.returns-in-Forks
unfolding carried_of
returns-in-Forks c =
    let args' = c.args in
    λ starts parameters memory allowance. rw c.in-Forks.is (c.fork-in-Forks.ensures starts parameters memory allowance args'.place)

pub returns-in-Joins : goal.returns-in-Joins
unfolding carried_of
returns-in-Joins c =
    let args' = c.args in
    let pre' = c.requires in
    let need = rw c.in-Joins.is at pre' in
    λ starts parameters memory allowance. rw c.in-Joins.is (ap accepted ((c.pass_join.ensures args'.place).means need.sized args'.words.now memory))

pub returns-in-Suspends : goal.returns-in-Suspends
unfolding carried_of
returns-in-Suspends c =
    let args' = c.args in
    let pre' = c.requires in
    let need = rw c.in-Suspends.is at pre' in
    λ starts parameters memory allowance. rw c.in-Suspends.is (ap accepted ((c.go_off.ensures args'.place).means need.seated.sized args'.words.now memory))

pub returns-in-Yields : goal.returns-in-Yields
unfolding carried_of
returns-in-Yields c =
    let go-off2' = c.go_off-in-Yields in
    let args' = c.args in
    let pre' = c.requires in
    let need = rw c.in-Yields.is at pre' in
    let l1 = (go-off2'.ensures 0).sized ∙ need.seated.sized in
    λ starts parameters memory allowance. rw c.in-Yields.is (ap accepted
    (c.put_queue.ensures.means l1 args'.words.now memory
    ∙ ap (λ (q : List ℕ). set_ready q (meaning go-off2'.new.tables args'.words.now memory)) (behind-last _ _ _ _ (c.queue_of.ensures.means l1 args'.words.now memory) c.enqueue-line.ensures)
    ∙ ap (enqueue_ready args'.at.thread) ((go-off2'.ensures args'.place).means need.seated.sized args'.words.now memory)))

pub returns-in-Returns : goal.returns-in-Returns
unfolding carried_of
returns-in-Returns c =
    let args' = c.args in
    λ starts parameters memory allowance. rw c.in-Returns.is (ap accepted (c.return_value.ensures starts parameters memory allowance _ args'.place))

pub returns-in-Shares : goal.returns-in-Shares
unfolding carried_of
returns-in-Shares c =
    let args' = c.args in
    let pre' = c.requires in
    let need = rw c.in-Shares.is at pre' in
    λ starts parameters memory allowance. rw c.in-Shares.is (ap accepted ((c.share.ensures args'.place).means need.seated.sized args'.words.now memory))

pub returns-in-Faults : goal.returns-in-Faults
unfolding carried_of
returns-in-Faults c =
    let args' = c.args in
    let pre' = c.requires in
    λ starts parameters memory allowance. rw c.in-Faults.is (ap (λ (s : State). record { state = s; log = number_of_fault c.in-Faults.fault }) (rw c.number.ensures at (c.fail.ensures.means (rw c.in-Faults.is at pre') args'.words.now memory)))

-- not met
pub returns-in-Sets : goal.returns-in-Sets
returns-in-Sets c = elim c.in-Sets.is [
  | inl x ↦ absurd (rw x.2 at c.requires)
  | inr y ↦ elim y [
    | inl x ↦ absurd (rw x.2 at c.requires)
    | inr x ↦ absurd (rw x.2 at c.requires)
  ]
]

pub returns-in-Goes : goal.returns-in-Goes
returns-in-Goes c = elim c.in-Goes.is [
  | inl x ↦ absurd (rw x.1 at c.requires)
  | inr e ↦ absurd (rw e at c.requires)
]
