-- `entries::steal::carry_seed` meets its contract. Assumes nothing.
use Rattle.rules.specs.Rules.{stolen_of}
use Rattle.thread.specs.Effect.{number_of_fault}
use Rattle.rules.specs.State.{State}
use Rattle.std.proofs.Common.{ap}
use Rattle.entries.proofs.steal.carry_seed.Goals as goal

pub fork-requires : goal.fork-requires
fork-requires c =
    rw c.in-Forks.is at c.requires

pub returns-in-Forks : goal.returns-in-Forks
unfolding stolen_of
returns-in-Forks c =
    λ starts parameters memory allowance. rw c.in-Forks.is (c.fork.ensures starts parameters memory allowance c.args.place)

pub returns-in-Faults : goal.returns-in-Faults
unfolding stolen_of
returns-in-Faults c =
    λ starts parameters memory allowance. rw c.in-Faults.is (ap (λ (s : State). record { state = s; log = number_of_fault c.in-Faults.fault }) (rw c.number.ensures at (c.fail.ensures.means (rw c.in-Faults.is at c.requires) c.args.words.now memory)))

pub returns-in-Lforks : goal.returns-in-Lforks
returns-in-Lforks c =
    absurd (rw c.in-Lforks.is at c.requires)

pub returns-in-Sets : goal.returns-in-Sets
returns-in-Sets c =
    absurd (rw c.in-Sets.is at c.requires)

pub returns-in-Loads : goal.returns-in-Loads
returns-in-Loads c =
    absurd (rw c.in-Loads.is at c.requires)

pub returns-in-Stores : goal.returns-in-Stores
returns-in-Stores c =
    absurd (rw c.in-Stores.is at c.requires)

pub returns-in-Goes : goal.returns-in-Goes
returns-in-Goes c =
    absurd (rw c.in-Goes.is at c.requires)

pub returns-in-Continues : goal.returns-in-Continues
returns-in-Continues c =
    absurd (rw c.in-Continues.is at c.requires)

pub returns-in-Joins : goal.returns-in-Joins
returns-in-Joins c =
    absurd (rw c.in-Joins.is at c.requires)

pub returns-in-Suspends : goal.returns-in-Suspends
returns-in-Suspends c =
    absurd (rw c.in-Suspends.is at c.requires)

pub returns-in-Yields : goal.returns-in-Yields
returns-in-Yields c =
    absurd (rw c.in-Yields.is at c.requires)

pub returns-in-Returns : goal.returns-in-Returns
returns-in-Returns c =
    absurd (rw c.in-Returns.is at c.requires)

pub returns-in-Shares : goal.returns-in-Shares
returns-in-Shares c =
    absurd (rw c.in-Shares.is at c.requires)
