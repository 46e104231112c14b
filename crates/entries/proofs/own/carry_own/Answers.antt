use Rattle.std.proofs.Common.{refl}
use Rattle.entries.proofs.Owning.{own-sets, own-loads, own-stores, own-goes, own-continues}
use Rattle.entries.proofs.own.carry_own.Goals as goal

pub overflow_sub-a : goal.overflow_sub-a
overflow_sub-a c = rw c.in-Stores.is at c.requires

pub returns-in-Sets : goal.returns-in-Sets
returns-in-Sets c = let a = c.args in
    own-sets a.done a.position a.base _ a.words.now a.memory.now _ _ _ _ refl c.in-Sets.is c.set_slot.ensures

pub returns-in-Loads : goal.returns-in-Loads
returns-in-Loads c = let a = c.args in
    own-loads a.done a.position a.base _ a.words.now a.memory.now _ _ _ _ _ refl c.in-Loads.is c.load-v.ensures c.set_slot-in-Loads.ensures

pub returns-in-Stores : goal.returns-in-Stores
returns-in-Stores c = let a = c.args in
    own-stores a.done a.position a.base _ a.words.now a.memory.now _ _ _ _ refl c.in-Stores.is c.put_in.ensures

pub returns-in-Goes : goal.returns-in-Goes
returns-in-Goes c = let a = c.args in
    own-goes a.done a.position a.base _ a.words.now a.memory.now _ c.in-Goes.is

pub returns-in-Continues : goal.returns-in-Continues
returns-in-Continues c = let a = c.args in
    own-continues a.done a.position a.base _ a.words.now a.memory.now _ refl c.in-Continues.is

pub returns-in-Faults : goal.returns-in-Faults
returns-in-Faults c = (refl, refl, rw c.in-Faults.is tt)

pub returns-in-Lforks : goal.returns-in-Lforks
returns-in-Lforks c = (refl, refl, rw c.in-Lforks.is tt)

pub returns-in-Forks : goal.returns-in-Forks
returns-in-Forks c = (refl, refl, rw c.in-Forks.is tt)

pub returns-in-Joins : goal.returns-in-Joins
returns-in-Joins c = (refl, refl, rw c.in-Joins.is tt)

pub returns-in-Suspends : goal.returns-in-Suspends
returns-in-Suspends c = (refl, refl, rw c.in-Suspends.is tt)

pub returns-in-Yields : goal.returns-in-Yields
returns-in-Yields c = (refl, refl, rw c.in-Yields.is tt)

pub returns-in-Returns : goal.returns-in-Returns
returns-in-Returns c = (refl, refl, rw c.in-Returns.is tt)

pub returns-in-Shares : goal.returns-in-Shares
returns-in-Shares c = (refl, refl, rw c.in-Shares.is tt)
