-- What `hofnulda_scheduled` promises.
use Rattle.std.specs.Prelude.{List, ◌≡◌, ℕ}
use Rattle.demands.specs.Input.{Input}
use Rattle.scheduler.specs.declared.Scheduled.{Scheduled}
use Rattle.scheduler.specs.Promise.{SchedulerPromise}
use Rattle.abi.specs.Words.{IsTold, Written}

-- there is what the built-in scheduler gives, which keeps its promise, and the words tell it
pub record ScheduledTold (i : Input) (before memory_after after : List ℕ) (w : Written) (used : ℕ) : Type 0 where
  pub scheduled : Scheduled
  pub promise : SchedulerPromise i before scheduled memory_after after
  pub told : IsTold scheduled.ran.shown w.answer w.counts w.statuses
  pub words : w.stacklets ≡ scheduled.ran.words
  pub taken : used ≡ scheduled.used
