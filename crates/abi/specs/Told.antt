-- What `hofnulda_run` promises.
use Rattle.std.specs.Prelude.{List, ◌≡◌, ℕ}
use Rattle.demands.specs.Input.{Input}
use Rattle.run.specs.declared.Ran.{Ran}
use Rattle.run.specs.Promise.{RunPromise}
use Rattle.abi.specs.Words.{IsTold, Written}

-- there is what `run` gives, which keeps its promise, and the words tell its answer, its counts, its threads' statuses and the words of its
-- stacklets
pub record RunTold (i : Input) (schedule log memory_after logAfter : List ℕ) (w : Written) : Type 0 where
  pub ran : Ran
  pub promise : RunPromise i schedule log ran memory_after logAfter
  pub told : IsTold ran.shown w.answer w.counts w.statuses
  pub words : w.stacklets ≡ ran.words
