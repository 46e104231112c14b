-- What the inner functions give.
use Rattle.std.specs.Prelude.{List, ◌++◌, ◌≡◌, ℕ, length, replicate}
use Rattle.schedule.specs.declared.Entry.{Entry}
use Rattle.thread.specs.Job.{Job}
use Rattle.rules.specs.State.{State}
use Rattle.rules.specs.Runs.{run_from, logs_from, logged}

-- a log with bytes at its front up to a position has more bytes behind them
abbrev pub LogsOn : List ℕ → ℕ → List ℕ → List ℕ → Type 0
LogsOn before at bytes after = (first done : List ℕ) → before ≡ logged first done → length done ≡ at → after ≡ logged first (done ++ bytes)

-- an entry was met so many times
pub record RowPlayed (j : Job) (s : State) (e : Entry) (many : ℕ) (before : List ℕ) (at : ℕ) (end : State) (after : List ℕ) : Type 0 where
  pub state : end ≡ run_from j s (replicate many e)
  pub logs : LogsOn before at (logs_from j s (replicate many e)) after
