-- "After a run the records in each state are counted over the thread table": how many records of a list, of any length, are in a state.
use Rattle.std.specs.Prelude.{Bool, true, false, List, [], ◌∷◌, ℕ, ◌+◌}
use Rattle.thread.specs.declared.Status.{Status}
use Rattle.thread.specs.declared.Status.TheVariants.{Free, Running, Ready, Suspended, Waiting, Lent}
use Rattle.thread.specs.declared.Thread.{Thread}
use Rattle.thread.specs.Thread.{◌is◌}
use Rattle.census.specs.declared.Census.{Census}

abbrev pub one_if : Bool → ℕ
one_if true = 1
one_if false = 0

-- 1 where a record is in the state, else 0
abbrev pub is_in : Status → Thread → ℕ
is_in status thread = one_if (thread.status is status)

unfoldable pub records_in : Status → List Thread → ℕ
records_in status [] = 0
records_in status (thread ∷ threads) = is_in status thread + records_in status threads

-- "free, running, ready, suspended, waiting or lent": the records in each of these
abbrev pub census_of : List Thread → Census
census_of threads = record {
  free = records_in Free threads;
  running = records_in Running threads;
  ready = records_in Ready threads;
  suspended = records_in Suspended threads;
  waiting = records_in Waiting threads;
  lent = records_in Lent threads;
}
