-- What the bytes of the tables mean: a state of the machine.
--     0  32 thread records of 24 bytes each (`record_at`)
--   768  the thread on each of 4 cores        772  units (4)        776  the number of cores
--   777  outcome: over, fault, its thread, its offset (2), result (4)
--   786  16 tops        802  free threads        836  free stacklets        870  ready: each 32 places, head, length
use Rattle.std.specs.Prelude.{ℕ, ◌+◌, ◌*◌, cond, List, ◌==◌, slice_index}
use Rattle.queue.specs.declared.Queue.{Queue}
use Rattle.queue.specs.Contents.{contents}
use Rattle.stacklets.specs.declared.Stacklets.{Stacklets}
use Rattle.stacklets.specs.Tops.{tops_of}
use Rattle.thread.specs.declared.Thread.{Thread}
use Rattle.cells.specs.Record.{record_at}
use Rattle.rules.specs.State.{State, Outcome, going, finished, faulted}
use Rattle.tables.specs.declared.lines.Line.{Line}
use Rattle.tables.specs.declared.lines.Line.TheVariants.{FreeThreads, FreeStacklets, Ready}
use Rattle.tables.specs.Cells.{from, two_at, four_at}

-- how many bytes the tables have
abbrev pub size : ℕ
size = 904

-- the parts of the state
unfoldable pub threads_in : List ℕ → List Thread
threads_in xs = from 0 32 (λ t. record_at xs (24 * t))

unfoldable pub cores_in : List ℕ → List ℕ
cores_in xs = from 0 4 (λ c. slice_index xs (768 + c))

unfoldable pub units_in : List ℕ → ℕ
units_in xs = four_at xs 772

unfoldable pub outcome_in : List ℕ → Outcome
outcome_in xs =
    cond (slice_index xs 777 == 0) going
    (cond (slice_index xs 777 == 1) (finished (four_at xs 782)) (faulted (slice_index xs 778) (slice_index xs 779) (two_at xs 780)))

unfoldable pub stacklets_in : List ℕ → Stacklets
stacklets_in xs = record { tops = from 0 16 (λ x. slice_index xs (786 + x)) }

unfoldable pub queue_in : List ℕ → ℕ → Queue
queue_in xs a = record { places = from 0 32 (λ i. slice_index xs (a + i)); head = slice_index xs (a + 32); len = slice_index xs (a + 33) }

-- where each queue stands
abbrev pub place_of : Line → ℕ
place_of FreeThreads = 802
place_of FreeStacklets = 836
place_of Ready = 870

-- what the tables mean, with the words that the machine is lent
unfoldable pub meaning : List ℕ → List ℕ → List ℕ → State
meaning xs words memory = record {
  threads = threads_in xs;
  cores = cores_in xs;
  count = slice_index xs 776;
  queues = record {
    free_threads = contents (queue_in xs 802);
    free_stacklets = contents (queue_in xs 836);
    ready = contents (queue_in xs 870);
  };
  store = record { tops = tops_of (stacklets_in xs); words = words; memory = memory };
  units = units_in xs;
  outcome = outcome_in xs;
}
