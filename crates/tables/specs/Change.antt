-- What reading the tables gives, and what a store into them does: a store is a small change of the state, as the rules are made of.
use Rattle.std.specs.Prelude.{◌≡◌, ℕ, ◌+◌, ◌%◌, ◌^◌, List, length, replicate, ◌≢◌, slice_set}
use Rattle.stacklets.specs.Tops.{pushed_tops, popped_tops}
use Rattle.stacklets.specs.Frames.{pushed_words}
use Rattle.thread.specs.Thread.{moved_to}
use Rattle.rules.specs.State.{State, Outcome, going, finished, faulted, thread_at}
use Rattle.rules.specs.Update.{set_thread, set_tops, set_free_threads, set_free_stacklets, set_ready}
use Rattle.tables.specs.declared.lines.Line.{Line}
use Rattle.tables.specs.declared.lines.Line.TheVariants.{FreeThreads, FreeStacklets, Ready}
use Rattle.tables.specs.declared.Standing.{Standing}
use Rattle.tables.specs.declared.Standing.TheVariants.{Going, Over, Failed}
use Rattle.tables.specs.Meaning.{size, meaning}

-- r is this part of what the tables mean, whatever words the machine is lent; of tables of another size it is `none`
pub record Reads {A : Type 0} (xs : List ℕ) (r : A) (part : State → A) (none : A) : Type 0 where
  pub means : length xs ≡ size → (words memory : List ℕ) → r ≡ part (meaning xs words memory)
  pub other : (length xs ≢ size) → r ≡ none

-- the tables xs have become ys: what they mean is changed so, whatever words the machine is lent. Tables of another size stay as they are
pub record Becomes (xs ys : List ℕ) (change : State → State) : Type 0 where
  pub means : length xs ≡ size → (words memory : List ℕ) → meaning ys words memory ≡ change (meaning xs words memory)
  pub sized : length ys ≡ length xs
  pub other : (length xs ≢ size) → ys ≡ xs

-- the tables xs have become ys, all zeros; tables of another size stay as they are
pub record Clears (xs ys : List ℕ) : Type 0 where
  pub zeros : length xs ≡ size → ys ≡ replicate size 0
  pub sized : length ys ≡ length xs
  pub other : (length xs ≢ size) → ys ≡ xs

-- each of the three queues of a state, and the state with another in its place
abbrev pub queue_of : Line → State → List ℕ
queue_of FreeThreads s = s.queues.free_threads
queue_of FreeStacklets s = s.queues.free_stacklets
queue_of Ready s = s.queues.ready

abbrev pub set_queue : Line → List ℕ → State → State
set_queue FreeThreads = set_free_threads
set_queue FreeStacklets = set_free_stacklets
set_queue Ready = set_ready

-- thread t's next command is at p
abbrev pub moves_on : ℕ → ℕ → State → State
moves_on t p s = set_thread t (moved_to p (thread_at s t)) s

-- the top of stacklet x
abbrev pub set_top : ℕ → ℕ → State → State
set_top x top s = set_tops (slice_set s.store.tops x top) s

-- a new frame of so many words on stacklet x, and the end of the one at a base
abbrev pub pushes : ℕ → ℕ → State → State
pushes x slots s = set_tops (pushed_tops s.store.tops x slots) s

abbrev pub pops : ℕ → State → State
pops base s = set_tops (popped_tops s.store.tops base) s

-- what a new frame does to the words
pub record Pushes (xs : List ℕ) (x slots : ℕ) (arguments before after : List ℕ) : Type 0 where
  pub means : length xs ≡ size → (words memory : List ℕ) → after ≡ pushed_words (meaning xs words memory).store.tops before x slots arguments
  pub other : (length xs ≢ size) → after ≡ before

-- the number of cores
abbrev pub set_count : ℕ → State → State
set_count n s =
    record { threads = s.threads; cores = s.cores; count = n; queues = s.queues; store = s.store; units = s.units; outcome = s.outcome }

-- the units
abbrev pub set_units : ℕ → State → State
set_units n s =
    record { threads = s.threads; cores = s.cores; count = s.count; queues = s.queues; store = s.store; units = n; outcome = s.outcome }

-- a weight is charged, modulo 2^32: a sound state has room for it
abbrev pub charges : ℕ → State → State
charges w s = set_units ((s.units + w) % 2 ^ 32) s

-- how the machine stands, as the code tells it
abbrev pub outcome_by : Standing → Outcome
outcome_by Going = going
outcome_by (Over v) = finished v
outcome_by (Failed n t o) = faulted n t o
