-- A worked row: a small run by entries, with its log bytes and its end worked out by hand from document 01; and the routines that rows share.
use Rattle.std.specs.Prelude.{List, [], ◌∷◌, ◌++◌, ℕ, replicate, take}
use Rattle.image.specs.Layout.{arguments_of, program_of, starts_in}
use Rattle.queue.specs.Contents.{ascending_from}
use Rattle.schedule.specs.declared.Entry.{Entry}
use Rattle.thread.specs.declared.Status.{Status}
use Rattle.thread.specs.declared.Status.TheVariants.{Free}
use Rattle.rules.specs.State.{Job, job_of, State, Outcome, thread_at}
use Rattle.rules.specs.Start.{start_state}
use Rattle.rules.specs.Runs.{run_from, logs_from}

-- a run of an image on as many arguments as its routine 0 has, 7 and on; parameter word i is 100 + i, and the memory words start zero
pub record WorkedRow : Type 0 where
  pub image : List ℕ
  pub cores : ℕ
  pub allowance : ℕ
  pub entries : List Entry
  pub log : List ℕ
  pub outcome : Outcome
  pub units : ℕ
  -- the words at 32 to 35
  pub memory : List ℕ
  -- of threads 0 to 3
  pub statuses : List Status

-- the job of such a run, of an image at an allowance, and its start on so many cores
abbrev pub job_for : List ℕ → ℕ → Job
job_for image allowance = job_of image (starts_in (program_of image)) (ascending_from 100 32) allowance

abbrev pub start_for : Job → ℕ → State
start_for j cores = start_state j cores (ascending_from 7 (arguments_of j.image 0)) (replicate 992 0)

abbrev pub row_job : WorkedRow → Job
row_job r = job_for r.image r.allowance

abbrev pub row_start : WorkedRow → State
row_start r = start_for (row_job r) r.cores

-- what is told of a run
pub record Told : Type 0 where
  pub log : List ℕ
  pub outcome : Outcome
  pub units : ℕ
  pub memory : List ℕ
  pub statuses : List Status

abbrev told_of : List ℕ → State → Told
told_of log s = record {
  log = log;
  outcome = s.outcome;
  units = s.units;
  memory = take 4 s.store.memory;
  statuses = (thread_at s 0).status ∷ (thread_at s 1).status ∷ (thread_at s 2).status ∷ (thread_at s 3).status ∷ [];
}

-- by the rules, and by hand
abbrev pub told_by_rules : WorkedRow → Told
told_by_rules r = told_of (logs_from (row_job r) (row_start r) r.entries) (run_from (row_job r) (row_start r) r.entries)

abbrev pub told_by_hand : WorkedRow → Told
told_by_hand r = record { log = r.log; outcome = r.outcome; units = r.units; memory = r.memory; statuses = r.statuses }

-- of each row
abbrev pub each : (WorkedRow → Told) → List WorkedRow → List Told
each told [] = []
each told (r ∷ rs) = told r ∷ each told rs

-- memory words where nothing was stored
abbrev pub untouched : List ℕ
untouched = 0 ∷ 0 ∷ 0 ∷ 0 ∷ []

-- threads when the machine has finished
abbrev pub none_left : List Status
none_left = Free ∷ Free ∷ Free ∷ Free ∷ []

-- returns 5
abbrev pub five : List ℕ
five = 0x01 ∷ 0x00 ∷ 0x05 ∷ 0x00 ∷ 0x0D ∷ 0x00 ∷ []

-- returns its first slot: 0, or its argument
abbrev pub nought : List ℕ
nought = 0x0D ∷ 0x00 ∷ []

-- suspends, and returns 0
abbrev pub resting : List ℕ
resting = 0x0B ∷ 0x0D ∷ 0x00 ∷ []

-- yields, and returns 0
abbrev pub yielding : List ℕ
yielding = 0x0C ∷ 0x0D ∷ 0x00 ∷ []

-- stores its argument at that address, and returns it
abbrev pub storing : List ℕ
storing = 0x05 ∷ 0x00 ∷ 0x00 ∷ 0x0D ∷ 0x00 ∷ []

-- loads the word at its argument, and returns it
abbrev pub loading : List ℕ
loading = 0x04 ∷ 0x00 ∷ 0x00 ∷ 0x0D ∷ 0x00 ∷ []

-- of two slots: lforks routine r to slot 0, the cut, 32, in slot 1; joins, and returns slot 0
abbrev pub calls : ℕ → List ℕ
calls r = 0x01 ∷ 0x01 ∷ 0x20 ∷ 0x00 ∷ 0x08 ∷ r ∷ 0x00 ∷ 0x00 ∷ 0x01 ∷ 0x0A ∷ 0x0D ∷ 0x00 ∷ []

-- the same with a fork
abbrev pub forks : ℕ → List ℕ
forks r = 0x01 ∷ 0x01 ∷ 0x20 ∷ 0x00 ∷ 0x09 ∷ r ∷ 0x00 ∷ 0x00 ∷ 0x01 ∷ 0x0A ∷ 0x0D ∷ 0x00 ∷ []

-- of three slots: lforks routine r to slot 0 and routine q to slot 1, the cut, 32, in slot 2; joins, and returns slot 0
abbrev pub calls_two : ℕ → ℕ → List ℕ
calls_two r q =
    0x01 ∷ 0x02 ∷ 0x20 ∷ 0x00 ∷ 0x08 ∷ r ∷ 0x00 ∷ 0x00 ∷ 0x02 ∷ 0x08 ∷ q ∷ 0x01 ∷ 0x00 ∷ 0x02 ∷ 0x0A ∷ 0x0D ∷ 0x00 ∷ []

-- the same with two forks of routine 1
abbrev pub forks_two : List ℕ
forks_two =
    0x01 ∷ 0x02 ∷ 0x20 ∷ 0x00 ∷ 0x09 ∷ 0x01 ∷ 0x00 ∷ 0x00 ∷ 0x02 ∷ 0x09 ∷ 0x01 ∷ 0x01 ∷ 0x00 ∷ 0x02 ∷ 0x0A ∷ 0x0D ∷ 0x00 ∷ []

-- of sixteen slots: as `calls`, the cut in slot 15
abbrev pub from_fifteen : ℕ → List ℕ
from_fifteen r = 0x01 ∷ 0x0F ∷ 0x20 ∷ 0x00 ∷ 0x08 ∷ r ∷ 0x00 ∷ 0x00 ∷ 0x0F ∷ 0x0A ∷ 0x0D ∷ 0x00 ∷ []

-- five forks of routine 1, one to each of these slots, the cut in slot 15
abbrev five_forks : ℕ → ℕ → ℕ → ℕ → ℕ → List ℕ
five_forks a b c d e =
    0x09 ∷ 0x01 ∷ a ∷ 0x00 ∷ 0x0F ∷ 0x09 ∷ 0x01 ∷ b ∷ 0x00 ∷ 0x0F ∷ 0x09 ∷ 0x01 ∷ c ∷ 0x00 ∷ 0x0F
    ∷ 0x09 ∷ 0x01 ∷ d ∷ 0x00 ∷ 0x0F ∷ 0x09 ∷ 0x01 ∷ e ∷ 0x00 ∷ 0x0F ∷ []

-- of sixteen slots: the cut, 32, to slot 15, and a fork of routine 1 to each other slot
abbrev pub fifteen_forks : List ℕ
fifteen_forks =
    (0x01 ∷ 0x0F ∷ 0x20 ∷ 0x00 ∷ []) ++ five_forks 0 1 2 3 4 ++ five_forks 5 6 7 8 9 ++ five_forks 10 11 12 13 14
