-- What `run` and `run_into` promise.
use Rattle.std.specs.Prelude.{true, false, List, [], ◌⊎◌, ◌≡◌, ℕ, ◌+◌, ◌*◌, ◌≤◌, ◌<◌, length, replicate, Ok}
use Rattle.schedule.specs.Meaning.{schedule_of}
use Rattle.schedule.specs.Format.{bytes_of_entries}
use Rattle.rules.specs.State.{is_over}
use Rattle.rules.specs.Statuses.{IsSuspended}
use Rattle.rules.specs.Lists.{Every}
use Rattle.rules.specs.Runs.{run_from, logs_from}
use Rattle.serial.specs.Serial.{done}
use Rattle.demands.specs.declared.RunAnswer.TheVariants.{Finished}
use Rattle.demands.specs.Input.{Input, job_in, start_in, refusal_of, answer_of, Numbered, TellsRefusal}
use Rattle.demands.specs.Demands.{Demand3, serial_in}
use Rattle.demands.specs.WholeRun.{SchedulerNumbers}
use Rattle.run.specs.Machine.{MachineIs, ran_with}
use Rattle.rounds.specs.Rounds.{Progress, is_written, scheduled_from, filled}
use Rattle.lonecore.specs.Commands.{commands_in}
use Rattle.lonecore.specs.LforksOnly.{LforksOnly}
use Rattle.lonecore.specs.NeverDry.{LoneCore, NeverDry}
use Rattle.lonecore.specs.SeveralCores.{FewInUse, SeveralCores, NeverShort}
use Rattle.scheduler.specs.declared.ScheduleShown.{ScheduleShown}
use Rattle.scheduler.specs.declared.Scheduled.{Scheduled}

-- 23, the image's, 24 and 25, this of the words only: the tests of a run by the empty schedule, which needs no log
abbrev pub refusal_in : Input → ℕ
refusal_in i = refusal_of i [] []

-- the scheduler's whole run
abbrev pub scheduled_of : Input → ℕ → Progress
scheduled_of i size = scheduled_from (job_in i) (start_in i) size

-- a run that is refused: its refusal alone, and nothing written; what is given of the machine beside it is Start's
pub record IsRefusedSchedule (i : Input) (before : List ℕ) (r : Scheduled) (memory_after after : List ℕ) : Type 0 where
  pub answer : TellsRefusal i [] [] r.ran.shown.answer
  pub memory : memory_after ≡ i.memory
  pub buffer : after ≡ before
  pub used : r.used ≡ 0
  pub machine : MachineIs (start_in i) r.ran.shown.counts r.ran.shown.statuses r.ran.words

-- the run of the scheduler: its state and its entries, which are written to the buffer's front
pub record IsScheduled (p : Progress) (before : List ℕ) (r : Scheduled) (memory_after after : List ℕ) : Type 0 where
  pub answer : r.ran.shown.answer ≡ answer_of p.state.outcome p.state.units
  pub number : Numbered p.state.outcome r.ran.shown.answer
  pub memory : memory_after ≡ p.state.store.memory
  pub machine : MachineIs p.state r.ran.shown.counts r.ran.shown.statuses r.ran.words
  pub buffer : after ≡ filled before p.written
  pub used : r.used ≡ length (bytes_of_entries p.written)

-- "and equals the run by them": the bytes are a schedule, the run by it ends in the same state, and each of its entries is accepted or faults
pub record EqualsRun (i : Input) (p : Progress) : Type 0 where
  pub means : schedule_of (bytes_of_entries p.written) ≡ Ok p.written
  pub state : run_from (job_in i) (start_in i) p.written ≡ p.state
  pub logs : Every (λ n. is_written n ≡ true) (logs_from (job_in i) (start_in i) p.written)
  pub demand : Demand3 i p.state

-- "It ends when over, when nothing can be enabled, or when before a try fewer than 3 bytes are left of its buffer, of which it uses at most 32,768":
-- with so many bytes used of a buffer of such a size
pub record Ends (p : Progress) (used size : ℕ) : Type 0 where
  pub when : (is_over p.state.outcome ≡ true)
      ⊎ (((p.moved ≡ false) × ((t : ℕ) → t < 32 → ¬ (IsSuspended p.state t))) ⊎ ((size < used + 3) ⊎ (32768 < used + 3)))
  pub within : used ≤ size
  pub most : used ≤ 32768

-- T-12, "A lone core never runs dry", of what the scheduler gives: it finishes with the plain run's result, units and memory, by two bytes for each
-- command, and no try is refused
pub record NeverRanDry (i : Input) (size v u : ℕ) (m : List ℕ) (r : Scheduled) (memory_after : List ℕ) : Type 0 where
  pub answer : r.ran.shown.answer ≡ Finished v u
  pub memory : memory_after ≡ m
  pub used : r.used ≡ 2 * commands_in i
  pub run : NeverDry i v u m (scheduled_of i size)

-- beyond T-12, on several cores: it finishes likewise, and no try meets 20, 21 or 22
pub record NeverRanShort (i : Input) (size v u : ℕ) (m : List ℕ) (r : Scheduled) (memory_after : List ℕ) : Type 0 where
  pub answer : r.ran.shown.answer ≡ Finished v u
  pub memory : memory_after ≡ m
  pub run : NeverShort i v u m (scheduled_of i size)

-- what the scheduler gives, where the words stand in an array of the caller's
abbrev pub scheduled_with : ScheduleShown → List ℕ → Scheduled
scheduled_with r words = record { ran = ran_with r.shown words; used = r.used }

pub record SchedulerPromise (i : Input) (before : List ℕ) (r : Scheduled) (memory_after after : List ℕ) : Type 0 where
  pub refused : (refusal_in i ≡ 0 → ⊥) → IsRefusedSchedule i before r memory_after after
  pub scheduled : refusal_in i ≡ 0 → IsScheduled (scheduled_of i (length before)) before r memory_after after
  pub equals : refusal_in i ≡ 0 → EqualsRun i (scheduled_of i (length before))
  pub ends : refusal_in i ≡ 0 → Ends (scheduled_of i (length before)) (length (bytes_of_entries (scheduled_of i (length before)).written)) (length before)
  -- each number of `refusal_in` exactly under its condition, so that good input is run
  pub numbers : SchedulerNumbers i
  -- "result, units and every memory word equal the plain run's": of the answer, and of the memory as it now is
  pub plain : (v u : ℕ) → r.ran.shown.answer ≡ Finished v u → serial_in i ≡ done v memory_after u
  -- T-02: "A finished run then leaves all 1,024 stacklet words zero": of the words that are given
  pub words : (v u : ℕ) → r.ran.shown.answer ≡ Finished v u → r.ran.words ≡ replicate 1024 0
  -- T-12: "For an image without 09, 0B and 0C, whose plain run finishes and goes at most 16 routines deep, the house run on one core with the same
  -- allowance finishes, given an entry buffer of twice the commands carried out plus one byte, if that is at most 32,768"
  pub lone_core : refusal_in i ≡ 0 → (v u : ℕ) (m : List ℕ) → LoneCore i (length before) v u m → NeverRanDry i (length before) v u m r memory_after
  -- beyond T-12: for such an image at most cores * (depth - 1) + 1 threads are in use at every state, and where that is at most 16 it finishes on
  -- any number of cores, given six bytes for each command
  pub few_in_use : refusal_in i ≡ 0 → LforksOnly i.image → (v u : ℕ) (m : List ℕ) → serial_in i ≡ done v m u → FewInUse i (scheduled_of i (length before))
  pub several_cores : refusal_in i ≡ 0 → (v u : ℕ) (m : List ℕ) → SeveralCores i (length before) v u m → NeverRanShort i (length before) v u m r memory_after
