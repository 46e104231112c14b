-- A run by a schedule: what it gives where a whole-run test is met, and where none is.
use Rattle.std.specs.Prelude.{List, ◌≡◌, ℕ, Ok}
use Rattle.schedule.specs.declared.Entry.{Entry}
use Rattle.schedule.specs.Meaning.{schedule_of}
use Rattle.rules.specs.Runs.{logs_from, logged}
use Rattle.demands.specs.Input.{Input, job_in, start_in, refusal_of, answer_of, Numbered, TellsRefusal}
use Rattle.demands.specs.Demands.{state_after}
use Rattle.run.specs.declared.Ran.{Ran}
use Rattle.run.specs.Machine.{MachineIs}

-- a run that is refused: its refusal alone, and "nothing written"; what is given of the machine beside it is Start's
pub record IsRefusedRun (i : Input) (schedule logBefore : List ℕ) (r : Ran) (memory_after logAfter : List ℕ) : Type 0 where
  pub answer : TellsRefusal i schedule logBefore r.shown.answer
  pub memory : memory_after ≡ i.memory
  pub log : logAfter ≡ logBefore
  pub machine : MachineIs (start_in i) r.shown.counts r.shown.statuses r.words

-- a run by entries: the fold's outcome and units, its memory, a log byte for each entry, and the machine at its end
pub record IsPlayed (i : Input) (es : List Entry) (logBefore : List ℕ) (r : Ran) (memory_after logAfter : List ℕ) : Type 0 where
  pub answer : r.shown.answer ≡ answer_of (state_after i es).outcome (state_after i es).units
  pub number : Numbered (state_after i es).outcome r.shown.answer
  pub memory : memory_after ≡ (state_after i es).store.memory
  pub log : logAfter ≡ logged logBefore (logs_from (job_in i) (start_in i) es)
  pub machine : MachineIs (state_after i es) r.shown.counts r.shown.statuses r.words

-- what a run gives: a refusal by the first whole-run test that is met, else the run by the schedule's entries
pub record RunsAs (i : Input) (schedule log : List ℕ) (r : Ran) (memory_after logAfter : List ℕ) : Type 0 where
  pub refused : (refusal_of i schedule log ≡ 0 → ⊥) → IsRefusedRun i schedule log r memory_after logAfter
  pub played : refusal_of i schedule log ≡ 0 → (es : List Entry) × (schedule_of schedule ≡ Ok es) × IsPlayed i es log r memory_after logAfter
