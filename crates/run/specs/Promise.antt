-- What `run` and `run_into` promise: what they give, and the demands of it.
use Rattle.std.specs.Prelude.{List, ◌≡◌, ℕ, replicate, Ok}
use Rattle.schedule.specs.declared.Entry.{Entry}
use Rattle.schedule.specs.Meaning.{schedule_of}
use Rattle.serial.specs.Serial.{done}
use Rattle.demands.specs.declared.RunAnswer.TheVariants.{Finished}
use Rattle.demands.specs.Input.{Input, refusal_of}
use Rattle.demands.specs.Demands.{Demand1, Demand2, Demand3, state_after, serial_in}
use Rattle.demands.specs.Shared.{SharedReading}
use Rattle.demands.specs.WholeRun.{RunNumbers, SerialNumbers}
use Rattle.run.specs.declared.Ran.{Ran}
use Rattle.run.specs.Run.{RunsAs}

pub record RunPromise (i : Input) (schedule log : List ℕ) (r : Ran) (memory_after logAfter : List ℕ) : Type 0 where
  pub runs : RunsAs i schedule log r memory_after logAfter
  pub demand1 : Demand1 i schedule log r.shown.answer memory_after logAfter
  -- "the run gives its number from document 01": each number exactly under its condition, so that good input is run
  pub numbers : RunNumbers i schedule log
  pub demand2 : (es : List Entry) → schedule_of schedule ≡ Ok es → refusal_of i schedule log ≡ 0 → Demand2 i es logAfter
  -- "every schedule, that is any list of those four entries": of any length, also where their bytes are over 32,768. "The following holds at
  -- the schedule's end": the state behind these entries, of which this schedule's are one list
  pub demand3 : refusal_of i schedule log ≡ 0 → (es : List Entry) → Demand3 i (state_after i es)
  -- T-04: shared words, at the same states
  pub shared : refusal_of i schedule log ≡ 0 → (es : List Entry) → SharedReading i (state_after i es)
  -- "result, units and every memory word equal the plain run's": of the answer, and of the memory as it now is
  pub plain : (v u : ℕ) → r.shown.answer ≡ Finished v u → serial_in i ≡ done v memory_after u
  -- T-02: "A finished run then leaves all 1,024 stacklet words zero": of the words that are given
  pub words : (v u : ℕ) → r.shown.answer ≡ Finished v u → r.words ≡ replicate 1024 0
  -- and the plain run's own whole-run numbers
  pub plain_numbers : SerialNumbers i
