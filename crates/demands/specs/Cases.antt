-- Document 01's starred bench cases, all as runs: what the run is given, and its log and answer. Words start zero.
use Rattle.std.specs.Prelude.{cond, List, [], ◌∷◌, ◌≡◌, ℕ, eqb, replicate, Result, Ok, Err}
use Rattle.image.specs.Cases.{one_routine, whole}
use Rattle.schedule.specs.Meaning.{schedule_of, entries_in}
use Rattle.rules.specs.Runs.{logs_from}
use Rattle.image.specs.declared.Refusal.{Refusal}
use Rattle.image.specs.declared.Refusal.TheVariants.{BadLength, BadCount, BadRow, UnknownByte, OperandsCutOff, OutOfRange, BadEnd, BadTarget}
use Rattle.demands.specs.declared.RunRefusal.{RunRefusal}
use Rattle.demands.specs.declared.RunRefusal.TheVariants.{BadImage}
use Rattle.demands.specs.declared.RunAnswer.{RunAnswer}
use Rattle.demands.specs.declared.RunAnswer.TheVariants.{Refused, Finished, Open}
use Rattle.demands.specs.Input.{Input, input_of, job_in, start_in, tests_of, refusal_of, answer_of, number_of_answer}
use Rattle.demands.specs.Demands.{state_after}

-- a row of the table
pub record Case : Type 0 where
  pub input : Input
  pub schedule : List ℕ
  pub log : List ℕ
  pub answer : RunAnswer
  -- the answer's number
  pub number : ℕ

-- no arguments, words that start zero
abbrev pub given : List ℕ → ℕ → ℕ → Input
given image cores allowance = input_of image cores [] (replicate 32 0) (replicate 992 0) allowance

-- the schedule of the case "Whole"
abbrev pub whole_schedule : List ℕ
whole_schedule =
    0x01 ∷ 0x00 ∷ 0x01 ∷ 0x00 ∷ 0x03 ∷ 0x01 ∷ 0x00 ∷ 0x02 ∷ 0x01 ∷ 0x01 ∷ 0x01 ∷ 0x01 ∷ 0x01 ∷ 0x01 ∷ 0x00 ∷ 0x01 ∷ 0x00 ∷ 0x01 ∷ 0x00 ∷ 0x01 ∷ 0x00 ∷ 0x01 ∷ 0x00 ∷ 0x04 ∷ 0x01 ∷ []

-- an image that is refused
abbrev pub refused_by : ℕ → Refusal → List ℕ → Case
refused_by number refusal image = record { input = given image 1 100; schedule = []; log = []; answer = Refused (BadImage refusal); number = number }

-- "Bench cases (starred ones proved)", in document 01's order: "Empty image: 1. `00`: 2. `01 01 00 02 00 0D 00`, one step: result 0, 1 unit. The
-- same, allowance 0: log 22, open. `01 01 02 02 00 0D 00`: 3. Code `FF 00`: 4. Code `0D`: 5. Code `0D 01`, one slot: 6. Code `0A`: 7. Code
-- `07 01 00`: 8", and "Whole"
abbrev pub starred : List Case
starred =
    refused_by 1 BadLength []
    ∷ refused_by 2 BadCount (0x00 ∷ [])
    ∷ record { input = given (one_routine (0x0D ∷ 0x00 ∷ [])) 1 100; schedule = 0x01 ∷ 0x00 ∷ []; log = 0 ∷ []; answer = Finished 0 1; number = 0 }
    ∷ record { input = given (one_routine (0x0D ∷ 0x00 ∷ [])) 1 0; schedule = 0x01 ∷ 0x00 ∷ []; log = 22 ∷ []; answer = Open 0; number = 0 }
    ∷ refused_by 3 BadRow (0x01 ∷ 0x01 ∷ 0x02 ∷ 0x02 ∷ 0x00 ∷ 0x0D ∷ 0x00 ∷ [])
    ∷ refused_by 4 UnknownByte (one_routine (0xFF ∷ 0x00 ∷ []))
    ∷ refused_by 5 OperandsCutOff (one_routine (0x0D ∷ []))
    ∷ refused_by 6 OutOfRange (one_routine (0x0D ∷ 0x01 ∷ []))
    ∷ refused_by 7 BadEnd (one_routine (0x0A ∷ []))
    ∷ refused_by 8 BadTarget (one_routine (0x07 ∷ 0x01 ∷ 0x00 ∷ []))
    ∷ record {
      input = given whole 2 100;
      schedule = whole_schedule;
      log = 0 ∷ 0 ∷ 0 ∷ 15 ∷ 0 ∷ 0 ∷ 0 ∷ 0 ∷ 0 ∷ 0 ∷ 0 ∷ 19 ∷ [];
      answer = Finished 10 20;
      number = 0;
    }
    ∷ []

-- the refusal, or the answer of a run that is not refused
abbrev pub refused_or : Result (Unit {0}) RunRefusal → RunAnswer → RunAnswer
refused_or (Ok passed) answer = answer
refused_or (Err why) answer = Refused why

-- a run's answer and log, by its definitions, with a log of 64 bytes lent
abbrev pub answered : Input → List ℕ → RunAnswer
answered i schedule =
    refused_or (tests_of i schedule (replicate 64 0))
    (answer_of (state_after i (entries_in (schedule_of schedule))).outcome (state_after i (entries_in (schedule_of schedule))).units)

abbrev pub logged_by : Input → List ℕ → List ℕ
logged_by i schedule = cond (eqb (refusal_of i schedule (replicate 64 0)) 0) (logs_from (job_in i) (start_in i) (entries_in (schedule_of schedule))) []

-- each row's run gives its answer, with its number, and its log
abbrev pub RunsHold : List Case → Type 0
RunsHold [] = Unit {0}
RunsHold (c ∷ cs) = (answered c.input c.schedule ≡ c.answer) × (number_of_answer c.answer ≡ c.number) × (logged_by c.input c.schedule ≡ c.log) × RunsHold cs
