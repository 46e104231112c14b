-- What a run is given, the whole-run tests, and what a run answers. Document 01, "Who can cause which number" and "Bench cases".
use Rattle.std.specs.Prelude.{Bool, cond, ◌||◌, not, List, ◌≡◌, ℕ, ltb, eqb, length, Result, Ok, Err}
use Rattle.image.specs.Layout.{arguments_of, program_of, starts_in}
use Rattle.image.specs.Code.{Verdict}
use Rattle.image.specs.Image.{image_verdict, number_of_refusal}
use Rattle.schedule.specs.Meaning.{Schedule, schedule_of, number_of_schedule}
use Rattle.thread.specs.Job.{Job, job_of}
use Rattle.rules.specs.State.{State, Outcome, going, finished, faulted}
use Rattle.rules.specs.Start.{start_state}
use Rattle.demands.specs.declared.RunRefusal.{RunRefusal}
use Rattle.demands.specs.declared.RunRefusal.TheVariants.{BadCores, BadImage, BadArguments, BadSchedule, BadLengths}
use Rattle.demands.specs.declared.RunAnswer.{RunAnswer}
use Rattle.demands.specs.declared.RunAnswer.TheVariants.{Refused, Finished, Faulted, Open}

-- what a run is given
pub record Input : Type 0 where
  pub image : List ℕ
  pub cores : ℕ
  pub arguments : List ℕ
  pub parameters : List ℕ
  pub memory : List ℕ
  pub allowance : ℕ

abbrev pub input_of : List ℕ → ℕ → List ℕ → List ℕ → List ℕ → ℕ → Input
input_of image cores arguments parameters memory allowance = record {
  image = image;
  cores = cores;
  arguments = arguments;
  parameters = parameters;
  memory = memory;
  allowance = allowance;
}

abbrev pub job_in : Input → Job
job_in i = job_of i.image (starts_in (program_of i.image)) i.parameters i.allowance

-- Start's state
abbrev pub start_in : Input → State
start_in i = start_state (job_in i) i.cores i.arguments i.memory

abbrev pub bad_cores : Input → Bool
bad_cores i = eqb i.cores 0 || ltb 4 i.cores

abbrev pub bad_arguments : Input → Bool
bad_arguments i = not (eqb (length i.arguments) (arguments_of i.image 0))

-- "not 32 parameter words, not 992 memory words"
abbrev pub bad_words : Input → Bool
bad_words i = not (eqb (length i.parameters) 32) || not (eqb (length i.memory) 992)

-- "or log shorter than the entries"
abbrev pub entry_count : Schedule → ℕ
entry_count (Ok es) = length es
entry_count (Err _) = 0

-- the image's tests, and then others
abbrev pub image_then : Verdict → Result (Unit {0}) RunRefusal → Result (Unit {0}) RunRefusal
image_then (Ok passed) rest = rest
image_then (Err refusal) rest = Err (BadImage refusal)

-- "Whole run: 23, image, 24, 13, 25": all are passed, or the first that is met
unfoldable pub tests_of : Input → List ℕ → List ℕ → Result (Unit {0}) RunRefusal
tests_of i schedule log =
    cond (bad_cores i) (Err BadCores)
    (image_then (image_verdict i.image)
    (cond (bad_arguments i) (Err BadArguments)
    (cond (not (eqb (number_of_schedule (schedule_of schedule)) 0)) (Err BadSchedule)
    (cond (bad_words i || ltb (length log) (entry_count (schedule_of schedule))) (Err BadLengths) (Ok tt)))))

-- document 01's number of each test
abbrev pub number_of_run_refusal : RunRefusal → ℕ
number_of_run_refusal BadCores = 23
number_of_run_refusal (BadImage refusal) = number_of_refusal refusal
number_of_run_refusal BadArguments = 24
number_of_run_refusal BadSchedule = 13
number_of_run_refusal BadLengths = 25

-- the number of what the tests say, 0 where none is met
abbrev pub number_of_tests : {A : Type 0} → Result A RunRefusal → ℕ
number_of_tests (Ok passed) = 0
number_of_tests (Err why) = number_of_run_refusal why

-- the number of a whole run
unfoldable pub refusal_of : Input → List ℕ → List ℕ → ℕ
refusal_of i schedule log = number_of_tests (tests_of i schedule log)

-- document 01's last line: "`finished` result units, `faulted` number thread offset .., `open` units"
abbrev pub answer_of : Outcome → ℕ → RunAnswer
answer_of going units = Open units
answer_of (finished v) units = Finished v units
answer_of (faulted n t o) units = Faulted n t o

-- document 01's number for each answer: the whole run's or the fault's, 0 where there is none
abbrev pub number_of_answer : RunAnswer → ℕ
number_of_answer (Refused why) = number_of_run_refusal why
number_of_answer (Finished v units) = 0
number_of_answer (Faulted n t o) = n
number_of_answer (Open units) = 0

-- an answer's number where the machine ends so: the fault's where it has faulted, else 0
pub record Numbered (end : Outcome) (answer : RunAnswer) : Type 0 where
  pub fault : (n t o : ℕ) → end ≡ faulted n t o → number_of_answer answer ≡ n
  pub none : ((n t o : ℕ) → ¬ (end ≡ faulted n t o)) → number_of_answer answer ≡ 0

-- an answer that refuses a run by the first test that is met, and so tells its number
pub record TellsRefusal (i : Input) (schedule log : List ℕ) (answer : RunAnswer) : Type 0 where
  pub why : RunRefusal
  pub first : tests_of i schedule log ≡ Err why
  pub refused : answer ≡ Refused why
  pub number : number_of_answer answer ≡ refusal_of i schedule log
