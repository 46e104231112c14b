-- The three demands, each as a record that can be laid beside the user's words line by line.
use Rattle.std.specs.Prelude.{true, List, [], ◌∷◌, ◌++◌, ◌⊎◌, ◌≡◌, ℕ, ◌≤◌, ◌<◌, length, get_or, take, drop, replicate, Ok}
use Rattle.command.specs.declared.Command.{Command}
use Rattle.command.specs.Command.{command_at, bytes_of_command, OperandsFit}
use Rattle.image.specs.Layout.{arguments_of}
use Rattle.image.specs.Image.{image_verdict}
use Rattle.schedule.specs.declared.Entry.{Entry}
use Rattle.stacklets.specs.Tops.{top_at}
use Rattle.thread.specs.declared.Status.TheVariants.{Free}
use Rattle.census.specs.Counted.{records_in}
use Rattle.rules.specs.Lists.{Every, Member, Distinct}
use Rattle.rules.specs.State.{State, finished, faulted, is_over}
use Rattle.rules.specs.Statuses.{IsFree, IsSuspended}
use Rattle.rules.specs.Rules.{step_of, take_of, entry_of}
use Rattle.rules.specs.Runs.{run_from}
use Rattle.rules.specs.Sound.{FreeWords}
use Rattle.serial.specs.Serial.{Ended, done, stopped, serial_of}
use Rattle.soundness.specs.Numbers.{Numbers}
use Rattle.demands.specs.declared.RunRefusal.{RunRefusal}
use Rattle.demands.specs.declared.RunAnswer.{RunAnswer}
use Rattle.demands.specs.declared.RunAnswer.TheVariants.{Refused}
use Rattle.demands.specs.Input.{Input, job_in, start_in, refusal_of, TellsRefusal}

-- "every image, core count, argument list, parameters, starting memory and allowance that a run takes"
pub record Takes (i : Input) : Type 0 where
  pub image : image_verdict i.image ≡ Ok tt
  -- an image's bytes are bytes
  pub bytes : (k : ℕ) → get_or i.image k 0 < 256
  pub some : 1 ≤ i.cores
  pub most : i.cores ≤ 4
  pub arguments : length i.arguments ≡ arguments_of i.image 0
  pub parameters : length i.parameters ≡ 32
  pub memory : length i.memory ≡ 992

-- the state behind some entries, from Start
abbrev pub state_after : Input → List Entry → State
state_after i es = run_from (job_in i) (start_in i) es

-- an entry is refused by 14 to 22; a faulting one is "neither accepted nor refused", and a join that waits is accepted
abbrev pub IsRefusal : ℕ → Type 0
IsRefusal n = (14 ≤ n) × (n ≤ 22)

-- Demand 1, of what a run gives and how it leaves its buffers
pub record Demand1 (i : Input) (schedule log : List ℕ) (answer : RunAnswer) (memory_after logAfter : List ℕ) : Type 0 where
  -- "If an image, core count, schedule, argument list or lent buffer is bad, the run gives its number from document 01 and every buffer
  -- stays untouched"
  pub bad : ¬ (refusal_of i schedule log ≡ 0) → TellsRefusal i schedule log answer × (memory_after ≡ i.memory) × (logAfter ≡ log)
  -- "Where they are good, the run ends, within its buffers"
  pub good : refusal_of i schedule log ≡ 0
      → (¬ ((why : RunRefusal) × (answer ≡ Refused why))) × (length memory_after ≡ length i.memory) × (length logAfter ≡ length log)
  -- "and a refused entry changes only its own log byte": the state, and the memory in it, stays
  pub untouched : (before : List Entry) (e : Entry) → IsRefusal (entry_of (job_in i) (state_after i before) e).log
      → state_after i (before ++ (e ∷ [])) ≡ state_after i before

-- Demand 2, of entries and the log bytes that they got
pub record Demand2 (i : Input) (es : List Entry) (logs : List ℕ) : Type 0 where
  -- "Each schedule entry moves the machine exactly as the step rules in document 01 say"
  pub moves : (before after : List Entry) (e : Entry) → es ≡ before ++ (e ∷ after)
      → (get_or logs (length before) 0 ≡ (entry_of (job_in i) (state_after i before) e).log)
      × (state_after i (before ++ (e ∷ [])) ≡ (entry_of (job_in i) (state_after i before) e).state)
  -- "and meets a refusal only under that number's condition"
  pub numbers : (before after : List Entry) → es ≡ before ++ after → Numbers (job_in i) (state_after i before)
  -- "A written command reads back as itself", whatever follows it
  pub back : (command : Command) (rest : List ℕ) → OperandsFit command
      → command_at (bytes_of_command command ++ rest) 0 ≡ Ok (command, length (bytes_of_command command))
  -- "and an accepted command's bytes are written again unchanged"
  pub again : (bytes : List ℕ) → ((k : ℕ) → get_or bytes k 0 < 256) → (at : ℕ) (command : Command) (n : ℕ) → command_at bytes at ≡ Ok (command, n)
      → bytes_of_command command ≡ take n (drop at bytes)

-- "the plain run of document 01, fed the same but for core count and schedule"
abbrev pub serial_in : Input → Ended
serial_in i = serial_of (job_in i) i.arguments i.memory

-- a queue of n numbers, each below n and none twice: so each stands in it exactly once
pub record EachOnce (n : ℕ) (queue : List ℕ) : Type 0 where
  pub many : length queue ≡ n
  pub once : Distinct queue
  pub below : Every (λ x. x < n) queue

-- "all 32 threads and 16 stacklets are free": each record is free, so 32 are counted, and each number stands in its queue
pub record AllFree (s : State) : Type 0 where
  pub records : (t : ℕ) → t < 32 → IsFree s t
  pub counted : records_in Free s.threads ≡ 32
  pub threads : (t : ℕ) → t < 32 → Member t s.queues.free_threads
  pub stacklets : (x : ℕ) → x < 16 → Member x s.queues.free_stacklets
  -- once, and nothing else does
  pub threads_once : EachOnce 32 s.queues.free_threads
  pub stacklets_once : EachOnce 16 s.queues.free_stacklets
  -- no word of a stacklet is in use
  pub tops : (x : ℕ) → x < 16 → top_at s.store.tops x ≡ 0
  -- T-02: "A finished run then leaves all 1,024 stacklet words zero, as part of the final state promised"
  pub words : s.store.words ≡ replicate 1024 0

-- "some such step would be refused by 20, 21 or 22"
abbrev pub IsTight : ℕ → Type 0
IsTight n = (n ≡ 20) ⊎ ((n ≡ 21) ⊎ (n ≡ 22))

-- Demand 3: "the following holds at the schedule's end", where the entries have led to this state
pub record Demand3 (i : Input) (end : State) : Type 0 where
  -- "If the machine has finished, so does the plain run ..; result, units and every memory word equal the plain run's"
  pub agrees : (v : ℕ) → end.outcome ≡ finished v → serial_in i ≡ done v end.store.memory end.units
  -- "and all 32 threads and 16 stacklets are free"
  pub free : (v : ℕ) → end.outcome ≡ finished v → AllFree end
  -- T-02: "in a run a free word is always zero", whether the machine has finished, has faulted or is open
  pub free_words : FreeWords (job_in i) end
  -- "If the plain run faults or stops at its allowance or depth, the machine has not finished"
  pub unfinished : (n u : ℕ) (m : List ℕ) → serial_in i ≡ stopped n m u → (v : ℕ) → end.outcome ≡ finished v → ⊥
  -- "if it finishes, the machine has not faulted"
  pub unfaulted : (v u : ℕ) (m : List ℕ) → serial_in i ≡ done v m u → (n t o : ℕ) → end.outcome ≡ faulted n t o → ⊥
  -- "Nothing jams: where every step and take by a core below the count would be refused, the machine is over, a thread is suspended, or
  -- some such step would be refused by 20, 21 or 22"
  pub jam : ((c : ℕ) → c < i.cores → IsRefusal (step_of (job_in i) end c).log × IsRefusal (take_of end c).log)
      → (is_over end.outcome ≡ true)
      ⊎ (((t : ℕ) × (t < 32) × IsSuspended end t) ⊎ ((c : ℕ) × (c < i.cores) × IsTight (step_of (job_in i) end c).log))
