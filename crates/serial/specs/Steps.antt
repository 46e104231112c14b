-- What the private functions of the serial run give, part by part; and what they rely on.
use Rattle.std.specs.Prelude.{true, List, ◌++◌, ◌≡◌, ℕ, ◌+◌, ◌-◌, ◌≤◌, ◌<◌, get_or, set, take, length, replicate, Result, Ok, Err}
use Rattle.image.specs.Layout.{routine_count, code_of}
use Rattle.image.specs.Code.{commands_of, is_start}
use Rattle.window.specs.declared.Window.{Window}
use Rattle.window.specs.Rights.{Fits}
use Rattle.thread.specs.declared.Effect.{Effect}
use Rattle.thread.specs.declared.Effect.TheVariants.{Faults, Sets, Loads, Stores, Goes, Continues, Lforks, Forks, Joins, Suspends, Yields, Returns, Shares}
use Rattle.thread.specs.Job.{Job, job_of, word_in, GoodJob}
use Rattle.serial.specs.declared.Routine.{Routine}
use Rattle.serial.specs.declared.place.Place.{Place}
use Rattle.serial.specs.declared.Ask.{Ask}
use Rattle.serial.specs.declared.Ask.TheVariants.{GoOn, Join, Call, Return, Share}
use Rattle.serial.specs.declared.row.Fork.{Fork}
use Rattle.serial.specs.declared.row.Row.{Row}
use Rattle.serial.specs.declared.row.Row.TheVariants as row
use Rattle.serial.specs.declared.Returned.{Returned}
use Rattle.serial.specs.declared.Halted.{Halted}
use Rattle.serial.specs.declared.answer.Stop.{Stop}
use Rattle.serial.specs.declared.answer.Stop.TheVariants.{Fault}
use Rattle.serial.specs.declared.answer.Finished.{Finished}
use Rattle.serial.specs.declared.answer.Stopped.{Stopped}
use Rattle.serial.specs.Answer.{number_of_stop}
use Rattle.serial.specs.Serial.{Ended, done, stopped, weight_at, next_effect, call_from}

-- an open routine of its parts, which the code holds one by one
abbrev pub open_at : ℕ → ℕ → ℕ → Window → List ℕ → Routine
open_at routine position pending window slots =
    record { routine = routine; position = position; pending = pending; window = window; slots = slots }

-- the slots of a new routine: its arguments, then zeros
abbrev pub first_slots : List ℕ → List ℕ
first_slots arguments = take 16 (arguments ++ replicate 16 0)

-- what an effect at a position leaves to the run, or why it ends
unfoldable pub asked_of : Effect → ℕ → Result Ask Stop
asked_of (Faults x) p = Err (Fault x)
asked_of (Sets d v) p = Ok (GoOn (p + 4))
asked_of (Loads d a) p = Ok (GoOn (p + 3))
asked_of (Stores a v) p = Ok (GoOn (p + 3))
asked_of (Goes t) p = Ok (GoOn t)
asked_of Continues p = Ok (GoOn (p + 4))
asked_of (Lforks r d a e) p = Ok (Call e r d a)
asked_of (Forks r d a e) p = Ok (Call e r d a)
asked_of Joins p = Ok Join
asked_of Suspends p = Ok (GoOn (p + 1))
asked_of Yields p = Ok (GoOn (p + 1))
asked_of (Returns v) p = Ok (Return v)
asked_of (Shares x) p = Ok (Share x)

-- the slots behind a command by which the routine goes on
unfoldable pub slots_after : List ℕ → List ℕ → List ℕ → Effect → List ℕ
slots_after parameters m slots (Faults x) = slots
slots_after parameters m slots (Sets d v) = set slots d v
slots_after parameters m slots (Loads d a) = set slots d (word_in parameters m a)
slots_after parameters m slots (Stores a v) = slots
slots_after parameters m slots (Goes t) = slots
slots_after parameters m slots Continues = slots
slots_after parameters m slots (Lforks r d a e) = slots
slots_after parameters m slots (Forks r d a e) = slots
slots_after parameters m slots Joins = slots
slots_after parameters m slots Suspends = slots
slots_after parameters m slots Yields = slots
slots_after parameters m slots (Returns v) = slots
slots_after parameters m slots (Shares x) = slots

-- the memory words behind it
unfoldable pub memory_after : List ℕ → Effect → List ℕ
memory_after m (Faults x) = m
memory_after m (Sets d v) = m
memory_after m (Loads d a) = m
memory_after m (Stores a v) = set m (a - 32) v
memory_after m (Goes t) = m
memory_after m Continues = m
memory_after m (Lforks r d a e) = m
memory_after m (Forks r d a e) = m
memory_after m Joins = m
memory_after m Suspends = m
memory_after m Yields = m
memory_after m (Returns v) = m
memory_after m (Shares x) = m

-- a list with zeros behind it
pub record Padded (s padded : List ℕ) : Type 0 where
  pub same : (i : ℕ) → get_or padded i 0 ≡ get_or s i 0

-- an open routine of a good job: a command starts at its position, it has 16 slots, and its window lies in memory
pub record GoodRoutine (j : Job) (l : Routine) : Type 0 where
  pub routine : l.routine < routine_count j.image
  pub position : is_start (commands_of (code_of j.image l.routine)) l.position ≡ true
  pub slots : length l.slots ≡ 16
  pub window : Fits l.window

-- the slots and words that an effect names are there
abbrev pub InReach : Effect → Type 0
InReach (Faults x) = Unit {0}
InReach (Sets d v) = d < 16
InReach (Loads d a) = (d < 16) × (a < 1024)
InReach (Stores a v) = (32 ≤ a) × (a < 1024)
InReach (Goes t) = Unit {0}
InReach Continues = Unit {0}
InReach (Lforks r d a e) = Unit {0}
InReach (Forks r d a e) = Unit {0}
InReach Joins = Unit {0}
InReach Suspends = Unit {0}
InReach Yields = Unit {0}
InReach (Returns v) = Unit {0}
InReach (Shares x) = Unit {0}

-- a run that has come to an open routine, so much of the allowance being left: what is left of it gives what the whole run gives
pub record Far (j : Job) (n : ℕ) (whole : Ended) (l : Routine) (m : List ℕ) (left : ℕ) : Type 0 where
  pub job : GoodJob j
  pub routine : GoodRoutine j l
  pub memory : length m ≡ 992
  pub most : left ≤ j.allowance
  pub is : call_from j n l m (j.allowance - left) ≡ whole

-- some run has come there
pub record Come (image starts parameters : List ℕ) (n : ℕ) (l : Routine) (m : List ℕ) (left : ℕ) : Type 0 where
  pub allowance : ℕ
  pub whole : Ended
  pub far : Far (job_of image starts parameters allowance) n whole l m left

abbrev pub place_at : ℕ → ℕ → ℕ → Window → ℕ → Place
place_at routine position pending window left =
    record { routine = routine; position = position; pending = pending; window = window; left = left }

-- the open routine of a place
abbrev pub open_in : Place → List ℕ → Routine
open_in at slots = open_at at.routine at.position at.pending at.window slots

-- the command that is met is this fork, and its weight is paid for
pub record IsFork (j : Job) (l : Routine) (left : ℕ) (f : Fork) : Type 0 where
  pub weight : f.weight ≡ weight_at j l
  pub paid : f.weight ≤ left
  pub asked : asked_of (next_effect j l) l.position ≡ Ok (Call f.cut f.routine f.result f.first)

-- what a row relies on: some run has come to its place, in the code that starts there
pub record RowReady (image parameters : List ℕ) (code : ℕ) (at : Place) (slots m : List ℕ) : Type 0 where
  pub starts : List ℕ
  pub depth : ℕ
  pub there : code ≡ get_or starts at.routine 0
  pub come : Come image starts parameters depth (open_in at slots) m at.left

-- a run that had come to a place goes on from another one of the same routine, with less of the allowance left
pub record OnAs (j : Job) (n : ℕ) (whole : Ended) (at : Place) (slots m : List ℕ) (next : Place) : Type 0 where
  pub less : next.left < at.left
  pub same : next.routine ≡ at.routine
  pub far : Far j n whole (open_in next slots) m next.left

-- it ends by a number
pub record HaltsAs (j : Job) (whole : Ended) (most : ℕ) (m : List ℕ) (h : Halted) : Type 0 where
  pub less : h.left ≤ most
  pub is : stopped (number_of_stop h.by) m (j.allowance - h.left) ≡ whole

-- it ends with a value
pub record ReturnsAs (j : Job) (whole : Ended) (most : ℕ) (m : List ℕ) (r : Returned) : Type 0 where
  pub less : r.left ≤ most
  pub is : done r.value m (j.allowance - r.left) ≡ whole

-- it meets a fork
pub record ForksAs (j : Job) (n : ℕ) (whole : Ended) (at : Place) (slots m : List ℕ) (f : Fork) (here : Place) : Type 0 where
  pub less : here.left ≤ at.left
  pub same : here.routine ≡ at.routine
  pub far : Far j n whole (open_in here slots) m here.left
  pub fork : IsFork j (open_in here slots) here.left f

-- a run that had come to a row's place, once the row has ended
abbrev pub RowAs : Job → ℕ → Ended → Place → Place → List ℕ → List ℕ → Result Row Halted → Type 0
RowAs j n whole at next slots m (Ok row.GoesOn) = OnAs j n whole at slots m next
RowAs j n whole at next slots m (Ok (row.Forks f)) = ForksAs j n whole at slots m f next
RowAs j n whole at next slots m (Ok (row.Returns v)) = ReturnsAs j whole at.left m (record { value = v; left = next.left })
RowAs j n whole at next slots m (Err h) = HaltsAs j whole at.left m h

-- what a row gives to every run that had come to its place
abbrev pub RowFrom : List ℕ → List ℕ → ℕ → Place → List ℕ → List ℕ → Place → List ℕ → List ℕ → Result Row Halted → Type 0
RowFrom image parameters code at slots m at' slots' m' r =
    (x : RowReady image parameters code at slots m)
    → RowAs (job_of image x.starts parameters x.come.allowance) x.depth x.come.whole at at' slots' m' r

-- what carrying out a fork relies on: some run has come to it
pub record ForkReady (image starts parameters : List ℕ) (n : ℕ) (at : Place) (slots m : List ℕ) (f : Fork) : Type 0 where
  pub come : Come image starts parameters n (open_in at slots) m at.left
  pub fork : IsFork (job_of image starts parameters come.allowance) (open_in at slots) at.left f

-- a run that had come to a fork, once it is carried out
abbrev pub ForkAs : Job → ℕ → Ended → Place → Place → List ℕ → List ℕ → Result (Unit {0}) Halted → Type 0
ForkAs j n whole at next slots m (Ok x) = OnAs j n whole at slots m next
ForkAs j n whole at next slots m (Err h) = HaltsAs j whole at.left m h

-- what it gives to every run that had come to the fork
abbrev pub ForkFrom : List ℕ → List ℕ → List ℕ → ℕ → Place → List ℕ → List ℕ → Fork → Place → List ℕ → List ℕ → Result (Unit {0}) Halted → Type 0
ForkFrom image starts parameters n at slots m f at' slots' m' o =
    (x : ForkReady image starts parameters n at slots m f)
    → ForkAs (job_of image starts parameters x.come.allowance) n x.come.whole at at' slots' m' o

-- what is left of the allowance where a routine has ended
abbrev pub left_of : Result Returned Halted → ℕ
left_of (Ok r) = r.left
left_of (Err h) = h.left

-- the answer of an allowance
abbrev pub serial_answer : ℕ → Result Returned Halted → Result Finished Stopped
serial_answer allowance (Ok r) = Ok (record { result = r.value; units = allowance - r.left })
serial_answer allowance (Err h) = Err (record { by = h.by; units = allowance - h.left })

-- the answer where a test is met before the first command
abbrev pub refused_by : Stop → Result Finished Stopped
refused_by by = Err (record { by = by; units = 0 })

-- what a routine's run gives to every run that had come to it
abbrev pub EndAs : Job → Ended → ℕ → List ℕ → Result Returned Halted → Type 0
EndAs j whole most m (Ok r) = ReturnsAs j whole most m r
EndAs j whole most m (Err h) = HaltsAs j whole most m h

abbrev pub RunFrom : List ℕ → List ℕ → List ℕ → ℕ → Routine → List ℕ → ℕ → List ℕ → Result Returned Halted → Type 0
RunFrom image starts parameters n l m most m' o =
    (x : Come image starts parameters n l m most) → EndAs (job_of image starts parameters x.allowance) x.whole most m' o
