-- Each number of a whole run, exactly under its condition: document 01, "The caller", "The image's author", and 13. The tests stand in the
-- order "23, image, 24, 13, 25", so a condition also says that none before it is met. No condition cites the row of tests, so good input is
-- not refused.
use Rattle.std.specs.Prelude.{List, [], ◌⊎◌, ◌↔◌, ◌≡◌, ℕ, ◌≤◌, ◌<◌, length, Ok, Err}
use Rattle.image.specs.Layout.{arguments_of}
use Rattle.image.specs.Image.{image_verdict, number_in}
use Rattle.schedule.specs.declared.Entry.{Entry}
use Rattle.schedule.specs.Meaning.{schedule_of, IsSchedule, WellFormed}
use Rattle.thread.specs.Effect.{IsFault}
use Rattle.serial.specs.Serial.{stopped, serial_from}
use Rattle.demands.specs.Input.{Input, job_in, refusal_of}
use Rattle.demands.specs.Demands.{Takes, serial_in}

-- "1 to 4 cores"
abbrev pub GoodCores : Input → Type 0
GoodCores i = (1 ≤ i.cores) × (i.cores ≤ 4)

-- the image meets no number of its author's
abbrev pub GoodImage : Input → Type 0
GoodImage i = image_verdict i.image ≡ Ok tt

-- as many arguments as routine 0 has
abbrev pub GoodArguments : Input → Type 0
GoodArguments i = length i.arguments ≡ arguments_of i.image 0

-- 32 parameter words and 992 memory words; and not
abbrev pub RightWords : Input → Type 0
RightWords i = (length i.parameters ≡ 32) × (length i.memory ≡ 992)

abbrev pub WrongWords : Input → Type 0
WrongWords i = (¬ (length i.parameters ≡ 32)) ⊎ (¬ (length i.memory ≡ 992))

-- a run by a schedule
pub record RunNumbers (i : Input) (schedule log : List ℕ) : Type 0 where
  -- "23: cores not 1 to 4"
  pub number23 : (refusal_of i schedule log ≡ 23) ↔ (¬ (GoodCores i))
  -- 1 to 8, "The image's author": the number that the image meets
  pub image : (n : ℕ) → 1 ≤ n → n ≤ 8 → ((refusal_of i schedule log ≡ n) ↔ (GoodCores i × (number_in (image_verdict i.image) ≡ n)))
  -- "24: argument count differs from routine 0's"
  pub number24 : (refusal_of i schedule log ≡ 24) ↔ (GoodCores i × GoodImage i × (¬ (GoodArguments i)))
  -- "13 (whole run): unknown byte, cut entry, or over 32,768 bytes"
  pub number13 : (refusal_of i schedule log ≡ 13) ↔ (GoodCores i × GoodImage i × GoodArguments i × (¬ (WellFormed schedule)))
  -- "25: not 32 parameter words, not 992 memory words, or log shorter than the entries"
  pub number25 : (refusal_of i schedule log ≡ 25) ↔
      (GoodCores i × GoodImage i × GoodArguments i × (es : List Entry) × IsSchedule schedule es × (WrongWords i ⊎ (length log < length es)))
  -- none of them: the run is by these entries
  pub runs : (refusal_of i schedule log ≡ 0) ↔
      (GoodCores i × GoodImage i × GoodArguments i × (es : List Entry) × IsSchedule schedule es × RightWords i × (length es ≤ length log))
  -- no other number is given
  pub others : (refusal_of i schedule log ≡ 0) ⊎ (((1 ≤ refusal_of i schedule log) × (refusal_of i schedule log ≤ 8))
      ⊎ ((refusal_of i schedule log ≡ 13) ⊎ ((23 ≤ refusal_of i schedule log) × (refusal_of i schedule log ≤ 25))))
  -- a schedule's entries, as the run reads them, are those whose bytes it is
  pub means : (es : List Entry) → ((schedule_of schedule ≡ Ok es) ↔ (IsSchedule schedule es))
  pub malforms : (schedule_of schedule ≡ Err (record {})) ↔ (¬ (WellFormed schedule))
  -- "every image, core count, argument list, parameters, starting memory and allowance that a run takes" is run
  pub taken : Takes i → (es : List Entry) → IsSchedule schedule es → length es ≤ length log → refusal_of i schedule log ≡ 0

-- a run by the built-in scheduler: its tests are those of the empty schedule and an empty log, so 13 is never met, and 25 by the words only
pub record SchedulerNumbers (i : Input) : Type 0 where
  -- "23: cores not 1 to 4"
  pub number23 : (refusal_of i [] [] ≡ 23) ↔ (¬ (GoodCores i))
  -- 1 to 8, "The image's author"
  pub image : (n : ℕ) → 1 ≤ n → n ≤ 8 → ((refusal_of i [] [] ≡ n) ↔ (GoodCores i × (number_in (image_verdict i.image) ≡ n)))
  -- "24: argument count differs from routine 0's"
  pub number24 : (refusal_of i [] [] ≡ 24) ↔ (GoodCores i × GoodImage i × (¬ (GoodArguments i)))
  -- "25: not 32 parameter words, not 992 memory words"
  pub number25 : (refusal_of i [] [] ≡ 25) ↔ (GoodCores i × GoodImage i × GoodArguments i × WrongWords i)
  pub runs : (refusal_of i [] [] ≡ 0) ↔ (GoodCores i × GoodImage i × GoodArguments i × RightWords i)
  -- no other number is given
  pub others : (refusal_of i [] [] ≡ 0) ⊎ (((1 ≤ refusal_of i [] []) × (refusal_of i [] [] ≤ 8)) ⊎ ((23 ≤ refusal_of i [] []) × (refusal_of i [] [] ≤ 25)))
  pub taken : Takes i → refusal_of i [] [] ≡ 0

-- the serial run ends by a number under a condition only; and there always, before its first command: with no units, and the memory as it was
abbrev pub StopsExactly : Input → ℕ → Type 0 → Type 0
StopsExactly i n condition =
    ((m : List ℕ) (u : ℕ) → serial_in i ≡ stopped n m u → condition) × (condition → serial_in i ≡ stopped n i.memory 0)

-- the serial run: "Plain run: image, 24, 25"
pub record SerialNumbers (i : Input) : Type 0 where
  -- 1 to 8, "The image's author"
  pub image : (n : ℕ) → 1 ≤ n → n ≤ 8 → StopsExactly i n (number_in (image_verdict i.image) ≡ n)
  -- "24: argument count differs from routine 0's"
  pub number24 : StopsExactly i 24 (GoodImage i × (¬ (GoodArguments i)))
  -- "25: not 32 parameter words, not 992 memory words"
  pub number25 : StopsExactly i 25 (GoodImage i × GoodArguments i × WrongWords i)
  -- none of them: routine 0 is run
  pub runs : GoodImage i → GoodArguments i → RightWords i → serial_in i ≡ serial_from (job_in i) i.arguments i.memory
  -- besides these it ends only by a command's number: "per command 22, 12, 9, 10 or 11, 26", and T-04's 31
  pub others : (n : ℕ) (m : List ℕ) (u : ℕ) → serial_in i ≡ stopped n m u
      → ((1 ≤ n) × (n ≤ 8)) ⊎ (IsFault n ⊎ ((n ≡ 22) ⊎ ((24 ≤ n) × (n ≤ 26))))
