-- Worked cases of the serial run: small runs and how each ends, worked out by hand from document 01's sentences on the plain run. A second
-- witness of its definition: the demands say how a run that finishes ends, and nothing of one that stops (proofs/Cases.antt computes them).
use Rattle.std.specs.Prelude.{List, [], ◌∷◌, ◌++◌, ℕ, replicate}
use Rattle.image.specs.Cases.{one_routine, whole}
use Rattle.image.specs.Layout.{starts_in, program_of}
use Rattle.thread.specs.Job.{job_of}
use Rattle.serial.specs.Serial.{Ended, done, stopped, serial_of}

-- what a run is given beside words that start zero, and how it ends
pub record SerialCase : Type 0 where
  pub image : List ℕ
  pub arguments : List ℕ
  pub allowance : ℕ
  pub ends : Ended

abbrev pub zeros : ℕ → List ℕ
zeros n = replicate n 0

-- by the definition, and by hand
abbrev pub serial_by_run : SerialCase → Ended
serial_by_run c = serial_of (job_of c.image (starts_in (program_of c.image)) (zeros 32) c.allowance) c.arguments (zeros 992)

abbrev pub serial_by_hand : SerialCase → Ended
serial_by_hand c = c.ends

-- of each case
abbrev pub each_serial : (SerialCase → Ended) → List SerialCase → List Ended
each_serial end [] = []
each_serial end (c ∷ cs) = end c ∷ each_serial end cs

-- no word was stored; and 32 alone, at 32
abbrev pub all_zero : List ℕ
all_zero = zeros 992

abbrev pub stored32 : List ℕ
stored32 = 32 ∷ zeros 991

-- a case of an image on some arguments, at an allowance
abbrev pub case : List ℕ → List ℕ → ℕ → Ended → SerialCase
case image arguments allowance ends = record { image = image; arguments = arguments; allowance = allowance; ends = ends }

-- document 01's worked case "Whole", "no arguments, allowance 100": `finished 10 20`; the same at exactly 20 and at the greatest; one unit short
-- the return is not carried out. "A fork's weight counts before its child starts": at 15 the second fork is paid for and its child is not; at
-- 12 it is not: 1 + 6 + 1 + 1 is 9
abbrev pub whole_cases : List SerialCase
whole_cases =
    case whole [] 100 (done 10 all_zero 20)
    ∷ case whole [] 4294967295 (done 10 all_zero 20)
    ∷ case whole [] 20 (done 10 all_zero 20)
    ∷ case whole [] 19 (stopped 22 all_zero 19)
    ∷ case whole [] 15 (stopped 22 all_zero 15)
    ∷ case whole [] 12 (stopped 22 all_zero 9)
    ∷ case whole [] 0 (stopped 22 all_zero 0)
    ∷ []

-- an image of a routine 0 of three slots and no argument, and a routine 1 of one slot that returns 5; `length` is the first code's
abbrev pub over_five : ℕ → List ℕ → List ℕ
over_five length code =
    (0x02 ∷ 0x03 ∷ 0x00 ∷ length ∷ 0x00 ∷ 0x01 ∷ 0x00 ∷ 0x06 ∷ 0x00 ∷ []) ++ code ++ (0x01 ∷ 0x00 ∷ 0x05 ∷ 0x00 ∷ 0x0D ∷ 0x00 ∷ [])

-- the same with a routine 1 that stores its argument at that address, and returns it
abbrev pub over_storing : ℕ → List ℕ → List ℕ
over_storing length code =
    (0x02 ∷ 0x03 ∷ 0x00 ∷ length ∷ 0x00 ∷ 0x01 ∷ 0x01 ∷ 0x05 ∷ 0x00 ∷ []) ++ code ++ (0x05 ∷ 0x00 ∷ 0x00 ∷ 0x0D ∷ 0x00 ∷ [])

abbrev pub command_cases : List SerialCase
command_cases =
    -- "Routine 0 starts on the arguments, other slots zero": slot 2, less the first argument, 7, plus the second, 9, is 2
    case (0x01 ∷ 0x03 ∷ 0x02 ∷ 0x0A ∷ 0x00 ∷ 0x03 ∷ 0x02 ∷ 0x02 ∷ 0x00 ∷ 0x02 ∷ 0x02 ∷ 0x02 ∷ 0x01 ∷ 0x0D ∷ 0x02 ∷ []) (7 ∷ 9 ∷ []) 100
    (done 2 all_zero 3)
    -- "01 to 07 act by the table": 9 is stored at 33 and loaded from there
    ∷ case
    ((0x01 ∷ 0x02 ∷ 0x00 ∷ 0x10 ∷ 0x00 ∷ 0x01 ∷ 0x00 ∷ 0x21 ∷ 0x00 ∷ 0x01 ∷ 0x01 ∷ 0x09 ∷ 0x00 ∷ []) ++ (0x05 ∷ 0x00 ∷ 0x01 ∷ 0x04 ∷ 0x00 ∷ 0x00 ∷ 0x0D ∷ 0x00 ∷ []))
    [] 100
    (done 9 (0 ∷ 9 ∷ zeros 990) 7)
    -- "suspend and yield only cost": 3 + 3 + 1
    ∷ case (one_routine (0x0B ∷ 0x0C ∷ 0x0D ∷ 0x00 ∷ [])) [] 7 (done 0 all_zero 7)
    -- "The first test met ends it before that command": the return is not carried out
    ∷ case (one_routine (0x0B ∷ 0x0C ∷ 0x0D ∷ 0x00 ∷ [])) [] 6 (stopped 22 all_zero 6)
    -- "memory as it then is", "the units so far": 32 is stored at 32, then a store at 0 meets 10
    ∷ case
    (0x01 ∷ 0x02 ∷ 0x00 ∷ 0x0C ∷ 0x00 ∷ 0x01 ∷ 0x00 ∷ 0x20 ∷ 0x00 ∷ 0x05 ∷ 0x00 ∷ 0x00 ∷ 0x05 ∷ 0x01 ∷ 0x01 ∷ 0x0D ∷ 0x00 ∷ []) [] 100
    (stopped 10 stored32 3)
    -- "per command 22, 12, 9, 10 or 11, 26": a store at 0 weighs 2, so that at 1 it meets 22, and at 2 it meets 10
    ∷ case (one_routine (0x05 ∷ 0x00 ∷ 0x00 ∷ 0x0D ∷ 0x00 ∷ [])) [] 1 (stopped 22 all_zero 0)
    ∷ case (one_routine (0x05 ∷ 0x00 ∷ 0x00 ∷ 0x0D ∷ 0x00 ∷ [])) [] 2 (stopped 10 all_zero 0)
    ∷ []

abbrev pub fork_cases : List SerialCase
fork_cases =
    -- "A fork, 08 or 09, cuts the window and makes slot d pending": two 09s, the second to slot 1, which is returned. Units: 1, twice 12 + 2, 1 + 1
    case
    (over_five 0x11 (0x01 ∷ 0x02 ∷ 0x20 ∷ 0x00 ∷ 0x09 ∷ 0x01 ∷ 0x00 ∷ 0x00 ∷ 0x02 ∷ 0x09 ∷ 0x01 ∷ 0x01 ∷ 0x00 ∷ 0x02 ∷ 0x0A ∷ 0x0D ∷ 0x01 ∷ []))
    [] 100
    (done 5 all_zero 31)
    -- "Its returned value goes into d, still pending": slot 0 is read before the join. Units: 1 + 6 + 2
    ∷ case (over_five 0x0F (0x01 ∷ 0x02 ∷ 0x20 ∷ 0x00 ∷ 0x08 ∷ 0x01 ∷ 0x00 ∷ 0x00 ∷ 0x02 ∷ 0x02 ∷ 0x01 ∷ 0x00 ∷ 0x00 ∷ 0x0D ∷ 0x01 ∷ [])) [] 100
    (stopped 9 all_zero 9)
    -- the second 08 names the pending slot 0 again, and its cut, slot 1, is 0 and out of range: 9 comes before 11
    ∷ case
    (over_five 0x11 (0x01 ∷ 0x02 ∷ 0x20 ∷ 0x00 ∷ 0x08 ∷ 0x01 ∷ 0x00 ∷ 0x00 ∷ 0x02 ∷ 0x08 ∷ 0x01 ∷ 0x00 ∷ 0x00 ∷ 0x01 ∷ 0x0A ∷ 0x0D ∷ 0x00 ∷ []))
    [] 100
    (stopped 9 all_zero 9)
    -- "12: return with pending slots", of another slot too
    ∷ case (over_five 0x0B (0x01 ∷ 0x02 ∷ 0x20 ∷ 0x00 ∷ 0x08 ∷ 0x01 ∷ 0x00 ∷ 0x00 ∷ 0x02 ∷ 0x0D ∷ 0x02 ∷ [])) [] 100 (stopped 12 all_zero 9)
    -- "A join always passes, clears the pending slots and puts the mark back to lo": behind a cut at 33 and a join 32 is stored at 32. Units:
    -- 1 + 1 + 6 + 2 + 1 + 2 + 1
    ∷ case
    (over_five 0x13
    ((0x01 ∷ 0x02 ∷ 0x21 ∷ 0x00 ∷ 0x01 ∷ 0x01 ∷ 0x20 ∷ 0x00 ∷ 0x08 ∷ 0x01 ∷ 0x00 ∷ 0x00 ∷ 0x02 ∷ 0x0A ∷ []) ++ (0x05 ∷ 0x01 ∷ 0x01 ∷ 0x0D ∷ 0x00 ∷ [])))
    [] 100
    (done 5 stored32 14)
    -- the same with no join: 32 is cut off, though the child has ended
    ∷ case
    (over_five 0x12
    ((0x01 ∷ 0x02 ∷ 0x21 ∷ 0x00 ∷ 0x01 ∷ 0x01 ∷ 0x20 ∷ 0x00 ∷ 0x08 ∷ 0x01 ∷ 0x00 ∷ 0x00 ∷ 0x02 ∷ []) ++ (0x05 ∷ 0x01 ∷ 0x01 ∷ 0x0D ∷ 0x00 ∷ [])))
    [] 100
    (stopped 10 all_zero 10)
    -- "the child starts likewise, on its arguments in its part, and ends before the parent goes on": it stores 32 at 32, in its part up to 33,
    -- and behind the join the parent loads it there. Units: 1 + 1 + 6, the child's 2 + 1, and 1 + 2 + 1
    ∷ case
    (over_storing 0x13
    ((0x01 ∷ 0x00 ∷ 0x20 ∷ 0x00 ∷ 0x01 ∷ 0x02 ∷ 0x21 ∷ 0x00 ∷ 0x08 ∷ 0x01 ∷ 0x01 ∷ 0x00 ∷ 0x02 ∷ 0x0A ∷ []) ++ (0x04 ∷ 0x02 ∷ 0x00 ∷ 0x0D ∷ 0x02 ∷ [])))
    [] 100
    (done 32 stored32 15)
    -- and on no more than its arguments: a child of one argument returns its slot 1, which is 0, not the parent's. Units: 1 + 1 + 6, 1, and 1 + 1
    ∷ case
    ((0x02 ∷ 0x03 ∷ 0x00 ∷ 0x10 ∷ 0x00 ∷ 0x02 ∷ 0x01 ∷ 0x02 ∷ 0x00 ∷ 0x01 ∷ 0x00 ∷ 0x07 ∷ 0x00 ∷ 0x01 ∷ 0x01 ∷ 0x20 ∷ 0x00 ∷ [])
    ++ (0x08 ∷ 0x01 ∷ 0x02 ∷ 0x00 ∷ 0x01 ∷ 0x0A ∷ 0x0D ∷ 0x02 ∷ 0x0D ∷ 0x01 ∷ []))
    [] 100
    (done 0 all_zero 11)
    -- a store at 33, which is not in its part. Units: 1 + 1 + 6
    ∷ case
    (over_storing 0x13
    ((0x01 ∷ 0x00 ∷ 0x21 ∷ 0x00 ∷ 0x01 ∷ 0x02 ∷ 0x21 ∷ 0x00 ∷ 0x08 ∷ 0x01 ∷ 0x01 ∷ 0x00 ∷ 0x02 ∷ 0x0A ∷ []) ++ (0x04 ∷ 0x02 ∷ 0x00 ∷ 0x0D ∷ 0x02 ∷ [])))
    [] 100
    (stopped 10 all_zero 8)
    ∷ []

-- routine 0 of k: 06 0 to the end; 01 1 1; 03 0 0 1; 01 2 32; 08 0 3 0 2; 0A; 02 3 3 1; 0D 3; at the end 0D 0. It returns k, k + 1 deep. A call
-- that forks has 1 + 1 + 1 + 1 + 6 units before its child and 3 behind it, the last one 2
abbrev pub counting : List ℕ
counting =
    (0x01 ∷ 0x04 ∷ 0x01 ∷ 0x1E ∷ 0x00 ∷ 0x06 ∷ 0x00 ∷ 0x1C ∷ 0x00 ∷ 0x01 ∷ 0x01 ∷ 0x01 ∷ 0x00 ∷ 0x03 ∷ 0x00 ∷ 0x00 ∷ 0x01 ∷ [])
    ++ (0x01 ∷ 0x02 ∷ 0x20 ∷ 0x00 ∷ 0x08 ∷ 0x00 ∷ 0x03 ∷ 0x00 ∷ 0x02 ∷ 0x0A ∷ 0x02 ∷ 0x03 ∷ 0x03 ∷ 0x01 ∷ 0x0D ∷ 0x03 ∷ 0x0D ∷ 0x00 ∷ [])

-- routine 0 of a cut: 01 2 1; 03 1 0 2; 08 0 2 1 0; 0A; 0D 2. It calls itself with a cut less by one, each time within the part before it
abbrev pub narrowing : List ℕ
narrowing =
    0x01 ∷ 0x03 ∷ 0x01 ∷ 0x10 ∷ 0x00 ∷ 0x01 ∷ 0x02 ∷ 0x01 ∷ 0x00 ∷ 0x03 ∷ 0x01 ∷ 0x00 ∷ 0x02 ∷ 0x08 ∷ 0x00 ∷ 0x02 ∷ 0x01 ∷ 0x00 ∷ 0x0A ∷ 0x0D ∷ 0x02 ∷ []

-- "A fork from 32 deep, the root being 1, meets 26"
abbrev pub deep_cases : List SerialCase
deep_cases =
    -- 32 deep: 31 times 13, and 2
    case counting (31 ∷ []) 1000 (done 31 all_zero 405)
    -- 33 deep: 31 times 10, and 4
    ∷ case counting (32 ∷ []) 1000 (stopped 26 all_zero 314)
    -- "22, .. 26": the fork from 32 deep would pass 319
    ∷ case counting (32 ∷ []) 320 (stopped 26 all_zero 314)
    ∷ case counting (32 ∷ []) 319 (stopped 22 all_zero 314)
    -- "10 or 11, 26": from 32 deep the cut is 31, below the mark, or 32. Units: 32 times 1 + 1, and 31 times 6
    ∷ case narrowing (62 ∷ []) 1000 (stopped 11 all_zero 250)
    ∷ case narrowing (63 ∷ []) 1000 (stopped 26 all_zero 250)
    ∷ []

abbrev pub serial_cases : List SerialCase
serial_cases = whole_cases ++ (command_cases ++ (fork_cases ++ deep_cases))
