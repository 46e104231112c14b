-- Worked rows of T-12's numbers, by hand: how many commands a plain run carries out and how deep it goes, what a lone core writes with a byte more
-- than twice the commands and with twice the commands, and how many threads are in use and may be. A second witness of their definitions
-- (proofs/Rows.antt computes them).
use Rattle.std.specs.Prelude.{List, [], ◌∷◌, ◌++◌, ℕ, replicate}
use Rattle.image.specs.Cases.{one_routine, whole}
use Rattle.schedule.specs.declared.Entry.TheVariants.{Step, Steal}
use Rattle.rules.specs.State.{going, finished}
use Rattle.rules.specs.Row.{five, nought, calls, calls_two}
use Rattle.rounds.specs.Rows.{ScheduledRow}
use Rattle.serial.specs.Cases.{counting, over_five}
use Rattle.demands.specs.Input.{Input, input_of}
use Rattle.demands.specs.Demands.{state_after}
use Rattle.demands.specs.Cases.{given}
use Rattle.lonecore.specs.Depth.{depth_in}
use Rattle.lonecore.specs.Commands.{commands_in}
use Rattle.lonecore.specs.SeveralCores.{used_in, most_used}

-- a plain run on words that start zero
pub record PlainRow : Type 0 where
  pub image : List ℕ
  pub arguments : List ℕ
  pub allowance : ℕ
  pub number : ℕ

abbrev input_for : PlainRow → Input
input_for r = input_of r.image 1 r.arguments (replicate 32 0) (replicate 992 0) r.allowance

abbrev pub row : List ℕ → List ℕ → ℕ → ℕ → PlainRow
row image arguments allowance number = record { image = image; arguments = arguments; allowance = allowance; number = number }

-- by the definitions, and by hand
abbrev pub commands_for : PlainRow → ℕ
commands_for r = commands_in (input_for r)

abbrev pub depth_for : PlainRow → ℕ
depth_for r = depth_in (input_for r)

abbrev pub by_hand : PlainRow → ℕ
by_hand r = r.number

-- of each row
abbrev pub each_plain : (PlainRow → ℕ) → List PlainRow → List ℕ
each_plain f [] = []
each_plain f (r ∷ rs) = f r ∷ each_plain f rs

-- routine 0 lforks routine r and then q; routine 1 lforks routine 2, which returns 5
abbrev pub over_two : ℕ → ℕ → List ℕ
over_two r q =
    (0x03 ∷ 0x03 ∷ 0x00 ∷ 0x11 ∷ 0x00 ∷ 0x02 ∷ 0x00 ∷ 0x0C ∷ 0x00 ∷ 0x01 ∷ 0x00 ∷ 0x06 ∷ 0x00 ∷ []) ++ calls_two r q ++ calls 2 ++ five

-- 01 2 32; 04 0 2; 05 2 0; 07 to the next; 09 1 0 0 2; 0A; 0D 0: before the fork 1 + 2 + 2 + 1 units
abbrev pub behind_access : List ℕ
behind_access =
    over_five 0x15
    ((0x01 ∷ 0x02 ∷ 0x20 ∷ 0x00 ∷ 0x04 ∷ 0x00 ∷ 0x02 ∷ 0x05 ∷ 0x02 ∷ 0x00 ∷ 0x07 ∷ 0x0D ∷ 0x00 ∷ []) ++ (0x09 ∷ 0x01 ∷ 0x00 ∷ 0x00 ∷ 0x02 ∷ 0x0A ∷ 0x0D ∷ 0x00 ∷ []))

-- 01 2 32; 06 2, which goes on; 0B; 0C; 0A; 08 1 0 0 2; 0A; 0D 0: before the fork 1 + 1 + 3 + 3 + 1 units
abbrev pub behind_pauses : List ℕ
behind_pauses =
    over_five 0x13
    ((0x01 ∷ 0x02 ∷ 0x20 ∷ 0x00 ∷ 0x06 ∷ 0x02 ∷ 0x00 ∷ 0x00 ∷ 0x0B ∷ 0x0C ∷ 0x0A ∷ []) ++ (0x08 ∷ 0x01 ∷ 0x00 ∷ 0x00 ∷ 0x02 ∷ 0x0A ∷ 0x0D ∷ 0x00 ∷ []))

-- 01 2 33; 01 0 1; 05 2 0; 04 1 2; 06 1 to the end; 08 1 0 0 2; 0A; 0D 2: it forks if it loads what it stored
abbrev pub behind_stored : List ℕ
behind_stored =
    over_five 0x1A
    ((0x01 ∷ 0x02 ∷ 0x21 ∷ 0x00 ∷ 0x01 ∷ 0x00 ∷ 0x01 ∷ 0x00 ∷ 0x05 ∷ 0x02 ∷ 0x00 ∷ 0x04 ∷ 0x01 ∷ 0x02 ∷ [])
    ++ (0x06 ∷ 0x01 ∷ 0x18 ∷ 0x00 ∷ 0x08 ∷ 0x01 ∷ 0x00 ∷ 0x00 ∷ 0x02 ∷ 0x0A ∷ 0x0D ∷ 0x02 ∷ []))

-- 01 2 1000; 0E 2; 08 1 0 0 2; 0A; 0D 0: it shares from its cut on
abbrev pub behind_share : List ℕ
behind_share = over_five 0x0E (0x01 ∷ 0x02 ∷ 0xE8 ∷ 0x03 ∷ 0x0E ∷ 0x02 ∷ 0x08 ∷ 0x01 ∷ 0x00 ∷ 0x00 ∷ 0x02 ∷ 0x0A ∷ 0x0D ∷ 0x00 ∷ [])

-- 01 2 1000; 0E 2; 01 1 1001; 08 1 0 0 1; 0A; 0D 0: its cut is above the ceiling (11), so that it has no child
abbrev pub cut_above_share : List ℕ
cut_above_share =
    over_five 0x12
    ((0x01 ∷ 0x02 ∷ 0xE8 ∷ 0x03 ∷ 0x0E ∷ 0x02 ∷ 0x01 ∷ 0x01 ∷ 0xE9 ∷ 0x03 ∷ []) ++ (0x08 ∷ 0x01 ∷ 0x00 ∷ 0x00 ∷ 0x01 ∷ 0x0A ∷ 0x0D ∷ 0x00 ∷ []))

-- the commands of runs that finish
abbrev pub command_rows : List PlainRow
command_rows =
    -- document 01's worked case "Whole": 6 of routine 0, and twice 2
    row whole [] 100 10
    -- a return
    ∷ row (one_routine nought) [] 1 1
    -- 5 of routine 0, 4 of routine 1, and twice 2
    ∷ row (over_two 1 2) [] 100 13
    -- `counting` of k: 8 of each call that forks, and 2 of the last
    ∷ row counting (3 ∷ []) 100 26
    ∷ row counting (15 ∷ []) 1000 122
    -- 7 of routine 0, which weigh 20, and 2
    ∷ row behind_access [] 100 9
    -- suspend, yield and return weigh 7, and are 3 commands
    ∷ row (one_routine (0x0B ∷ 0x0C ∷ 0x0D ∷ 0x00 ∷ [])) [] 7 3
    -- 5 of routine 0, 0E among them, and 2
    ∷ row behind_share [] 100 7
    ∷ []

-- how deep runs go, "the root being 1", whether or not they finish
abbrev pub depth_rows : List PlainRow
depth_rows =
    row whole [] 100 2
    ∷ row (one_routine nought) [] 1 1
    -- through the first child, and through the second
    ∷ row (over_two 1 2) [] 100 3
    ∷ row (over_two 2 1) [] 100 3
    ∷ row counting (3 ∷ []) 100 4
    ∷ row counting (31 ∷ []) 1000 32
    -- "A fork from 32 deep, the root being 1, meets 26"
    ∷ row counting (32 ∷ []) 1000 32
    -- at 7 the first fork is paid for and its child's first command is not, at 6 the fork is not
    ∷ row whole [] 7 2
    ∷ row whole [] 6 1
    -- a fork of 12 behind 6 units, and one of 6 behind 9
    ∷ row behind_access [] 18 2
    ∷ row behind_access [] 17 1
    ∷ row behind_pauses [] 15 2
    ∷ row behind_pauses [] 14 1
    -- the first child's fork, behind 1 + 6 + 1, and the second one's, behind 1 + 6 + 2 + 6 + 1
    ∷ row (over_two 1 2) [] 14 3
    ∷ row (over_two 1 2) [] 13 2
    ∷ row (over_two 2 1) [] 22 3
    ∷ row (over_two 2 1) [] 21 2
    ∷ row behind_stored [] 100 2
    -- a fork of 6 behind 1 + 1, and none
    ∷ row behind_share [] 8 2
    ∷ row behind_share [] 7 1
    ∷ row cut_above_share [] 100 1
    ∷ []

-- "Whole" on one core has 10 commands: 21 bytes are enough, and of 20 the last command finds 2
abbrev pub lone_rows : List ScheduledRow
lone_rows =
    record { image = whole; cores = 1; allowance = 100; size = 21; written = replicate 10 (Step 0); outcome = finished 10; units = 20 }
    ∷ record { image = whole; cores = 1; allowance = 100; size = 20; written = replicate 9 (Step 0); outcome = going; units = 19 }
    ∷ []

-- the bound on threads in use, by the definition and by hand: 2, 2, 3 and 1 routines deep on 2, 4, 3 and 4 cores
abbrev pub bounds : List ℕ
bounds =
    most_used (given whole 2 100)
    ∷ most_used (given whole 4 100)
    ∷ most_used (given (over_two 1 2) 3 100)
    ∷ most_used (given (one_routine nought) 4 100)
    ∷ []

abbrev pub bounds_by_hand : List ℕ
bounds_by_hand = 3 ∷ 5 ∷ 7 ∷ 1 ∷ []

-- the threads in use in "Whole" on 2 cores: at Start, behind its first command, its first lfork and the steal of its second, where the bound is reached
abbrev pub used : List ℕ
used =
    used_in (state_after (given whole 2 100) [])
    ∷ used_in (state_after (given whole 2 100) (Step 0 ∷ []))
    ∷ used_in (state_after (given whole 2 100) (Step 0 ∷ Step 0 ∷ []))
    ∷ used_in (state_after (given whole 2 100) (Step 0 ∷ Step 0 ∷ Steal 1 0 ∷ []))
    ∷ []

abbrev pub used_by_hand : List ℕ
used_by_hand = 1 ∷ 1 ∷ 2 ∷ 3 ∷ []
