-- What the reader says of an image: document 01, "Image" and "The image's author".
use Rattle.std.specs.Prelude.{Bool, true, cond, ◌&&◌, ◌||◌, not, List, [], ◌∷◌, ℕ, zero, suc, ◌+◌, ltb, leb, eqb, length, Result, Ok, Err}
use Rattle.command.specs.declared.Command.{Command}
use Rattle.command.specs.declared.Command.TheVariants.{Set, Add, Subtract, Load, Store, JumpIfZero, Jump, Lfork, Fork, Join, Suspend, Yield, Return, Share}
use Rattle.image.specs.declared.Refusal.{Refusal}
use Rattle.image.specs.declared.Refusal.TheVariants.{BadLength, BadCount, BadRow, UnknownByte, OperandsCutOff, OutOfRange, BadEnd, BadTarget}
use Rattle.image.specs.declared.Program.{Program}
use Rattle.image.specs.Layout.{routine_count, slots_of, arguments_of, length_of, rows_end, start_of, code_of, program_of}
use Rattle.image.specs.Code.{Verdict, ◌then◌, routine_verdict}

-- the numbers of the image's author
abbrev pub number_of_refusal : Refusal → ℕ
number_of_refusal BadLength = 1
number_of_refusal BadCount = 2
number_of_refusal BadRow = 3
number_of_refusal UnknownByte = 4
number_of_refusal OperandsCutOff = 5
number_of_refusal OutOfRange = 6
number_of_refusal BadEnd = 7
number_of_refusal BadTarget = 8

-- the number of an answer, 0 for an accepted image
abbrev pub number_in : {A : Type 0} → Result A Refusal → ℕ
number_in (Ok a) = 0
number_in (Err n) = number_of_refusal n

-- "slots (1 to 16), arguments (at most the slots), code length (two bytes, at least 1)"
abbrev pub row_good : List ℕ → ℕ → Bool
row_good s r = (leb 1 (slots_of s r) && leb (slots_of s r) 16) && (leb (arguments_of s r) (slots_of s r) && leb 1 (length_of s r))

-- are the rows of the first n routines good?
unfoldable pub rows_good : List ℕ → ℕ → Bool
rows_good s zero = true
rows_good s (suc r) = rows_good s r && row_good s r

-- are all these numbers slots of a routine?
abbrev pub all_slots : ℕ → List ℕ → Bool
all_slots slots [] = true
all_slots slots (d ∷ ds) = ltb d slots && all_slots slots ds

-- "An argument run is in range when a plus routine r's arguments is at most the slots"
abbrev pub fork_in_range : List ℕ → ℕ → ℕ → ℕ → ℕ → ℕ → Bool
fork_in_range s slots r d a w = ltb r (routine_count s) && (all_slots slots (d ∷ w ∷ []) && leb (a + arguments_of s r) slots)

-- are a command's slots, argument run and routine in range, in a routine of so many slots?
unfoldable pub in_range : List ℕ → ℕ → Command → Bool
in_range s slots (Set d v) = all_slots slots (d ∷ [])
in_range s slots (Add d a b) = all_slots slots (d ∷ a ∷ b ∷ [])
in_range s slots (Subtract d a b) = all_slots slots (d ∷ a ∷ b ∷ [])
in_range s slots (Load d a) = all_slots slots (d ∷ a ∷ [])
in_range s slots (Store a b) = all_slots slots (a ∷ b ∷ [])
in_range s slots (JumpIfZero a t) = all_slots slots (a ∷ [])
in_range s slots (Jump t) = true
in_range s slots (Lfork r d a w) = fork_in_range s slots r d a w
in_range s slots (Fork r d a w) = fork_in_range s slots r d a w
in_range s slots Join = true
in_range s slots Suspend = true
in_range s slots Yield = true
in_range s slots (Return a) = all_slots slots (a ∷ [])
in_range s slots (Share a) = all_slots slots (a ∷ [])

-- n routines, from routine r on, one after the other
unfoldable pub routines_verdict : List ℕ → ℕ → ℕ → Verdict
routines_verdict s zero r = Ok tt
routines_verdict s (suc n) r = routine_verdict (in_range s (slots_of s r)) (code_of s r) then routines_verdict s n (suc r)

-- "Order: the whole-length tests, 2, rows and total, 3 per row; then per routine 4, 5, 6 command by command, 7, 8"
unfoldable pub image_verdict : List ℕ → Verdict
image_verdict s =
    cond (eqb (length s) 0 || ltb 4096 (length s)) (Err BadLength)
    (cond (eqb (routine_count s) 0 || ltb 32 (routine_count s)) (Err BadCount)
    (cond (ltb (length s) (rows_end s)) (Err BadLength)
    (cond (not (eqb (length s) (start_of s (routine_count s)))) (Err BadLength)
    (cond (not (rows_good s (routine_count s))) (Err BadRow)
    (routines_verdict s (routine_count s) 0)))))

-- the program of an accepted image, or why it is refused
abbrev pub program_for : Verdict → List ℕ → Result Program Refusal
program_for (Ok passed) s = Ok (program_of s)
program_for (Err n) s = Err n

-- the whole answer
unfoldable pub image_answer : List ℕ → Result Program Refusal
image_answer s = program_for (image_verdict s) s
