-- What the bytes of one command mean: document 01's table of commands, read and written.
use Rattle.std.specs.Prelude.{cond, List, [], ◌∷◌, ◌↔◌, ◌⊎◌, ◌≡◌, ℕ, ◌+◌, ◌-◌, ◌*◌, ◌/◌, ◌%◌, ◌≤◌, ◌<◌, ltb, leb, eqb, get_or, length, take, drop, Result, Ok, Err}
use Rattle.command.specs.declared.Command.{Command}
use Rattle.command.specs.declared.Command.TheVariants.{Set, Add, Subtract, Load, Store, JumpIfZero, Jump, Lfork, Fork, Join, Suspend, Yield, Return, Share}
use Rattle.command.specs.declared.CommandError.{CommandError}
use Rattle.command.specs.declared.CommandError.TheVariants.{Unknown, CutOff}

-- the number of bytes of each command, by its first byte, from 00 (no command) to 0E
abbrev pub widths : List ℕ
widths = 0 ∷ 4 ∷ 4 ∷ 4 ∷ 3 ∷ 3 ∷ 4 ∷ 3 ∷ 5 ∷ 5 ∷ 1 ∷ 1 ∷ 1 ∷ 2 ∷ 2 ∷ []

-- the number of bytes of a command; 0 for a byte that is no command
abbrev pub width_of : ℕ → ℕ
width_of byte = get_or widths byte 0

-- "values of two or four bytes are little-endian"
abbrev pub pair : ℕ → ℕ → ℕ
pair low high = low + high * 256

-- the command of a first byte and the four bytes after it, of which it takes what it needs
unfoldable pub decoded : ℕ → ℕ → ℕ → ℕ → ℕ → Command
decoded byte x y z w =
    cond (eqb byte 1) (Set x (pair y z))
    (cond (eqb byte 2) (Add x y z)
    (cond (eqb byte 3) (Subtract x y z)
    (cond (eqb byte 4) (Load x y)
    (cond (eqb byte 5) (Store x y)
    (cond (eqb byte 6) (JumpIfZero x (pair y z))
    (cond (eqb byte 7) (Jump (pair x y))
    (cond (eqb byte 8) (Lfork x y z w)
    (cond (eqb byte 9) (Fork x y z w)
    (cond (eqb byte 10) Join
    (cond (eqb byte 11) Suspend
    (cond (eqb byte 12) Yield
    (cond (eqb byte 13) (Return x)
    (Share x)))))))))))))

-- the command whose first byte stands at a position, taken as whole: bytes past the end read as 0
abbrev pub decoded_at : List ℕ → ℕ → Command
decoded_at s at = decoded (get_or s at 0) (get_or s (at + 1) 0) (get_or s (at + 2) 0) (get_or s (at + 3) 0) (get_or s (at + 4) 0)

-- the five bytes from a position on
abbrev pub five_at : List ℕ → ℕ → List ℕ
five_at s at = get_or s at 0 ∷ get_or s (at + 1) 0 ∷ get_or s (at + 2) 0 ∷ get_or s (at + 3) 0 ∷ get_or s (at + 4) 0 ∷ []

-- "One command read by itself meets only 4 and 5 (5 also where there is no byte)": 4 first, as "4, 5, 6 command by command"
unfoldable pub command_at : List ℕ → ℕ → Result (Command × ℕ) CommandError
command_at s at =
    cond (leb (length s) at) (Err CutOff)
    (cond (eqb (width_of (get_or s at 0)) 0) (Err Unknown)
    (cond (ltb (length s - at) (width_of (get_or s at 0))) (Err CutOff)
    (Ok (decoded_at s at, width_of (get_or s at 0)))))

-- document 01's number for each answer of `read`: 0 where a command is found
abbrev pub number_of_command_read : Result (Command × ℕ) CommandError → ℕ
number_of_command_read (Ok found) = 0
number_of_command_read (Err Unknown) = 4
number_of_command_read (Err CutOff) = 5

-- the two bytes of a value, the low one first
abbrev pub low : ℕ → ℕ
low v = v % 256

abbrev pub high : ℕ → ℕ
high v = v / 256 % 256

-- the bytes of a command
unfoldable pub bytes_of_command : Command → List ℕ
bytes_of_command (Set d v) = 1 ∷ d ∷ low v ∷ high v ∷ []
bytes_of_command (Add d a b) = 2 ∷ d ∷ a ∷ b ∷ []
bytes_of_command (Subtract d a b) = 3 ∷ d ∷ a ∷ b ∷ []
bytes_of_command (Load d a) = 4 ∷ d ∷ a ∷ []
bytes_of_command (Store a b) = 5 ∷ a ∷ b ∷ []
bytes_of_command (JumpIfZero a t) = 6 ∷ a ∷ low t ∷ high t ∷ []
bytes_of_command (Jump t) = 7 ∷ low t ∷ high t ∷ []
bytes_of_command (Lfork r d a w) = 8 ∷ r ∷ d ∷ a ∷ w ∷ []
bytes_of_command (Fork r d a w) = 9 ∷ r ∷ d ∷ a ∷ w ∷ []
bytes_of_command Join = 10 ∷ []
bytes_of_command Suspend = 11 ∷ []
bytes_of_command Yield = 12 ∷ []
bytes_of_command (Return a) = 13 ∷ a ∷ []
bytes_of_command (Share a) = 14 ∷ a ∷ []

-- the operands that stand in two bytes fit them, as every value of the enum has it
abbrev pub OperandsFit : Command → Type 0
OperandsFit (Set d v) = v < 65536
OperandsFit (Add d a b) = Unit {0}
OperandsFit (Subtract d a b) = Unit {0}
OperandsFit (Load d a) = Unit {0}
OperandsFit (Store a b) = Unit {0}
OperandsFit (JumpIfZero a t) = t < 65536
OperandsFit (Jump t) = t < 65536
OperandsFit (Lfork r d a w) = Unit {0}
OperandsFit (Fork r d a w) = Unit {0}
OperandsFit Join = Unit {0}
OperandsFit Suspend = Unit {0}
OperandsFit Yield = Unit {0}
OperandsFit (Return a) = Unit {0}
OperandsFit (Share a) = Unit {0}

-- what `read` gives: what stands there, each number exactly under its condition, which does not cite the row of tests, and "an accepted
-- command's bytes are written again unchanged"
pub record ReadAs (s : List ℕ) (at : ℕ) (answer : Result (Command × ℕ) CommandError) : Type 0 where
  pub is : answer ≡ command_at s at
  -- "4: unknown byte"
  pub number4 : (number_of_command_read answer ≡ 4) ↔ ((at < length s) × (width_of (get_or s at 0) ≡ 0))
  -- "5: operands cut off", "also where there is no byte"
  pub number5 : (number_of_command_read answer ≡ 5) ↔ ((length s ≤ at) ⊎ ((1 ≤ width_of (get_or s at 0)) × (length s < at + width_of (get_or s at 0))))
  -- "meets only 4 and 5": else the command is found, with the number of its bytes
  pub number0 : (number_of_command_read answer ≡ 0) ↔ (answer ≡ Ok (decoded_at s at, width_of (get_or s at 0)))
  pub again : (command : Command) (n : ℕ) → answer ≡ Ok (command, n) → bytes_of_command command ≡ take n (drop at s)
