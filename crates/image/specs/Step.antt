-- What the tests 4, 5 and 6 say of one command: its width where it passes.
use Rattle.std.specs.Prelude.{Bool, cond, List, ℕ, ◌+◌, ◌-◌, ltb, get_or, length, Result, Ok, Err}
use Rattle.command.specs.declared.Command.{Command}
use Rattle.command.specs.declared.CommandError.{CommandError}
use Rattle.command.specs.declared.CommandError.TheVariants.{Unknown, CutOff}
use Rattle.image.specs.declared.Refusal.{Refusal}
use Rattle.image.specs.declared.Refusal.TheVariants.{UnknownByte, OperandsCutOff, OutOfRange}

-- the k-th byte behind a command's first
abbrev pub operand : List ℕ → ℕ → ℕ → ℕ
operand code at k = get_or code (at + k) 0

-- a whole command, with its operands in range or not
abbrev pub ranged_as : Bool → ℕ → Result ℕ Refusal
ranged_as good width = cond good (Ok width) (Err OutOfRange)

-- a command of so many bytes, which may be cut off
abbrev pub whole_as : List ℕ → ℕ → ℕ → Bool → Result ℕ Refusal
whole_as code at width good = cond (ltb (length code - at) width) (Err OperandsCutOff) (ranged_as good width)

-- "4, 5, 6", of what was read
abbrev pub tested_as : (Command → Bool) → Result (Command × ℕ) CommandError → Result ℕ Refusal
tested_as in_range (Ok (c, n)) = ranged_as (in_range c) n
tested_as in_range (Err Unknown) = Err UnknownByte
tested_as in_range (Err CutOff) = Err OperandsCutOff
