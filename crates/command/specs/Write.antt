-- Writing one command into a lent slice: "written into too short a buffer it meets 25 and writes nothing".
use Rattle.std.specs.Prelude.{cond, List, ◌++◌, ◌↔◌, ◌≡◌, ℕ, ◌<◌, leb, length, drop, Result, Ok, Err}
use Rattle.command.specs.declared.Command.{Command}
use Rattle.command.specs.declared.TooShort.{TooShort}
use Rattle.command.specs.Command.{bytes_of_command, command_at}

-- document 01's number for each answer of `write`: 0 where the command is written
abbrev pub number_of_command_written : Result ℕ TooShort → ℕ
number_of_command_written (Ok n) = 0
number_of_command_written (Err short) = 25

-- what writing bytes at a buffer's front answers: their number, where they fit
abbrev pub put_answer : List ℕ → List ℕ → Result ℕ TooShort
put_answer bytes buffer = cond (leb (length bytes) (length buffer)) (Ok (length bytes)) (Err (record {}))

-- what the buffer then holds: the bytes first, and past them what it held
abbrev pub put_to : List ℕ → List ℕ → List ℕ
put_to bytes buffer = cond (leb (length bytes) (length buffer)) (bytes ++ drop (length bytes) buffer) buffer

-- what writing a command into a buffer answers
unfoldable pub written_answer : Command → List ℕ → Result ℕ TooShort
written_answer command buffer = put_answer (bytes_of_command command) buffer

-- what the buffer then holds: the command's bytes first, and past them what it held
unfoldable pub written_to : Command → List ℕ → List ℕ
written_to command buffer = put_to (bytes_of_command command) buffer

-- what `write` gives: the answer, each number exactly under its condition, the bytes, and "a written command reads back as itself"
pub record Wrote (command : Command) (before after : List ℕ) (answer : Result ℕ TooShort) : Type 0 where
  pub answered : answer ≡ written_answer command before
  -- "written into too short a buffer it meets 25"
  pub number25 : (number_of_command_written answer ≡ 25) ↔ (length before < length (bytes_of_command command))
  -- else the number of its bytes is given
  pub number0 : (number_of_command_written answer ≡ 0) ↔ (answer ≡ Ok (length (bytes_of_command command)))
  pub written : after ≡ written_to command before
  pub back : (n : ℕ) → answer ≡ Ok n → command_at after 0 ≡ Ok (command, n)
