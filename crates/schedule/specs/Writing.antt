-- Bytes put into a buffer at a position: all of them, or none where they do not fit.
use Rattle.std.specs.Prelude.{◌≡◌, List, ◌++◌, Bool, cond, ◌↔◌, ℕ, ◌+◌, ◌<◌, length, take, drop, leb, Result, Ok, Err}
use Rattle.schedule.specs.declared.NoRoom.{NoRoom}

-- whether some bytes fit into a buffer at a position
abbrev pub fits : List ℕ → List ℕ → ℕ → Bool
fits bytes buffer at = leb (at + length bytes) (length buffer)

-- a buffer with the bytes at a position, where they fit: those before and after stay
unfoldable pub placed : List ℕ → List ℕ → ℕ → List ℕ
placed bytes buffer at = cond (fits bytes buffer at) (take at buffer ++ bytes ++ drop (at + length bytes) buffer) buffer

-- how many bytes were written
unfoldable pub written_of : List ℕ → List ℕ → ℕ → Result ℕ NoRoom
written_of bytes buffer at = cond (fits bytes buffer at) (Ok (length bytes)) (Err (record {}))

-- the number of each answer of `write`. Document 01 has none of an entry's own: 25 is that of a command "written into too short a buffer",
-- which "writes nothing", and of a "log shorter than the entries"
abbrev pub number_of_written : Result ℕ NoRoom → ℕ
number_of_written (Ok n) = 0
number_of_written (Err _) = 25

-- what writing some bytes gives of a buffer, each number exactly under its condition, and leaves in it
pub record Writes (bytes before : List ℕ) (at : ℕ) (r : Result ℕ NoRoom) (after : List ℕ) : Type 0 where
  pub answer : r ≡ written_of bytes before at
  pub number25 : (number_of_written r ≡ 25) ↔ (length before < at + length bytes)
  pub number0 : (number_of_written r ≡ 0) ↔ (r ≡ Ok (length bytes))
  pub buffer : after ≡ placed bytes before at
