-- Where an image's parts stand: "One byte: count of routines, 1 to 32. Then per routine a row of four bytes: slots (1 to 16), arguments (at
-- most the slots), code length (two bytes, at least 1). Then the codes in row order, and nothing after."
use Rattle.std.specs.Prelude.{List, ℕ, zero, suc, ◌+◌, ◌*◌, get_or, take, drop, replicate, set}
use Rattle.command.specs.Command.{pair}
use Rattle.image.specs.declared.Row.{Row}
use Rattle.image.specs.declared.Program.{Program}

-- the count of routines
abbrev pub routine_count : List ℕ → ℕ
routine_count s = get_or s 0 0

-- the four bytes of routine r's row
abbrev pub slots_of : List ℕ → ℕ → ℕ
slots_of s r = get_or s (4 * r + 1) 0

abbrev pub arguments_of : List ℕ → ℕ → ℕ
arguments_of s r = get_or s (4 * r + 2) 0

abbrev pub length_of : List ℕ → ℕ → ℕ
length_of s r = pair (get_or s (4 * r + 3) 0) (get_or s (4 * r + 4) 0)

-- the first byte after the rows
abbrev pub rows_end : List ℕ → ℕ
rows_end s = 4 * routine_count s + 1

-- the first byte of routine r's code: "the codes in row order"
unfoldable pub start_of : List ℕ → ℕ → ℕ
start_of s zero = rows_end s
start_of s (suc r) = start_of s r + length_of s r

-- routine r's code
abbrev pub code_of : List ℕ → ℕ → List ℕ
code_of s r = take (length_of s r) (drop (start_of s r) s)

-- a program's row for routine r
abbrev pub row_of : List ℕ → ℕ → Row
row_of s r = record { slots = slots_of s r; arguments = arguments_of s r; start = start_of s r; length = length_of s r }

-- the row of no routine
abbrev pub blank_row : Row
blank_row = record { slots = 0; arguments = 0; start = 0; length = 0 }

-- the rows of the first n routines, in a table of 32
unfoldable pub rows_of : List ℕ → ℕ → List Row
rows_of s zero = replicate 32 blank_row
rows_of s (suc r) = set (rows_of s r) r (row_of s r)

-- what an accepted image says of its routines
abbrev pub program_of : List ℕ → Program
program_of s = record { count = routine_count s; rows = rows_of s (routine_count s) }

-- the starts of the first n rows' codes, in a table of 32
unfoldable pub starts_up_to : List Row → ℕ → List ℕ
starts_up_to rows zero = replicate 32 0
starts_up_to rows (suc r) = set (starts_up_to rows r) r (get_or rows r blank_row).start

-- the codes' starts
abbrev pub starts_in : Program → List ℕ
starts_in p = starts_up_to p.rows 32
