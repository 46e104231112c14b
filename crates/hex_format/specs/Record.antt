-- What a line says: one record.
use Rattle.std.specs.Prelude.{Bool, true, ◌&&◌, List, [], ◌∷◌, ℕ, zero, suc, ◌+◌, ◌*◌, eqb, leb, get_or, length, drop}
use Rattle.hex_format.specs.Digits.{colon, is_digit, digit_value}
use Rattle.hex_format.specs.Text.{total}

-- byte k of a line: two digits after the colon, the high one first
abbrev pub line_byte : List ℕ → ℕ → ℕ
line_byte line k = 16 * digit_value (get_or line (2 * k + 1) 0) + digit_value (get_or line (2 * k + 2) 0)

-- so many bytes of a line, from byte k on
unfoldable pub bytes_from : List ℕ → ℕ → ℕ → List ℕ
bytes_from line k zero = []
bytes_from line k (suc n) = line_byte line k ∷ bytes_from line (suc k) n

-- a record's parts: the count of its data, its address (the high byte first), its type and its data
abbrev pub count_of : List ℕ → ℕ
count_of line = line_byte line 0

abbrev pub address_of : List ℕ → ℕ
address_of line = 256 * line_byte line 1 + line_byte line 2

abbrev pub type_of : List ℕ → ℕ
type_of line = line_byte line 3

abbrev pub data_of : List ℕ → List ℕ
data_of line = bytes_from line 4 (count_of line)

-- all its bytes, with the checksum, added up
abbrev pub sum_of : List ℕ → ℕ
sum_of line = total (bytes_from line 0 (count_of line + 5))

unfoldable pub all_digits : List ℕ → Bool
all_digits [] = true
all_digits (c ∷ characters) = is_digit c && all_digits characters

-- the grammar of a line: a colon, then digits alone, two for each byte: the count, two of the address, the type, the data and the checksum
unfoldable pub well_formed : List ℕ → Bool
well_formed line = eqb (get_or line 0 0) colon && (all_digits (drop 1 line) && eqb (length line) (11 + 2 * count_of line))

-- "data records of 1 to 16 bytes"
unfoldable pub is_data : List ℕ → Bool
is_data line = well_formed line && (eqb (type_of line) 0 && (leb 1 (count_of line) && leb (count_of line) 16))

-- the end record: type 01, no data, and address 0
unfoldable pub is_end : List ℕ → Bool
is_end line = well_formed line && (eqb (type_of line) 1 && (eqb (count_of line) 0 && eqb (address_of line) 0))
