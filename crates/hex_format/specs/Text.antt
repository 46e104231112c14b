-- The text that is written: "data records (type 00) of 16 bytes, the last of 1 to 16, from address 0 up, then the end record, in capitals with
-- LF after each".
use Rattle.std.specs.Prelude.{List, [], ◌∷◌, ◌++◌, ℕ, zero, suc, ◌+◌, ◌-◌, ◌/◌, ◌%◌, length, take, drop}
use Rattle.hex_format.specs.Digits.{colon, line_feed, capital}

-- bytes as characters, two for each, the high digit first
unfoldable pub pairs_of : List ℕ → List ℕ
pairs_of [] = []
pairs_of (byte ∷ bytes) = capital (byte / 16) ∷ capital (byte % 16) ∷ pairs_of bytes

unfoldable pub total : List ℕ → ℕ
total [] = 0
total (byte ∷ bytes) = byte + total bytes

-- what makes a record's bytes add up to 0 modulo 256
abbrev pub checksum_of : List ℕ → ℕ
checksum_of bytes = (256 - total bytes % 256) % 256

-- a record's bytes before its checksum: the count of its data bytes, its address (the high byte first), its type and the data
abbrev pub fields_of : ℕ → ℕ → List ℕ → List ℕ
fields_of type address bytes = length bytes ∷ address / 256 % 256 ∷ address % 256 ∷ type ∷ bytes

-- a record's line, without its end
abbrev pub line_of : ℕ → ℕ → List ℕ → List ℕ
line_of type address bytes = colon ∷ pairs_of (fields_of type address bytes ++ (checksum_of (fields_of type address bytes) ∷ []))

-- "LF after each"
abbrev pub record_line : ℕ → ℕ → List ℕ → List ℕ
record_line type address bytes = line_of type address bytes ++ (line_feed ∷ [])

-- so many data records from an address on
unfoldable pub data_lines : ℕ → ℕ → List ℕ → List ℕ
data_lines zero address bytes = []
data_lines (suc records) address bytes = record_line 0 address (take 16 bytes) ++ data_lines records (address + 16) (drop 16 bytes)

-- how many records of 16 bytes hold so many, the last perhaps in part
abbrev pub record_count : ℕ → ℕ
record_count count = (count + 15) / 16

-- the whole text
unfoldable pub hex_of : List ℕ → List ℕ
hex_of bytes = data_lines (record_count (length bytes)) 0 bytes ++ record_line 1 0 []
