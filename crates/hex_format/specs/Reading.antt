-- What a text is refused for, each over all its lines, and the bytes that its records say.
use Rattle.std.specs.Prelude.{Bool, true, false, cond, ◌||◌, not, List, [], ◌∷◌, ◌++◌, ℕ, ◌+◌, ◌%◌, eqb, ltb}
use Rattle.hex_format.specs.Record.{count_of, address_of, data_of, sum_of, is_data, is_end}

-- is there no line?
abbrev pub no_lines : List (List ℕ) → Bool
no_lines [] = true
no_lines (line ∷ lines) = false

-- "27 a malformed line, record type or length, an end record whose address is not 0, or text after the end record"
unfoldable pub malformed : List (List ℕ) → Bool
malformed [] = false
malformed (line ∷ lines) = cond (is_end line) (not (no_lines lines)) (not (is_data line) || malformed lines)

-- "28 a checksum"
unfoldable pub bad_checksum : List (List ℕ) → Bool
bad_checksum [] = false
bad_checksum (line ∷ lines) = not (eqb (sum_of line % 256) 0) || bad_checksum lines

-- "29 a gap, overlap, byte past address FFFF or missing end", where the lines before said so many bytes
unfoldable pub bad_span : ℕ → List (List ℕ) → Bool
bad_span count [] = true
bad_span count (line ∷ lines) =
    cond (is_end line) false (not (eqb (address_of line) count) || (ltb 65536 (count + count_of line) || bad_span (count + count_of line) lines))

-- "the bytes its records say"
unfoldable pub said_by : List (List ℕ) → List ℕ
said_by [] = []
said_by (line ∷ lines) = data_of line ++ said_by lines

-- "Refused, each over the whole text before the next"; 0 where the text is read
unfoldable pub text_number : List (List ℕ) → ℕ
text_number lines = cond (malformed lines) 27 (cond (bad_checksum lines) 28 (cond (bad_span 0 lines) 29 0))
