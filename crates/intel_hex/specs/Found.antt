-- What only the code's contracts need: its tables, and a line that is found at a position of a text.
use Rattle.std.specs.Prelude.{◌≡◌, ℕ, zero, suc, ◌+◌, ◌-◌, ◌*◌, ◌/◌, ◌%◌, ◌<◌, ◌≤◌, Bool, true, false, cond, ◌&&◌, ◌||◌, List, [], ◌∷◌, ◌++◌, length, take, drop, ◌==◌, nat_lt, slice_index, slice_index_or, Option, Some, None, Result, Ok, Err}
use Rattle.std.proofs.lemmas.List.Edits.{sets}
use Rattle.intel_hex.specs.declared.line.RecordType.{RecordType}
use Rattle.intel_hex.specs.declared.line.RecordType.TheVariants.{Data, End}
use Rattle.intel_hex.specs.declared.line.HexRecord.{HexRecord}
use Rattle.intel_hex.specs.declared.ReadError.{ReadError}
use Rattle.intel_hex.specs.declared.ReadError.TheVariants.{BadChecksum, BadSpan}
use Rattle.hex_format.specs.Digits.{colon, line_feed, carriage_return, is_digit, digit_value}
use Rattle.hex_format.specs.Text.{pairs_of}
use Rattle.hex_format.specs.Lines.{text_lines}
use Rattle.hex_format.specs.Record.{count_of, address_of, type_of, sum_of, well_formed}
use Rattle.hex_format.specs.Reading.{malformed}

-- a character's weight: a digit's value; else more than a record's digits add up to
unfoldable pub digit_weight : ℕ → ℕ
digit_weight c = cond (is_digit c) (digit_value c) 8192

-- characters stored from a position on
pub record PutsText (characters before : List ℕ) (at : ℕ) (after : List ℕ) : Type 0 where
  pub stored : after ≡ sets before at characters

-- a data record's line up to its data
abbrev pub head_of : ℕ → ℕ → List ℕ
head_of count address = colon ∷ pairs_of (count ∷ address / 256 % 256 ∷ address % 256 ∷ 0 ∷ [])

-- a record's checksum by the sum of its data, and the LF
abbrev pub check_of : ℕ → ℕ → ℕ → List ℕ
check_of count address inner = pairs_of ((256 - (count + (address / 256 % 256 + (address % 256 + (0 + inner)))) % 256) % 256 ∷ []) ++ (line_feed ∷ [])

-- so many of a list's elements, each twice
abbrev pub Doubled : List ℕ → ℕ → List ℕ → Type 0
Doubled bytes n twice = (k : ℕ) → k < n → slice_index twice k ≡ slice_index bytes (k / 2)

-- a digit's value, and more than any digit's for another character
pub record Valued (c r : ℕ) : Type 0 where
  pub digit : is_digit c ≡ true → r ≡ digit_value c
  pub other : is_digit c ≡ false → 16 ≤ r

-- two characters at a position, by their weights
abbrev pub pair_at : List ℕ → ℕ → ℕ
pair_at text at = 16 * digit_weight (slice_index text at) + digit_weight (slice_index text (at + 1))

-- so many pairs of characters from a position on, added up
unfoldable pub sum_at : List ℕ → ℕ → ℕ → ℕ
sum_at text at zero = 0
sum_at text at (suc n) = sum_at text at n + pair_at text (at + 2 * n)

-- so many bytes from a position on
unfoldable pub pairs_at : List ℕ → ℕ → ℕ → List ℕ
pairs_at text at zero = []
pairs_at text at (suc n) = pairs_at text at n ++ (pair_at text (at + 2 * n) ∷ [])

-- so many digits from a position on
abbrev pub Digits : List ℕ → ℕ → ℕ → Type 0
Digits text at n = (j : ℕ) → j < n → is_digit (slice_index text (at + j)) ≡ true

-- what stands for such a sum: alike modulo 256 where all characters are digits, and too heavy for a record where not
pub record Weighs (text : List ℕ) (at n r : ℕ) : Type 0 where
  pub most : r ≤ 2400000
  pub light : sum_at text at n < 8192 → r ≤ 4080
  pub same : sum_at text at n < 8192 → r % 256 ≡ sum_at text at n % 256
  pub heavy : 8192 ≤ sum_at text at n → 8192 ≤ r

-- how many characters end a line at a position
unfoldable pub end_at : List ℕ → ℕ → Option ℕ
end_at text at =
    cond (at == length text) (Some 0)
    (cond (slice_index text at == line_feed) (Some 1)
    (cond (slice_index text at == carriage_return && slice_index text (at + 1) == line_feed) (Some 2)
    None))

-- the number of a record's type
abbrev pub number_of_type : RecordType → ℕ
number_of_type Data = 0
number_of_type End = 1

-- the line of a record with so many data bytes at a position
abbrev pub line_at : List ℕ → ℕ → ℕ → List ℕ
line_at text at count = take (11 + 2 * count) (drop at text)

-- a record's line at a position, and where the next line begins
pub record StandsAt (text : List ℕ) (at : ℕ) (r : HexRecord) : Type 0 where
  pub lines : text_lines (drop at text) ≡ line_at text at r.count ∷ text_lines (drop r.next text)
  pub formed : well_formed (line_at text at r.count) ≡ true
  pub count : count_of (line_at text at r.count) ≡ r.count
  pub few : r.count ≤ 16
  pub address : address_of (line_at text at r.count) ≡ r.address
  pub type : type_of (line_at text at r.count) ≡ number_of_type r.kind
  pub sum : sum_of (line_at text at r.count) % 256 ≡ r.sum % 256
  pub onward : at + 11 + 2 * r.count ≤ r.next
  pub inside : r.next ≤ length text

-- what is known of a line before its address and checksum are read
pub record Begun (text : List ℕ) (at first : ℕ) (kind : RecordType) (inner : ℕ) : Type 0 where
  pub colon : slice_index_or text at 0 ≡ colon
  pub count : pair_at text (at + 1) ≡ first
  pub few : first ≤ 16
  pub type : pair_at text (at + 7) ≡ number_of_type kind
  pub inside : at + 11 + 2 * first ≤ length text
  pub weighs : Weighs text (at + 9) first inner

-- the characters `10` and `00` at their places, and enough of them
pub record FullAt (text : List ℕ) (at : ℕ) : Type 0 where
  pub enough : at + 43 ≤ length text
  pub count : (slice_index text (at + 1) ≡ 49) × (slice_index text (at + 2) ≡ 48)
  pub type : (slice_index text (at + 7) ≡ 48) × (slice_index text (at + 8) ≡ 48)

abbrev pub LineFound : List ℕ → ℕ → Option HexRecord → Type 0
LineFound text at None = malformed (text_lines (drop at text)) ≡ true
LineFound text at (Some r) = StandsAt text at r

-- the answer by the tests of all lines, none of which is malformed; that no byte lies past address FFFF is told by their count
abbrev pub scanned_as : Bool → Bool → ℕ → Result ℕ ReadError
scanned_as sum span count = cond sum (Err BadChecksum) (cond (span || nat_lt 65536 count) (Err BadSpan) (Ok count))
