-- What the print program's input says: "core count, argument count (one byte each), arguments, allowance (four bytes each), image length
-- (two bytes), image, schedule". Bytes past the input's end read as 0.
use Rattle.std.specs.Prelude.{Bool, List, [], ◌∷◌, ◌++◌, ◌≡◌, ℕ, zero, suc, ◌+◌, ◌*◌, ltb, length, get_or, take, drop}

-- "values of two or four bytes are little-endian"
abbrev pub pair_of : ℕ → ℕ → ℕ
pair_of a b = a + b * 256

abbrev pub word_of : ℕ → ℕ → ℕ → ℕ → ℕ
word_of a b c d = a + b * 256 + c * 65536 + d * 16777216

abbrev pub pair_at : List ℕ → ℕ → ℕ
pair_at s at = pair_of (get_or s at 0) (get_or s (at + 1) 0)

abbrev pub four_bytes_at : List ℕ → ℕ → ℕ
four_bytes_at s at = word_of (get_or s at 0) (get_or s (at + 1) 0) (get_or s (at + 2) 0) (get_or s (at + 3) 0)

-- as many words from a position on
unfoldable pub words_from : List ℕ → ℕ → ℕ → List ℕ
words_from s at zero = []
words_from s at (suc n) = four_bytes_at s at ∷ words_from s (at + 4) n

-- other words with these at their front: those past them stay
abbrev pub read_over : List ℕ → ℕ → ℕ → List ℕ → List ℕ
read_over s at n before = words_from s at n ++ drop n before

abbrev pub core_count : List ℕ → ℕ
core_count s = get_or s 0 0

abbrev pub argument_count : List ℕ → ℕ
argument_count s = get_or s 1 0

-- the arguments, which stand at 2, read to the front of 255 words; those past them stay
pub record ArgumentsRead (s before after : List ℕ) : Type 0 where
  pub first : take (argument_count s) after ≡ words_from s 2 (argument_count s)
  pub many : length after ≡ 255
  pub over : after ≡ read_over s 2 (argument_count s) before

-- after the arguments one thing stands after the other
abbrev pub allowance_at : List ℕ → ℕ
allowance_at s = 2 + 4 * argument_count s

abbrev pub length_at : List ℕ → ℕ
length_at s = allowance_at s + 4

abbrev pub image_at : List ℕ → ℕ
image_at s = length_at s + 2

abbrev pub schedule_at : List ℕ → ℕ
schedule_at s = image_at s + pair_at s (length_at s)

-- "Input that ends before the schedule"; one that ends with the image has an empty schedule
abbrev pub ends_early : List ℕ → Bool
ends_early s = ltb (length s) (schedule_at s)

abbrev pub schedule_in : List ℕ → List ℕ
schedule_in s = drop (schedule_at s) s
