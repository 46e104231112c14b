-- A text written over a buffer: as far as there is room; past the text the buffer stays.
use Rattle.std.specs.Prelude.{List, ◌++◌, ◌≡◌, ℕ, ◌≤◌, length, take, drop}
use Rattle.transcript.specs.Transcript.{text_of}

-- a text at the front of a buffer, or as much of it as the buffer holds
abbrev pub overlaid : List ℕ → List ℕ → List ℕ
overlaid text buffer = take (length buffer) text ++ drop (length text) buffer

-- what `print` gives of an input and a buffer. The longest text has 16,384 lines of at most 10 bytes, as `16383 255`, and a last line of
-- at most 31, as `finished 4294967295 4294967295`.
pub record Prints (input before after : List ℕ) (count : ℕ) : Type 0 where
  pub text : after ≡ overlaid (text_of input) before
  pub all : count ≡ length (text_of input)
  pub most : count ≤ 163871
