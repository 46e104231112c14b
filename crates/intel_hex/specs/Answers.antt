-- What `write` and `read` answer and leave, each number exactly under its condition.
use Rattle.std.specs.Prelude.{◌≡◌, ℕ, ◌+◌, ◌*◌, ◌/◌, ◌%◌, ◌<◌, true, false, cond, ◌↔◌, List, ◌++◌, length, take, drop, ◌==◌, nat_le, Result, Ok, Err}
use Rattle.image.specs.declared.Refusal.{Refusal}
use Rattle.image.specs.Code.{Verdict}
use Rattle.image.specs.Image.{number_of_refusal, image_verdict}
use Rattle.intel_hex.specs.declared.WriteError.{WriteError}
use Rattle.intel_hex.specs.declared.WriteError.TheVariants.{BadImage, NoRoom as NoTextRoom}
use Rattle.intel_hex.specs.declared.ReadError.{ReadError}
use Rattle.intel_hex.specs.declared.ReadError.TheVariants.{Malformed, BadChecksum, BadSpan, NoRoom as NoByteRoom}
use Rattle.hex_format.specs.Text.{hex_of}
use Rattle.hex_format.specs.Lines.{text_lines}
use Rattle.hex_format.specs.Reading.{malformed, bad_checksum, bad_span, said_by}

-- a text that is read, and the bytes that it gives
pub record ReadsAs (text bytes : List ℕ) : Type 0 where
  pub lines : malformed (text_lines text) ≡ false
  pub checksums : bad_checksum (text_lines text) ≡ false
  pub span : bad_span 0 (text_lines text) ≡ false
  pub said : bytes ≡ said_by (text_lines text)

-- why a text is not written: "A bad image is not written (1 to 8)", "An output buffer too short is 25, last"
abbrev pub number_of_write_error : WriteError → ℕ
number_of_write_error (BadImage refusal) = number_of_refusal refusal
number_of_write_error NoTextRoom = 25

-- the number of each answer of `write`, 0 where the text is written
abbrev pub number_of_hex_written : Result ℕ WriteError → ℕ
number_of_hex_written (Ok n) = 0
number_of_hex_written (Err error) = number_of_write_error error

-- how many characters were written
abbrev pub characters_of : Result ℕ WriteError → ℕ
characters_of (Ok n) = n
characters_of (Err error) = 0

-- the answer for an image's verdict, its text's length and the room
abbrev pub written_for : Verdict → ℕ → ℕ → Result ℕ WriteError
written_for (Err refusal) n room = Err (BadImage refusal)
written_for (Ok tt) n room = cond (nat_le n room) (Ok n) (Err NoTextRoom)

unfoldable pub hex_written : List ℕ → List ℕ → Result ℕ WriteError
hex_written image text = written_for (image_verdict image) (length (hex_of image)) (length text)

-- the characters then: "no refused call writes, and an output's bytes past the answer stay"
abbrev pub text_after : Result ℕ WriteError → List ℕ → List ℕ → List ℕ
text_after (Ok n) image text = hex_of image ++ drop n text
text_after (Err error) image text = text

-- the length of the text of so many bytes: 44 for each record of 16, then perhaps one of fewer, and the end record
abbrev pub text_length : ℕ → ℕ
text_length n = 44 * (n / 16) + cond (n % 16 == 0) 0 (12 + 2 * (n % 16)) + 12

pub record HexWrites (image before after : List ℕ) (answer : Result ℕ WriteError) : Type 0 where
  pub answered : answer ≡ hex_written image before
  -- "A bad image is not written (1 to 8)"
  pub numbers1to8 : (refusal : Refusal) → (answer ≡ Err (BadImage refusal)) ↔ (image_verdict image ≡ Err refusal)
  -- "An output buffer too short is 25, last"
  pub number25 : (number_of_hex_written answer ≡ 25) ↔ ((image_verdict image ≡ Ok tt) × (length before < text_length (length image)))
  pub number0 : (number_of_hex_written answer ≡ 0) ↔ (answer ≡ Ok (text_length (length image)))
  pub text : after ≡ text_after answer image before
  -- so many characters stand at the front, none of a refused call, and the others stay
  pub count : after ≡ take (characters_of answer) (hex_of image) ++ drop (characters_of answer) before
  -- "Writing and then reading an image returns that image"
  pub back : (n : ℕ) → answer ≡ Ok n → ReadsAs (take n after) image

-- why a text's bytes are not read
abbrev pub number_of_read_error : ReadError → ℕ
number_of_read_error Malformed = 27
number_of_read_error BadChecksum = 28
number_of_read_error BadSpan = 29
number_of_read_error NoByteRoom = 25

-- the number of each answer of `read`, 0 where the bytes are read
abbrev pub number_of_hex_read : Result ℕ ReadError → ℕ
number_of_hex_read (Ok n) = 0
number_of_hex_read (Err error) = number_of_read_error error

-- how many bytes were read
abbrev pub bytes_in : Result ℕ ReadError → ℕ
bytes_in (Ok n) = n
bytes_in (Err error) = 0

-- "Refused, each over the whole text before the next"
unfoldable pub verdict_of : List (List ℕ) → Result ℕ ReadError
verdict_of lines =
    cond (malformed lines) (Err Malformed)
    (cond (bad_checksum lines) (Err BadChecksum)
    (cond (bad_span 0 lines) (Err BadSpan)
    (Ok (length (said_by lines)))))

-- "An output buffer too short is 25, last"
abbrev pub within : ℕ → Result ℕ ReadError → Result ℕ ReadError
within room (Ok n) = cond (nat_le n room) (Ok n) (Err NoByteRoom)
within room (Err error) = Err error

unfoldable pub hex_read : List ℕ → List ℕ → Result ℕ ReadError
hex_read text bytes = within (length bytes) (verdict_of (text_lines text))

-- the bytes then
abbrev pub bytes_after : Result ℕ ReadError → List ℕ → List ℕ → List ℕ
bytes_after (Ok n) text bytes = said_by (text_lines text) ++ drop n bytes
bytes_after (Err error) text bytes = bytes

pub record HexReads (text before after : List ℕ) (answer : Result ℕ ReadError) : Type 0 where
  pub answered : answer ≡ hex_read text before
  pub number27 : (number_of_hex_read answer ≡ 27) ↔ (malformed (text_lines text) ≡ true)
  pub number28 : (number_of_hex_read answer ≡ 28) ↔ ((malformed (text_lines text) ≡ false) × (bad_checksum (text_lines text) ≡ true))
  pub number29 : (number_of_hex_read answer ≡ 29) ↔ ((malformed (text_lines text) ≡ false) × (bad_checksum (text_lines text) ≡ false) × (bad_span 0 (text_lines text) ≡ true))
  pub number25 : (number_of_hex_read answer ≡ 25) ↔ (ReadsAs text (said_by (text_lines text)) × (length before < length (said_by (text_lines text))))
  pub number0 : (number_of_hex_read answer ≡ 0) ↔ (answer ≡ Ok (length (said_by (text_lines text))))
  -- "every text read gives the bytes its records say"
  pub bytes : after ≡ bytes_after answer text before
  -- so many bytes stand at the front, none of a refused call, and the others stay
  pub count : after ≡ take (bytes_in answer) (said_by (text_lines text)) ++ drop (bytes_in answer) before
  pub reads : (n : ℕ) → answer ≡ Ok n → ReadsAs text (take n after)
  -- the canonical text of these bytes is read too, and gives them
  pub canonical : (n : ℕ) → answer ≡ Ok n → ReadsAs (hex_of (take n after)) (take n after)
