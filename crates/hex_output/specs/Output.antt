-- What the programs write: the text, or the bytes, or one line `refused N`.
use Rattle.std.specs.Prelude.{List, ◌++◌, ◌≡◌, ℕ, zero, suc, ◌≤◌, length}
use Rattle.text.specs.Text.{ascii, spaced}
use Rattle.text.specs.Buffer.{Put}
use Rattle.hex_format.specs.Text.{hex_of}
use Rattle.hex_format.specs.Lines.{text_lines}
use Rattle.hex_format.specs.Reading.{said_by}
use Rattle.intel_hex.specs.Answers.{number_of_hex_written, hex_written, number_of_hex_read, hex_read}

-- "or alone `refused` number", as the print program says it
abbrev pub refused_line : ℕ → List ℕ
refused_line number = ascii "refused" ++ spaced number ++ ascii "\n"

-- what an accepted call gives, or the line of a refused one, by the call's number
abbrev pub output_for : ℕ → List ℕ → List ℕ
output_for zero given = given
output_for (suc n) given = refused_line (suc n)

-- the text of an image, or "A bad image is not written (1 to 8)"; "An output buffer too short is 25, last"
abbrev pub write_output : List ℕ → List ℕ → List ℕ
write_output image output = output_for (number_of_hex_written (hex_written image output)) (hex_of image)

-- the bytes that a text's records say, or the number that it is refused by: 27, 28, 29, and 25, last
abbrev pub read_output : List ℕ → List ℕ → List ℕ
read_output text output = output_for (number_of_hex_read (hex_read text output)) (said_by (text_lines text))

-- what `write_output` gives. The longest image has 4,096 bytes, and its text 256 lines of 44 characters and one of 12.
pub record WritesOutput (image before after : List ℕ) (count : ℕ) : Type 0 where
  -- at the front of the output, which stays past it; only a refusal's line can be longer than the output, and what does not fit is left out
  pub put : Put (write_output image before) before 0 count after
  pub most : count ≤ 11276
  -- an output with room for the longest text never meets 25
  pub room : 11276 ≤ length before → number_of_hex_written (hex_written image before) ≡ 25 → ⊥

-- what `read_output` gives. The last address is FFFF, so a text gives at most 65,536 bytes.
pub record ReadsOutput (text before after : List ℕ) (count : ℕ) : Type 0 where
  pub put : Put (read_output text before) before 0 count after
  pub most : count ≤ 65536
  pub room : 65536 ≤ length before → number_of_hex_read (hex_read text before) ≡ 25 → ⊥
