-- What the program writes of a text.
use Rattle.std.specs.Prelude.{List, ℕ}
use Rattle.hex_format.specs.Lines.{text_lines}
use Rattle.hex_format.specs.Reading.{said_by}
use Rattle.intel_hex.specs.Answers.{number_of_hex_read, verdict_of}
use Rattle.hex_output.specs.Output.{output_for}

-- the bytes that its records say, or the line of the number that it is refused by: 27, 28 or 29
unfoldable pub given_by : List ℕ → List ℕ
given_by text = output_for (number_of_hex_read (verdict_of (text_lines text))) (said_by (text_lines text))
