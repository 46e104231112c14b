-- The answers of writing and reading as two words of an array.
use Rattle.std.specs.Prelude.{List, [], ◌∷◌, ℕ, Result, Ok, Err}
use Rattle.intel_hex.specs.declared.WriteError.{WriteError}
use Rattle.intel_hex.specs.declared.ReadError.{ReadError}
use Rattle.intel_hex.specs.Answers.{number_of_write_error, number_of_read_error}

-- 1 and a count; or, of a refused call, 0 and the number
abbrev pub words_of : Result ℕ ℕ → List ℕ
words_of (Ok n) = 1 ∷ n ∷ []
words_of (Err number) = 0 ∷ number ∷ []

-- 1 and the number of characters where the text is written
abbrev pub written_words : Result ℕ WriteError → List ℕ
written_words (Ok n) = words_of (Ok n)
written_words (Err error) = words_of (Err (number_of_write_error error))

-- 1 and the number of bytes where they are read
abbrev pub read_words : Result ℕ ReadError → List ℕ
read_words (Ok n) = words_of (Ok n)
read_words (Err error) = words_of (Err (number_of_read_error error))
