-- The run that the print program's input asks for.
use Rattle.std.specs.Prelude.{List, ℕ, take, drop, replicate}
use Rattle.demands.specs.Input.{Input, input_of}
use Rattle.reading.specs.Reading.{pair_at, four_bytes_at, words_from, core_count, argument_count, allowance_at, length_at, image_at}

-- "words start zero"
abbrev pub starting_with : List ℕ → ℕ → List ℕ → ℕ → Input
starting_with image cores arguments allowance = input_of image cores arguments (replicate 32 0) (replicate 992 0) allowance

-- what the run is given
abbrev pub input_in : List ℕ → Input
input_in s = starting_with (take (pair_at s (length_at s)) (drop (image_at s) s)) (core_count s) (words_from s 2 (argument_count s)) (four_bytes_at s (allowance_at s))
