-- The weights of the commands: document 01's table of commands, last column.
use Rattle.std.specs.Prelude.{List, [], ◌∷◌, ℕ, get_or}

-- one weight for each command byte, from 00 (no command) to 0E; "the weights of 08 and 09 are the totals in 000, table 4.4"
-- T-04: "A new command 0E a (weight 1)"
abbrev pub standard_weights : List ℕ
standard_weights = 0 ∷ 1 ∷ 1 ∷ 1 ∷ 2 ∷ 2 ∷ 1 ∷ 1 ∷ 6 ∷ 12 ∷ 1 ∷ 3 ∷ 3 ∷ 1 ∷ 1 ∷ []

-- the weight of a command byte in a table; 0 for a byte that is no command
abbrev pub weight_of : List ℕ → ℕ → ℕ
weight_of weights byte = get_or weights byte 0
