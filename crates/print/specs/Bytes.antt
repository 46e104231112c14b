-- What can be read.
use Rattle.std.specs.Prelude.{List, ℕ, ◌<◌, slice_index}

-- a reader gives bytes
abbrev pub AreBytes : List ℕ → Type 0
AreBytes s = (k : ℕ) → slice_index s k < 256
