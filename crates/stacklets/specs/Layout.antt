-- How frames lie among the words: what a sound state says of them.
use Rattle.std.specs.Prelude.{List, ◌⊎◌, ℕ, ◌+◌, ◌/◌, ◌%◌, ◌≤◌, take, drop}
use Rattle.stacklets.specs.Tops.{top_at}

-- two frames, each a base and a size, that do not overlap
abbrev pub Apart : ℕ → ℕ → ℕ → ℕ → Type 0
Apart base size base' size' = (base + size ≤ base') ⊎ (base' + size' ≤ base)

-- a frame that lies below its stacklet's top
abbrev pub Under : List ℕ → ℕ → ℕ → Type 0
Under tops base size = base % 64 + size ≤ top_at tops (base / 64)

-- the words of a frame
abbrev pub frame_at : List ℕ → ℕ → ℕ → List ℕ
frame_at words base size = take size (drop base words)
