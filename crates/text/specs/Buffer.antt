-- Text put into a buffer.
use Rattle.std.specs.Prelude.{List, ◌≡◌, ℕ, ◌+◌, ◌≤◌, length}
use Rattle.std.proofs.lemmas.List.Edits.{sets}

-- a text stored byte by byte from a position on, and the position after it; what is past the buffer's end is left out
pub record Put (text before : List ℕ) (at next : ℕ) (after : List ℕ) : Type 0 where
  pub bytes : after ≡ sets before at text
  pub position : next ≡ at + length text

-- a text at the front, of at most so many bytes
pub record Fills (text before : List ℕ) (most next : ℕ) (after : List ℕ) : Type 0 where
  pub put : Put text before 0 next after
  pub few : next ≤ most
