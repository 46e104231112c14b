-- What is fetched of an image at a routine's position, and what it weighs. Assumes nothing.
use mathlib.Core.Bool.{Bool, cond, ◌&&◌}
use mathlib.Core.List.{List}
use Prim.Native.Nat.{ℕ, ◌+◌}
use lib.Dec.{ltb}
use lib.ListN.{get_or}
use Rattle.command.specs.declared.Command.{Command}
use Rattle.command.specs.declared.Command.TheVariants.{Join}
use Rattle.command.specs.Command.{decoded_at}
use Rattle.command.specs.Weight.{weight_of}
use Rattle.image.specs.Layout.{routine_count, start_of, code_of}
use Rattle.image.specs.Code.{commands_of, is_start}

-- does a command of routine r start at position p?
abbrev pub is_command : List ℕ → ℕ → ℕ → Bool
is_command image r p = ltb r (routine_count image) && is_start (commands_of (code_of image r)) p

-- its first byte
abbrev pub first_byte : List ℕ → ℕ → ℕ → ℕ
first_byte image r p = get_or image (start_of image r + p) 0

unfoldable pub fetch_of : List ℕ → ℕ → ℕ → Command
fetch_of image r p = cond (is_command image r p) (decoded_at image (start_of image r + p)) Join

unfoldable pub weight_at : List ℕ → List ℕ → ℕ → ℕ → ℕ
weight_at image weights r p = cond (is_command image r p) (weight_of weights (first_byte image r p)) 1
