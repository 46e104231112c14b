-- Four steps that stand one after another, told by their bytes.
use Rattle.std.specs.Prelude.{List, Bool, ◌&&◌, ℕ, ◌+◌, length, get_or, leb, eqb}

-- whether four steps, "01 c", stand at a position: eight bytes are left, and 01 is the first of each two
unfoldable pub four_steps : List ℕ → ℕ → Bool
four_steps s at =
    leb (at + 8) (length s)
    && (eqb (get_or s at 0) 1
    && (eqb (get_or s (at + 2) 0) 1
    && (eqb (get_or s (at + 4) 0) 1
    && eqb (get_or s (at + 6) 0) 1)))
