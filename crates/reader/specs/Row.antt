-- A row: steps of one core that stand one after another.
use Rattle.std.specs.Prelude.{List, Bool, ◌&&◌, ◌≡◌, ℕ, ◌+◌, ◌*◌, ◌<◌, length, get_or, leb, eqb}
use Rattle.schedule.specs.declared.Entry.TheVariants.{Step}
use Rattle.schedule.specs.Format.{entry_at}
use Rattle.std.specs.Prelude.{Some, Ok}

-- the number of the bytes at two positions, the low one first
abbrev pub key_at : List ℕ → ℕ → ℕ → ℕ
key_at s lo hi = get_or s lo 0 + 256 * get_or s hi 0

-- whether two bytes with the number key stand at a position
unfoldable pub is_pair : List ℕ → ℕ → ℕ → Bool
is_pair s at key = leb (at + 2) (length s) && eqb (key_at s at (at + 1)) key

-- whether eight bytes do that are four such pairs
unfoldable pub are_four : List ℕ → ℕ → ℕ → Bool
are_four s at key =
    leb (at + 8) (length s)
    && (eqb (key_at s at (at + 1)) key
    && (eqb (key_at s (at + 2) (at + 3)) key
    && (eqb (key_at s (at + 4) (at + 5)) key
    && eqb (key_at s (at + 6) (at + 7)) key)))

-- r steps of core c stand from a position on, and no further one
pub record StepsRow (schedule : List ℕ) (at c r : ℕ) : Type 0 where
  pub each : (i : ℕ) → i < r → entry_at schedule (at + 2 * i) ≡ Ok (Some (Step c, at + 2 * i + 2))
  pub ends : (next : ℕ) → entry_at schedule (at + 2 * r) ≡ Ok (Some (Step c, next)) → ⊥
