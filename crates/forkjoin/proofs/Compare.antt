-- A comparison as a boolean, with what it tells: match on `compared a b` in place of `leb a b` to learn the fact. The serial run tests
-- its allowance by such a comparison.
use mathlib.Core.Path.{◌≡◌, refl}
use mathlib.Core.Bool.{Bool, false, true}
use Prim.Native.Nat.{◌<◌, ◌≤◌, ℕ}
use lib.Dec.{leb}
use borrow.Author.Tests.{leb-false, leb-true}

pub data Compared (a b : ℕ) : Bool → Type 0 where
  at_most : a ≤ b → Compared a b true
  past : b < a → Compared a b false

pub compared : (a b : ℕ) → Compared a b (leb a b)
compared a b = go (leb a b) refl
  where
    go : (t : Bool) → leb a b ≡ t → Compared a b t
    go true e = at_most (leb-true a b e)
    go false e = past (leb-false a b e)
