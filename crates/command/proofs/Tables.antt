-- The rule of the two tables indexed by the command byte, widths and weights: computed once over the tables, and read off at each byte. Assumes nothing.
use borrow.Author.Tests.{leb-true, le-leb}
use mathlib.Core.Bool.{Bool, true, false, cond, ◌&&◌, false≢true}
use mathlib.Core.List.{List, [], ◌∷◌}
use mathlib.Core.Path.{◌≡◌, refl}
use Prim.Native.Nat.{ℕ, zero, suc, ◌≤◌}
use lib.Dec.{leb, eqb}
use lib.ListN.{get_or}
use Rattle.command.specs.Command.{widths, width_of}
use Rattle.command.proofs.Bools.{both}
use Rattle.command.specs.Weight.{standard_weights, weight_of}

-- a test of the entries of two tables, row by row, of equally many rows
abbrev rows : (ℕ → ℕ → Bool) → List ℕ → List ℕ → Bool
rows test [] [] = true
rows test [] (y ∷ ys) = false
rows test (x ∷ xs) [] = false
rows test (x ∷ xs) (y ∷ ys) = test x y && rows test xs ys

-- what the test found holds at each index, and past the tables' end where it holds of 0 and 0
row : (test : ℕ → ℕ → Bool) → test 0 0 ≡ true → (xs ys : List ℕ) → rows test xs ys ≡ true → (i : ℕ) → test (get_or xs i 0) (get_or ys i 0) ≡ true
row test none [] [] h i = none
row test none [] (y ∷ ys) h i = absurd (false≢true h)
row test none (x ∷ xs) [] h i = absurd (false≢true h)
row test none (x ∷ xs) (y ∷ ys) h zero = (both (test x y) _ h).0
row test none (x ∷ xs) (y ∷ ys) h (suc i) = row test none xs ys (both (test x y) _ h).1 i

-- a command has at most five bytes and a weight from 1 to 12; a byte that is no command has neither bytes nor weight
abbrev right : ℕ → ℕ → Bool
right width weight = leb width 5 && (leb weight 12 && cond (leb 1 width) (leb 1 weight) (eqb weight 0))

rule : (byte : ℕ) → right (width_of byte) (weight_of standard_weights byte) ≡ true
rule byte = row right refl widths standard_weights refl byte

pub width-most : (byte : ℕ) → width_of byte ≤ 5
width-most byte = leb-true _ _ (both (leb (width_of byte) 5) _ (rule byte)).0

pub weight-most : (byte : ℕ) → weight_of standard_weights byte ≤ 12
weight-most byte =
    leb-true _ _ (both (leb (weight_of standard_weights byte) 12) _ (both (leb (width_of byte) 5) _ (rule byte)).1).0

-- "The weights of 08 and 09 are the totals in 000, table 4.4": 6 and 12
pub weight-lfork : weight_of standard_weights 8 ≡ 6
weight-lfork = refl

pub weight-fork : weight_of standard_weights 9 ≡ 12
weight-fork = refl

-- T-04: "A new command 0E a (weight 1)"
pub weight-share : weight_of standard_weights 14 ≡ 1
weight-share = refl

pub weight-least : (byte : ℕ) → 1 ≤ width_of byte → 1 ≤ weight_of standard_weights byte
weight-least byte some =
    leb-true _ _
    (rw (le-leb 1 (width_of byte) some) at (both (leb (weight_of standard_weights byte) 12) _ (both (leb (width_of byte) 5) _ (rule byte)).1).1)
