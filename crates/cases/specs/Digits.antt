-- Digits of the cases' numbers and bytes: `0` to `9`, and in base 16 also `a` to `f`, no capitals.
use Rattle.std.specs.Prelude.{ℕ, ◌-◌, ◌&&◌, cond, leb, eqb, Option, Some, None}

-- a letter's number, where it is a digit of the base
unfoldable pub digit_value : ℕ → ℕ → Option ℕ
digit_value letter base =
    cond (leb 48 letter && leb letter 57) (Some (letter - 48))
    (cond (eqb base 16 && (leb 97 letter && leb letter 102)) (Some (letter - 87)) None)
