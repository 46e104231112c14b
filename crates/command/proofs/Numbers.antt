-- The numbers that reading one command meets, each exactly under its condition. Assumes nothing.
use borrow.Author.Tests.{le-leb, lt-leb, eq-eqb, ne_eqb, lt-ltb, le-ltb}
use mathlib.Core.List.{List}
use mathlib.Core.Logic.{◌↔◌, ◌⊎◌, inl, inr, ⊎_elim}
use mathlib.Core.Path.{◌≡◌, refl, ap}
use Prim.Native.Nat.{ℕ, ◌+◌, ◌-◌, ◌≤◌, ◌<◌}
use native.Mathlib.Decide.{dec_le, dec_lt}
use native.Mathlib.Omega.{arith}
use lib.ListN.{length, get_or}
use Rattle.command.specs.declared.Command.{Command}
use Rattle.std.specs.Prelude.{Result, Ok, Err}
use Rattle.command.specs.declared.CommandError.{CommandError}
use Rattle.command.specs.declared.CommandError.TheVariants.{Unknown, CutOff}
use Rattle.command.specs.Command.{command_at, decoded_at, width_of, number_of_command_read}

-- what a command's reading meets, seen with the reason
pub data Read (s : List ℕ) (at : ℕ) : Result (Command × ℕ) CommandError → Type 0 where
  no_byte : length s ≤ at → Read s at (Err CutOff)
  unknown : at < length s → width_of (get_or s at 0) ≡ 0 → Read s at (Err Unknown)
  cut : at < length s → 1 ≤ width_of (get_or s at 0) → length s < at + width_of (get_or s at 0) → Read s at (Err CutOff)
  whole : 1 ≤ width_of (get_or s at 0) → at + width_of (get_or s at 0) ≤ length s → Read s at (Ok (decoded_at s at, width_of (get_or s at 0)))

pub read : (s : List ℕ) (at : ℕ) → Read s at (command_at s at)
unfolding command_at
read s at = go (dec_le (length s) at) (dec_le 1 (width_of (get_or s at 0))) (dec_lt (length s) (at + width_of (get_or s at 0)))
  where
    go : Dec (length s ≤ at) → Dec (1 ≤ width_of (get_or s at 0)) → Dec (length s < at + width_of (get_or s at 0)) → Read s at (command_at s at)
    go (yes x) _ _ = rw (le-leb _ _ x) (no_byte x)
    go (no x) (no y) _ =
        let none : width_of (get_or s at 0) ≡ 0 = omega arith in
        rw (lt-leb (length s) at (omega arith), eq-eqb _ _ none) (unknown (omega arith) none)
    go (no x) (yes y) (yes z) =
        rw (lt-leb (length s) at (omega arith), ne_eqb (width_of (get_or s at 0)) 0 (λ e. omega arith), lt-ltb (length s - at) (width_of (get_or s at 0)) (omega arith))
        (cut (omega arith) y z)
    go (no x) (yes y) (no z) =
        rw (lt-leb (length s) at (omega arith), ne_eqb (width_of (get_or s at 0)) 0 (λ e. omega arith), le-ltb (length s - at) (width_of (get_or s at 0)) (omega arith))
        (whole y (omega arith))

module _ (s : List ℕ) (at : ℕ) where
  pub read-4 : {answer : Result (Command × ℕ) CommandError} → Read s at answer → (number_of_command_read answer ≡ 4) ↔ ((at < length s) × (width_of (get_or s at 0) ≡ 0))
  read-4 (no_byte h) = (λ e. absurd (omega arith), λ c. absurd (omega (arith, c.0)))
  read-4 (unknown h w) = (λ e. (h, w), λ c. refl)
  read-4 (cut h w l) = (λ e. absurd (omega arith), λ c. absurd (omega (arith, c.1)))
  read-4 (whole w l) = (λ e. absurd (omega arith), λ c. absurd (omega (arith, c.1)))

  pub read-5 : {answer : Result (Command × ℕ) CommandError} → Read s at answer
      → (number_of_command_read answer ≡ 5) ↔ ((length s ≤ at) ⊎ ((1 ≤ width_of (get_or s at 0)) × (length s < at + width_of (get_or s at 0))))
  read-5 (no_byte h) = (λ e. inl h, λ c. refl)
  read-5 (unknown h w) = (λ e. absurd (omega arith), λ c. absurd (⊎_elim (λ (x : length s ≤ at). omega arith) (λ x. omega (arith, x.0)) c))
  read-5 (cut h w l) = (λ e. inr (w, l), λ c. refl)
  read-5 (whole w l) = (λ e. absurd (omega arith), λ c. absurd (⊎_elim (λ (x : length s ≤ at). omega arith) (λ x. omega (arith, x.1)) c))

  pub read-0 : {answer : Result (Command × ℕ) CommandError} → Read s at answer → (number_of_command_read answer ≡ 0) ↔ (answer ≡ Ok (decoded_at s at, width_of (get_or s at 0)))
  read-0 (no_byte h) = (λ e. absurd (omega arith), ap number_of_command_read)
  read-0 (unknown h w) = (λ e. absurd (omega arith), ap number_of_command_read)
  read-0 (cut h w l) = (λ e. absurd (omega arith), ap number_of_command_read)
  read-0 (whole w l) = (λ e. refl, λ c. refl)
