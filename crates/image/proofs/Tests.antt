-- One command's tests, by its first byte, and what they say of the command and of the code behind it. Assumes nothing.
use borrow.Author.Tests.{lt-leb, le-ltb, ne_eqb}
use mathlib.Core.Bool.{Bool, true, false, cond}
use mathlib.Core.List.{List, [], ◌∷◌}
use mathlib.Core.Path.{◌≡◌, refl, ◌∙◌}
use Prim.Native.Nat.{ℕ, zero, suc, ◌+◌, ◌-◌, ◌≤◌, ◌<◌}
use native.Mathlib.Omega.{arith}
use lib.Dec.{ltb}
use lib.ListN.{length, get_or, take, drop}
use Rattle.std.specs.Prelude.{Result, Ok, Err}
use Rattle.command.specs.declared.Command.{Command}
use Rattle.command.specs.declared.CommandError.{CommandError}
use Rattle.command.specs.declared.CommandError.TheVariants.{Unknown, CutOff}
use Rattle.command.specs.Command.{command_at, decoded, decoded_at, width_of}
use Rattle.command.proofs.RoundTrip.{taken, stands}
use Rattle.image.specs.declared.Refusal.{Refusal}
use Rattle.image.specs.declared.Refusal.TheVariants.{UnknownByte, OperandsCutOff, OutOfRange}
use Rattle.image.specs.Code.{verdict_from, read_verdict}
use Rattle.image.specs.Step.{operand, tested_as, whole_as, ranged_as}

-- the command at a position has n bytes and is in range
abbrev pub Passing : (Command → Bool) → List ℕ → ℕ → ℕ → Type 0
Passing ok code at n = (command_at code at ≡ Ok (decoded_at code at, n)) × (ok (decoded_at code at) ≡ true)

-- the first operands of a command that is whole
pub operands-are : (code : List ℕ) (at n : ℕ) → n ≤ 3 → at + 1 + n ≤ length code
    → take n (drop (at + 1) code) ≡ take n (operand code at 1 ∷ operand code at 2 ∷ operand code at 3 ∷ [])
operands-are code at zero most room = refl
operands-are code at (suc zero) most room = taken code (at + 1) 1 room
operands-are code at (suc (suc zero)) most room =
    let two : suc (at + 1) ≡ at + 2 = omega arith in
    taken code (at + 1) 2 room ∙ rw two
operands-are code at (suc (suc (suc zero))) most room =
    let two : suc (at + 1) ≡ at + 2 = omega arith in
    let three : suc (at + 2) ≡ at + 3 = omega arith in
    taken code (at + 1) 3 room ∙ rw (two, three)
operands-are code at (suc (suc (suc (suc n)))) most room = absurd (omega arith)

module _ (ok : Command → Bool) (code : List ℕ) (at : ℕ) (h : at < length code) where
  -- the first byte is a command's
  pub known : (byte w : ℕ) → get_or code at 0 ≡ byte → width_of byte ≡ suc w
      → whole_as code at (suc w) (ok (decoded byte (operand code at 1) (operand code at 2) (operand code at 3) (operand code at 4)))
      ≡ tested_as ok (command_at code at)
  unfolding command_at
  known byte w e f = simp (e, f, lt-leb (length code) at h, ne_eqb (suc w) 0 (λ z. omega arith)) (go (ltb (length code - at) (suc w)))
    where
      go : (short : Bool)
          → cond short (Err OperandsCutOff) (ranged_as (ok (decoded byte (operand code at 1) (operand code at 2) (operand code at 3) (operand code at 4))) (suc w))
          ≡ tested_as ok (cond short (Err CutOff) (Ok (decoded byte (operand code at 1) (operand code at 2) (operand code at 3) (operand code at 4), suc w)))
      go true = refl
      go false = refl

  -- the first byte is all of it
  pub alone : (byte : ℕ) → get_or code at 0 ≡ byte → width_of byte ≡ 1
      → ok (decoded byte (operand code at 1) (operand code at 2) (operand code at 3) (operand code at 4)) ≡ true
      → Ok 1 ≡ tested_as ok (command_at code at)
  alone byte e f g = rw (le-ltb (length code - at) 1 (omega arith), g) at (known byte 0 e f)

  pub unknown : width_of (get_or code at 0) ≡ 0 → Err UnknownByte ≡ tested_as ok (command_at code at)
  unfolding command_at
  unknown e = simp (e, lt-leb (length code) at h)

  -- a command that passes stands there, in range
  pub passes : (n : ℕ) → tested_as ok (command_at code at) ≡ Ok n → Passing ok code at n
  passes n e = go (command_at code at) refl e
    where
      go : (r : Result (Command × ℕ) CommandError) → command_at code at ≡ r → tested_as ok r ≡ Ok n → Passing ok code at n
      go (Ok (c, m)) is f = ranged (ok c) refl f
        where
          ranged : (b : Bool) → ok c ≡ b → ranged_as b m ≡ Ok n → Passing ok code at n
          ranged true fine g =
              let i : c ≡ decoded_at code at = (stands code at c m is).is in
              let w : m ≡ n = cc in
              (is ∙ rw (i, w), rw i at fine)
          ranged false fine g = let z : ◌≡◌ {A = ℕ} 0 1 = cc in absurd (omega arith)
      go (Err Unknown) is f = let z : ◌≡◌ {A = ℕ} 0 1 = cc in absurd (omega arith)
      go (Err CutOff) is f = let z : ◌≡◌ {A = ℕ} 0 1 = cc in absurd (omega arith)

  -- a command that fails refuses the code from there on
  pub fails : (x : Refusal) → tested_as ok (command_at code at) ≡ Err x → (left : ℕ) → verdict_from ok code (suc left) at ≡ Err x
  unfolding verdict_from
  fails x e left = rw (lt-leb (length code) at h) (go (command_at code at) e)
    where
      go : (r : Result (Command × ℕ) CommandError) → tested_as ok r ≡ Err x
          → read_verdict r (λ c n. cond (ok c) (verdict_from ok code left (at + n)) (Err OutOfRange)) ≡ Err x
      go (Ok (c, n)) f = ranged (ok c) f
        where
          ranged : (b : Bool) → ranged_as b n ≡ Err x → cond b (verdict_from ok code left (at + n)) (Err OutOfRange) ≡ Err x
          ranged true g = let z : ◌≡◌ {A = ℕ} 0 1 = cc in absurd (omega arith)
          ranged false g = cc
      go (Err Unknown) f = cc
      go (Err CutOff) f = cc
