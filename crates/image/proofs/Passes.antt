-- A routine's verdict from what the pass over its code found, and the marks. Assumes nothing.
use borrow.Author.Tests.{eqb-true}
use mathlib.Core.Bool.{Bool, true, false}
use mathlib.Core.List.{List}
use mathlib.Core.Path.{◌≡◌, refl, sym, ◌∙◌}
use Prim.Native.Nat.{ℕ}
use native.Mathlib.Omega.{arith}
use lib.ListN.{length, get_or}
use Rattle.std.specs.Prelude.{Ok, Err}
use Rattle.command.specs.declared.Command.{Command}
use Rattle.image.specs.declared.Refusal.{Refusal}
use Rattle.image.specs.declared.Refusal.TheVariants.{BadEnd, BadTarget}
use Rattle.image.specs.Code.{commands_of, verdict_from, last_ends, is_start, targets_good, routine_verdict}
use Rattle.image.specs.Marks.{marked, may_end, Left, Met, WalkPassed}
use Rattle.image.proofs.Asking.{never}

-- a command is refused
pub refused-first : (ok : Command → Bool) (code : List ℕ) (n : Refusal) → verdict_from ok code (length code) 0 ≡ Err n → Err n ≡ routine_verdict ok code
unfolding routine_verdict
refused-first ok code n e = rw e

module _ (ok : Command → Bool) (code marks : List ℕ) (byte : ℕ) (inside : Bool) (w : WalkPassed ok code marks byte inside) where
  last : (b : Bool) → may_end byte ≡ b → last_ends false (commands_of code) ≡ b
  last b h = sym w.end ∙ h

  pub bad-end : may_end byte ≡ false → Err BadEnd ≡ routine_verdict ok code
  unfolding routine_verdict
  bad-end h = rw (w.by, last false h)

  -- the targets are all good where each is inside and was met
  targets : inside ≡ true → Met marks true → targets_good (is_start (commands_of code)) (commands_of code) ≡ true
  targets i m = w.back i (λ t two. absurd (m.all refl t two))

  -- a target that was not met is no start
  unmet : Left marks → targets_good (is_start (commands_of code)) (commands_of code) ≡ true → ⊥
  unfolding marked
  unmet l g =
      let s : marked marks l.byte ≡ true = w.starts l.byte ∙ (w.put g).1 l.byte l.asked in
      let one : get_or marks l.byte 0 ≡ 1 = eqb-true (get_or marks l.byte 0) 1 s in
      omega (arith, l.asked)

  fails : (targets_good (is_start (commands_of code)) (commands_of code) ≡ true → ⊥) → targets_good (is_start (commands_of code)) (commands_of code) ≡ false
  fails n = go (targets_good (is_start (commands_of code)) (commands_of code)) refl
    where
      go : (b : Bool) → targets_good (is_start (commands_of code)) (commands_of code) ≡ b → targets_good (is_start (commands_of code)) (commands_of code) ≡ false
      go true h = absurd (n h)
      go false h = h

  module _ (h : may_end byte ≡ true) where
    pub bad-target : (targets_good (is_start (commands_of code)) (commands_of code) ≡ true → ⊥) → Err BadTarget ≡ routine_verdict ok code
    unfolding routine_verdict
    bad-target n = rw (w.by, last true h, fails n)

    pub outside : inside ≡ false → Err BadTarget ≡ routine_verdict ok code
    outside i = bad-target (λ g. never (sym i ∙ (w.put g).0))

    pub left_over : (met : Bool) → Met marks met → met ≡ false → Err BadTarget ≡ routine_verdict ok code
    left_over met m n = bad-target (unmet (m.left n))

    pub good : inside ≡ true → (met : Bool) → Met marks met → met ≡ true → Ok tt ≡ routine_verdict ok code
    unfolding routine_verdict
    good i met m y = rw (w.by, last true h, targets i (rw y at m))
