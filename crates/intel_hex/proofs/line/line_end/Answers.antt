-- `intel_hex::line::line_end` meets its contract. Assumes nothing.
use Rattle.std.specs.Prelude.{Option, Some, None}
use Rattle.std.proofs.Common.{◌≡◌, ℕ, ◌+◌, Bool, true, false, cond, ◌&&◌, eqb, List, length, get_or, refl, arith, eq-eqb, ne_eqb, eqb-true}
use lib.ListN.{get_or-eq_default}
use Rattle.intel_hex.specs.Found.{end_at}
use Rattle.intel_hex.proofs.line.line_end.Goals as goal
use Rattle.intel_hex.proofs.line.line_end.Goals.{else-text-at-eq13-via-then-text-at-eq13+then-at-text-2+else-text-at-eq10-2, else-text-at-eq13-via-then-text-at-eq13+else-at-text-2, else-text-at-eq13-via-else-text-at-eq13}

pub returns-then-at-text : goal.returns-then-at-text
unfolding end_at
returns-then-at-text c = simp (eq-eqb _ _ c.if-at-text.true)

pub returns-then-text-at-eq10 : goal.returns-then-text-at-eq10
unfolding end_at
returns-then-text-at-eq10 c = simp (ne_eqb _ _ c.if-at-text.false, eq-eqb _ _ c.if-text-at-eq10.true)

pub returns-then-text-at-eq10-2 : goal.returns-then-text-at-eq10-2
unfolding end_at
returns-then-text-at-eq10-2 c = simp (ne_eqb _ _ c.if-at-text.false, ne_eqb _ _ c.if-text-at-eq10.false, eq-eqb _ _ c.if-text-at-eq13.true, eq-eqb _ _ c.if-text-at-eq10-2.true)

-- no line ends there
none : (text : List ℕ) (at : ℕ) → (at ≡ length text → ⊥) → (get_or text at 0 ≡ 10 → ⊥) → (get_or text at 0 ≡ 13 → get_or text (at + 1) 0 ≡ 10 → ⊥) → None ≡ end_at text at
unfolding end_at
none text at p q r = simp (ne_eqb _ _ p, ne_eqb _ _ q) (go (eqb (get_or text at 0) 13) (eqb (get_or text (at + 1) 0) 10) refl refl)
  where
    go : (a b : Bool) → eqb (get_or text at 0) 13 ≡ a → eqb (get_or text (at + 1) 0) 10 ≡ b → ◌≡◌ {A = Option ℕ} None (cond (a && b) (Some 2) None)
    go true true x y = absurd (r (eqb-true _ _ x) (eqb-true _ _ y))
    go true false x y = refl
    go false b x y = refl

pub returns-else-text-at-eq13 : goal.returns-else-text-at-eq13
returns-else-text-at-eq13 c =
    none _ _ c.if-at-text.false c.if-text-at-eq10.false (λ x y. elim c.else-text-at-eq13.branch [
      | else-text-at-eq13-via-then-text-at-eq13+then-at-text-2+else-text-at-eq10-2 w ↦ w.if-text-at-eq10-2.false y
      | else-text-at-eq13-via-then-text-at-eq13+else-at-text-2 w ↦ omega (arith, get_or-eq_default c.args.text.now 0 {n = c.args.at + 1} (omega arith), y)
      | else-text-at-eq13-via-else-text-at-eq13 w ↦ w.if-text-at-eq13.false x
    ])
