-- `reader::steps_after` meets its contract. Both loops' invariant: steps of the core stand from the position to the present one.
-- The measure is what is left of the length. Assumes nothing.
use mathlib.Core.Path.{sym, ◌∙◌}
use native.Mathlib.Omega.{arith}
use Rattle.reader.proofs.Pairs.{step, no_step, steps}
use Rattle.reader.proofs.Rows.{one, one_more, four-more, no_row, whole_row}
use Rattle.reader.proofs.steps_after.Goals as goal

pub returns-then-not-is_step : goal.returns-then-not-is_step
returns-then-not-is_step c = no_row _ _ _ (λ next. no_step _ _ _ c.from_le_bytes-key.ensures (λ i. (c.type_inv.schedule i).fits) _ next (sym c.is_step.ensures ∙ c.if-not-is_step.true))

pub loop-i-init : goal.loop-i-init
loop-i-init c = one _ _ _ (step _ _ _ c.from_le_bytes-key.ensures (λ i. (c.type_inv.schedule i).fits) _ (sym c.is_step.ensures ∙ c.if-not-is_step.false))

pub overflow_add-i : goal.overflow_add-i
overflow_add-i c = omega (arith, (loop-i-init c).within)

pub loop-i-preserved : goal.loop-i-preserved
loop-i-preserved c =
    four-more _ _ _ _ c.loop-i.invariant (steps _ _ _ c.from_le_bytes-key.ensures (λ i. (c.type_inv.schedule i).fits) _ (sym c.are_four.ensures ∙ c.loop-i-test.true))

pub overflow_add-i-in-loop-i : goal.overflow_add-i-in-loop-i
overflow_add-i-in-loop-i c = omega (arith, (loop-i-preserved c).within)

pub loop-i-smaller : goal.loop-i-smaller
loop-i-smaller c = omega (arith, (loop-i-preserved c).within)

pub loop-i-2-init : goal.loop-i-2-init
loop-i-2-init c = c.loop-i.invariant

pub loop-i-2-preserved : goal.loop-i-2-preserved
loop-i-2-preserved c =
    one_more _ _ _ _ _ c.loop-i-2.invariant (step _ _ _ c.from_le_bytes-key.ensures (λ i. (c.type_inv.schedule i).fits) _ (sym c.is_step-in-loop-i-2.ensures ∙ c.loop-i-2-test.true))

pub overflow_add-i-in-loop-i-2 : goal.overflow_add-i-in-loop-i-2
overflow_add-i-in-loop-i-2 c = omega (arith, (loop-i-2-preserved c).within)

pub loop-i-2-smaller : goal.loop-i-2-smaller
loop-i-2-smaller c = omega (arith, (loop-i-2-preserved c).within)

pub overflow_sub-result : goal.overflow_sub-result
overflow_sub-result c = omega (arith, c.loop-i-2.invariant.here)

pub returns : goal.returns
returns c =
    whole_row _ _ _ _ c.loop-i-2.invariant (λ next. no_step _ _ _ c.from_le_bytes-key.ensures (λ i. (c.type_inv.schedule i).fits) _ next (sym c.is_step-in-loop-i-2.ensures ∙ c.loop-i-2-test.false))
