-- `schedule::count` meets its contract. Assumes nothing.
use native.Mathlib.Omega.{arith}
use mathlib.Core.Path.{sym, ◌∙◌, ap}
use Rattle.std.proofs.Common.{Ok}
use Rattle.schedule.proofs.Counting.{starts, goes_on, goes-on-four, stops, spoils, is-malformed, counts, too_long}
use Rattle.schedule.proofs.count.Goals as goal

pub returns-then-schedule-gt-LONGEST : goal.returns-then-schedule-gt-LONGEST
returns-then-schedule-gt-LONGEST c = too_long _ c.if-schedule-gt-LONGEST.true

pub loop-at-init : goal.loop-at-init
loop-at-init c = starts _

pub loop-at-preserved-then-four_steps : goal.loop-at-preserved-then-four_steps
loop-at-preserved-then-four_steps c = goes-on-four _ _ _ c.loop-at.invariant (sym c.four_steps.ensures ∙ c.if-four_steps.true)

pub overflow_add-at : goal.overflow_add-at
overflow_add-at c = omega (arith, (loop-at-preserved-then-four_steps c).within)

pub overflow_add-entries : goal.overflow_add-entries
overflow_add-entries c = omega (arith, (loop-at-preserved-then-four_steps c).few, (loop-at-preserved-then-four_steps c).within)

pub loop-at-smaller-then-four_steps : goal.loop-at-smaller-then-four_steps
loop-at-smaller-then-four_steps c = omega (arith, (loop-at-preserved-then-four_steps c).within)

pub returns-in-None : goal.returns-in-None
returns-in-None c = counts _ _ c.if-schedule-gt-LONGEST.false (stops _ _ _ c.loop-at.invariant (sym c.read.ensures.is ∙ c.in_ok-after.was ∙ ap Ok c.in-None.is))

pub returns-in_err-after : goal.returns-in_err-after
returns-in_err-after c =
    counts _ _ c.if-schedule-gt-LONGEST.false (is-malformed _ c.from_residual.ensures.0 ∙ spoils _ _ _ c.loop-at.invariant (sym c.read.ensures.is ∙ c.in_err-after.was))

pub loop-at-preserved : goal.loop-at-preserved
loop-at-preserved c = goes_on _ _ _ c.loop-at.invariant _ _ (sym c.read.ensures.is ∙ c.in_ok-after.was ∙ ap Ok c.in-Some.is)
