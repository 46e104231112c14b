-- `census::count` meets its contract. Assumes nothing.
use mathlib.Core.Path.{refl, ◌∙◌}
use native.Mathlib.Omega.{arith}
use Rattle.census.proofs.Counting.{kept, few, none, whole}
use Rattle.census.proofs.count.Goals as goal

pub loop-cells-init : goal.loop-cells-init
loop-cells-init c =
    rw (c.into_iter-cells-iterator.ensures.into_iter_gives, c.chunks_exact-cells-items.ensures.size, c.chunks_exact-cells-items.ensures.rest) (refl, none _)

pub overflow_add-counts : goal.overflow_add-counts
overflow_add-counts c = omega (arith, few _ c.loop-cells.counts c.loop-cells.invariant _ _ c.in-Some.ensures.steps.0 c.in-Some.ensures.steps.1.0 c.in-Some.ensures.steps.1.1 c.read_record.result c.read_record.ensures.0 _ (c.from.ensures ∙ c.number.ensures))

pub loop-cells-preserved : goal.loop-cells-preserved
loop-cells-preserved c = kept _ c.loop-cells.counts c.loop-cells.invariant _ _ c.in-Some.ensures.steps.0 c.in-Some.ensures.steps.1.0 c.in-Some.ensures.steps.1.1 c.read_record.result c.read_record.ensures.0 _ (c.from.ensures ∙ c.number.ensures)

pub returns : goal.returns
returns c = whole _ _ _ (omega (arith, c.in-None.ensures.steps, c.loop-cells.invariant.0)) c.loop-cells.invariant.1
