-- `lay_frame` meets its contract: each argument is read before it is written over. Assumes nothing.
use mathlib.Core.Path.{refl, ◌∙◌}
use native.Mathlib.Omega.{arith}
use Rattle.stacklets.specs.Frames.{framed}
use Rattle.stacklets.proofs.Laying.{down-starts, down-more, down-reads, up_more, up-reads}
use Rattle.stacklets.proofs.lay_frame.Goals as goal

pub loop-i-init : goal.loop-i-init
loop-i-init c = down-starts _ _ _ _

pub loop-i-preserved : goal.loop-i-preserved
loop-i-preserved c =
    let laid = c.loop-i.invariant in
    down-more _ _ _ _ _ _ _ _ (omega arith) (omega arith) laid (c.argument-value.ensures ∙ down-reads _ _ _ _ _ _ _ _ laid (omega arith) (omega arith)) c.set_slot.ensures

pub loop-i-else-from-base-init : goal.loop-i-else-from-base-init
unfolding framed
loop-i-else-from-base-init c = refl

pub loop-i-else-from-base-preserved : goal.loop-i-else-from-base-preserved
loop-i-else-from-base-preserved c =
    let laid = c.loop-i-else-from-base.invariant in
    up_more _ _ _ _ _ _ _ laid (c.argument-value-in-loop-i-else-from-base.ensures ∙ up-reads _ _ _ _ _ _ _ laid (omega arith)) c.set_slot-in-loop-i-else-from-base.ensures
