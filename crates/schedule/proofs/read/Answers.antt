-- `schedule::read` meets its contract: each way out is one law of what stands at the position. Assumes nothing.
use mathlib.Core.Path.{sym}
use Rattle.schedule.proofs.Answers.{answers}
use Rattle.schedule.proofs.Standing.{reads_end, reads-cut, reads-step, reads-take, reads-enable, reads-unknown, reads-cut-steal, reads-steal}
use Rattle.schedule.proofs.read.Goals as goal

pub returns-then-length-at : goal.returns-then-length-at
returns-then-length-at c = answers _ _ _ (sym (reads_end _ _ c.if-length-at.true))

pub returns-then-left-lt2 : goal.returns-then-left-lt2
returns-then-left-lt2 c = answers _ _ _ (sym (reads-cut _ _ c.if-length-at.false c.if-left-lt2.true))

pub returns-in-1 : goal.returns-in-1
returns-in-1 c = answers _ _ _ (sym (reads-step _ _ c.if-left-lt2.false c.in-1.is))

pub returns-in-2 : goal.returns-in-2
returns-in-2 c = answers _ _ _ (sym (reads-take _ _ c.if-left-lt2.false c.in-2.is))

pub returns-in-3 : goal.returns-in-3
returns-in-3 c = answers _ _ _ (sym (reads-steal _ _ c.if-left-ge3.true c.in-3.is))

pub returns-in-4 : goal.returns-in-4
returns-in-4 c = answers _ _ _ (sym (reads-enable _ _ c.if-left-lt2.false c.in-4.is))

pub returns-in_default : goal.returns-in_default
returns-in_default c = answers _ _ _ (sym (reads-cut-steal _ _ c.if-left-lt2.false c.if-left-ge3.false c.in-3.is))

pub returns-in_default-2 : goal.returns-in_default-2
returns-in_default-2 c =
    let not = c.in_default.in_default-own.rest in
    answers _ _ _ (sym (reads-unknown _ _ c.if-left-lt2.false not.0.0.0.1 not.0.0.1 not.1 not.0.1))
