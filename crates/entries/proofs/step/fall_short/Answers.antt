use Rattle.std.proofs.Common.{ap, ◌∙◌}
use Rattle.rules.specs.Update.{accepted}
use Rattle.entries.proofs.step.fall_short.Goals as goal

pub returns-then-waits : goal.returns-then-waits
returns-then-waits c = λ words memory. ap accepted (c.leave.ensures.means c.requires.sized words memory) ∙ rw c.if-waits.true

pub returns : goal.returns
returns c = λ words memory. rw c.if-waits.false
