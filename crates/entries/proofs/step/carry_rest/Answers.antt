use Rattle.std.proofs.Common.{ap, ◌∙◌}
use Rattle.rules.specs.Update.{accepted}
use Rattle.entries.proofs.step.carry_rest.Goals as goal

pub returns-then-waits : goal.returns-then-waits
returns-then-waits c = λ starts parameters memory allowance. ap accepted (c.leave.ensures.means c.requires.0.sized c.args.words.now memory) ∙ rw c.if-waits.true

pub returns : goal.returns
returns c = λ starts parameters memory allowance. c.carry_other.ensures starts parameters memory allowance ∙ rw c.if-waits.false
