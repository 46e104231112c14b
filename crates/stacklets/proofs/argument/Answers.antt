-- `argument` meets its contract: an argument is its word, and past those given there is none. Assumes nothing.
use mathlib.Core.Path.{sym, ◌∙◌}
use Rattle.stacklets.proofs.Words.{arguments-in, arguments-out}
use Rattle.stacklets.proofs.argument.Goals as goal

pub returns-then-i-given : goal.returns-then-i-given
returns-then-i-given c = c.slot.ensures ∙ sym (arguments-in _ _ _ _ c.if-i-given.true)

pub returns-else-i-given : goal.returns-else-i-given
returns-else-i-given c = sym (arguments-out _ _ _ _ c.if-i-given.false)
