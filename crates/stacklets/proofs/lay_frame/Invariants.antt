-- The first i words of the frame are laid, or those from i on.
use mathlib.Core.Path.{◌≡◌}
use Rattle.stacklets.specs.Frames.{arguments_at, framed}
use Rattle.stacklets.proofs.Laying.{Above}
use Rattle.stacklets.proofs.lay_frame.Given as goal

abbrev pub invariant-loop-i : goal.invariant-loop-i
invariant-loop-i l = Above l.initial.words l.base l.size (arguments_at l.initial.words l.from l.given) l.i l.words

abbrev pub invariant-loop-i-else-from-base : goal.invariant-loop-i-else-from-base
invariant-loop-i-else-from-base l = l.words ≡ framed l.initial.words l.base l.i (arguments_at l.initial.words l.from l.given)
