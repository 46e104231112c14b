-- The first i words of the frame are laid.
use mathlib.Core.Path.{◌≡◌}
use Rattle.stacklets.specs.Frames.{framed}
use Rattle.stacklets.proofs.lay_arguments.Given as goal

abbrev pub invariant-loop-i : goal.invariant-loop-i
invariant-loop-i l = l.words ≡ framed l.initial.words l.base l.i l.arguments
