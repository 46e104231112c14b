-- The words from the base up to i are cleared.
use mathlib.Core.Path.{◌≡◌}
use Prim.Native.Nat.{◌-◌}
use Rattle.stacklets.specs.Frames.{wiped}
use Rattle.stacklets.proofs.wipe_frame.Given as goal

abbrev pub invariant-loop-i : goal.invariant-loop-i
invariant-loop-i l = l.words ≡ wiped l.initial.words l.base (l.i - l.start)
