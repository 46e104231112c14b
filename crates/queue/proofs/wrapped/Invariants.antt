-- `queue::wrapped` meets its contract: taking 32 off keeps the remainder, and a number below 32 is its own. Assumes nothing.
use mathlib.Core.Path.{◌≡◌}
use Prim.Native.Nat.{◌%◌}
use Rattle.queue.proofs.wrapped.Given as goal

abbrev pub invariant-loop-place : goal.invariant-loop-place
invariant-loop-place l = l.place % 32 ≡ l.i % 32

abbrev pub decreases-loop-place : goal.decreases-loop-place
decreases-loop-place l = l.place
