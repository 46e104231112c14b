-- `schedule::count` meets its contract. The loop's invariant: the entries counted and those left count as the whole schedule does.
-- The measure is what is left of the length. Assumes nothing.
use Prim.Native.Nat.{◌-◌}
use lib.ListN.{length}
use Rattle.schedule.proofs.Counting.{Sofar}
use Rattle.schedule.proofs.count.Given as goal

abbrev pub invariant-loop-at : goal.invariant-loop-at
invariant-loop-at l = Sofar l.schedule l.at l.entries

abbrev pub decreases-loop-at : goal.decreases-loop-at
decreases-loop-at l = length l.schedule - l.at
