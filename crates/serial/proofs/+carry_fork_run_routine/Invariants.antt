-- The measure is the depth that is left, twice, and one more for the routine. The routine's loop keeps that every run
-- that had come to its start has come to where it stands, and its measure is what is left of the allowance.
use Prim.Native.Nat.{◌≤◌, ◌+◌, ◌-◌}
use mathlib.Core.Path.{◌≡◌}
use Rattle.thread.specs.Job.{job_of}
use Rattle.serial.specs.Serial.{started_on}
use Rattle.serial.specs.Steps.{Come, Far, open_in}
use Rattle.serial.proofs.+carry_fork_run_routine.Given as goal

abbrev pub decreases-carry_fork : goal.decreases-carry_fork
decreases-carry_fork l = l.depth + l.depth

abbrev pub decreases-run_routine : goal.decreases-run_routine
decreases-run_routine l = l.depth + l.depth + 1

abbrev pub invariant-run_routine-loop-row : goal.invariant-run_routine-loop-row
invariant-run_routine-loop-row l =
    (l.at.routine ≡ l.routine) × ((x : Come l.image l.starts l.parameters (33 - l.depth) (started_on l.routine l.arguments l.fn.start) l.fn.memory l.most)
    → (l.at.left ≤ l.most) × Far (job_of l.image l.starts l.parameters x.allowance) (33 - l.depth) x.whole (open_in l.at l.slots) l.memory l.at.left)

abbrev pub decreases-run_routine-loop-row : goal.decreases-run_routine-loop-row
decreases-run_routine-loop-row l = l.at.left
