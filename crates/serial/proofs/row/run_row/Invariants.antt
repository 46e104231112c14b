-- `serial::row::run_row` meets its contract. The loop's invariant: every run that had come to the row's place has come to where the row stands
-- now, and the place is as it was. The measure is what is left of the allowance. Assumes nothing.
use Prim.Native.Nat.{◌≤◌}
use mathlib.Core.Path.{◌≡◌}
use Rattle.thread.specs.Job.{job_of}
use Rattle.serial.specs.Steps.{open_at, Far, RowReady}
use Rattle.serial.proofs.row.run_row.Given as goal

abbrev pub invariant-loop-left : goal.invariant-loop-left
invariant-loop-left l =
    (l.at ≡ l.initial.at) × ((x : RowReady l.image l.parameters l.code l.initial.at l.initial.slots l.initial.memory)
    → (l.left ≤ l.initial.at.left) × Far (job_of l.image x.starts l.parameters x.come.allowance) x.depth x.come.whole (open_at l.initial.at.routine l.position l.initial.at.pending l.initial.at.window l.slots) l.memory l.left)

abbrev pub decreases-loop-left : goal.decreases-loop-left
decreases-loop-left l = l.left
