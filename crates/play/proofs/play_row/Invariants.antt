-- `play::play_row` meets its contract. The invariant: what is no longer left of the row was met. The measure is what is left. Assumes nothing.
use Rattle.play.specs.Rows.{RowPlayed}
use Rattle.schedule.specs.declared.Entry.TheVariants.{Step}
use Rattle.tables.specs.Meaning.{meaning}
use Rattle.rules.specs.State.{job_of}
use lib.ListN.{length}
use Prim.Native.Nat.{◌+◌, ◌-◌, ◌≤◌}
use mathlib.Core.Path.{◌≡◌}
use Rattle.play.proofs.play_row.Given as goal

abbrev pub invariant-loop-many : goal.invariant-loop-many
invariant-loop-many l =
    (length l.log ≡ length l.initial.log) × (length l.tables ≡ length l.initial.tables) × (length l.words ≡ length l.initial.words) × (length l.memory ≡ length l.initial.memory) × (l.many ≤ l.row)
    × (l.number ≡ l.first + (l.row - l.many))
    × RowPlayed (job_of l.job.image.now l.job.starts.now l.job.parameters.now l.job.allowance) (meaning l.initial.tables l.initial.words l.initial.memory) (Step l.c) (l.row - l.many) l.initial.log l.first (meaning l.tables l.words l.memory) l.log

abbrev pub decreases-loop-many : goal.decreases-loop-many
decreases-loop-many l = l.many
