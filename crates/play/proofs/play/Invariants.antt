-- `play::play` meets its contract. The invariant: what is left of the schedule gives what the whole gives. Assumes nothing.
use mathlib.Core.Path.{◌≡◌}
use Prim.Native.Nat.{◌-◌}
use lib.ListN.{length}
use Rattle.rules.specs.State.{job_of}
use Rattle.tables.specs.Meaning.{meaning}
use Rattle.play.proofs.Playing.{Left}
use Rattle.play.proofs.play.Given as goal

abbrev pub invariant-loop-number : goal.invariant-loop-number
invariant-loop-number l =
    (length l.log ≡ length l.initial.log) × (length l.tables ≡ length l.initial.tables) × (length l.words ≡ length l.initial.words) × (length l.memory ≡ length l.initial.memory)
    × Left (job_of l.job.image.now l.job.starts.now l.job.parameters.now l.job.allowance) (meaning l.initial.tables l.initial.words l.initial.memory) l.schedule l.initial.log (meaning l.tables l.words l.memory) l.at l.number l.log

abbrev pub decreases-loop-number : goal.decreases-loop-number
decreases-loop-number l = length l.schedule - l.at
