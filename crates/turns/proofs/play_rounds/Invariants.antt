-- `turns::play_rounds` meets its contract. The invariant: what is lent keeps its lengths, and the cores left in this round and the rounds
-- behind it lead to where all rounds do. Assumes nothing.
use Rattle.turns.proofs.Staging.{bonus, Stage}
use Rattle.tables.specs.Meaning.{meaning}
use Rattle.rules.specs.State.{job_of}
use lib.ListN.{length}
use Prim.Native.Nat.{◌+◌, ◌-◌, ◌*◌}
use mathlib.Core.Path.{◌≡◌}
use Rattle.turns.proofs.play_rounds.Given as goal

abbrev pub invariant-loop-tables : goal.invariant-loop-tables
invariant-loop-tables l =
    (length l.tables ≡ length l.initial.tables) × (length l.words ≡ length l.initial.words) × (length l.memory ≡ length l.initial.memory) × (length l.buffer ≡ length l.initial.buffer)
    × Stage (job_of l.job.image.now l.job.starts.now l.job.parameters.now l.job.allowance) l.cores l.room (meaning l.initial.tables l.initial.words l.initial.memory) l.initial.buffer (meaning l.tables l.words l.memory) l.at l.buffer l.moved l.c

abbrev pub decreases-loop-tables : goal.decreases-loop-tables
decreases-loop-tables l =
    5 * (l.room - l.at) + bonus l.moved + (l.cores - l.c)
