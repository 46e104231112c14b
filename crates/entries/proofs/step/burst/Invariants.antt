-- `entries::step::burst` meets its contract. The invariant: so many steps were made as are no longer left, with position and units held apart.
use Rattle.std.proofs.Common.{◌≡◌, ◌-◌, ◌<◌, ◌≤◌, length}
use Rattle.entries.proofs.Bursting.{Made}
use Rattle.entries.specs.Burst.{Busy}
use Rattle.entries.proofs.step.burst.Given as goal

abbrev pub invariant-loop-h : goal.invariant-loop-h
invariant-loop-h l =
    (l.tables ≡ l.initial.tables) × (length l.words ≡ length l.initial.words) × (length l.memory ≡ length l.initial.memory) × (l.rest ≤ l.more) × (l.position < 65536)
    × ((busy : Busy l.job.image.now l.job.starts.now l.job.parameters.now l.job.allowance l.initial.tables l.initial.words l.initial.memory l.c l.t) → Made busy (l.more - l.rest) l.position l.left l.words l.memory)

abbrev pub decreases-loop-h : goal.decreases-loop-h
decreases-loop-h l = l.rest
