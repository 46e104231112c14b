-- `turns::keep` meets its contract. The invariant: the entry stands in the buffer as often as it was written. Assumes nothing.
use mathlib.Core.Path.{◌≡◌}
use Prim.Native.Nat.{◌≤◌}
use lib.ListN.{length, replicate}
use Rattle.schedule.specs.Format.{bytes_of_entries}
use Rattle.turns.specs.Steps.{Puts}
use Rattle.turns.proofs.keep.Given as goal

abbrev pub invariant-loop : goal.invariant-loop
invariant-loop l = (length l.buffer ≡ length l.initial.buffer) × (l.counter ≤ l.again) × Puts (bytes_of_entries (replicate l.counter l.entry)) l.initial.buffer l.at l.end l.buffer
