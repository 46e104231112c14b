-- `run::tell::statuses` meets its contract. The loop's invariant: the first records are told. Assumes nothing.
use mathlib.Core.Path.{◌≡◌}
use Prim.Native.Nat.{ℕ, ◌<◌}
use lib.ListN.{length, get_or}
use Rattle.run.proofs.Telling.{Told}
use Rattle.run.proofs.tell.statuses.Given as goal

abbrev pub invariant-loop-t : goal.invariant-loop-t
invariant-loop-t l = (length l.status-items ≡ 32) × ((k : ℕ) → k < l.t → Told l.tables k (get_or l.status-items k 0))
