-- `search::lowest_suspended` meets its contract. The loop's invariant: the threads left have the lowest suspended one of all.
-- Assumes nothing.
use mathlib.Core.List.{List}
use mathlib.Core.Path.{◌≡◌}
use Prim.Native.Nat.{ℕ, ◌-◌, ◌≤◌}
use lib.ListN.{length}
use Rattle.tables.specs.Meaning.{size, meaning}
use Rattle.search.specs.Search.{suspended_from, lowest_suspended}
use Rattle.search.proofs.lowest_suspended.Given as goal

abbrev pub invariant-loop-t : goal.invariant-loop-t
invariant-loop-t l = (l.t ≤ 32) × (length l.tables ≡ size → (words memory : List ℕ) → suspended_from (32 - l.t) (meaning l.tables words memory).threads l.t ≡ lowest_suspended (meaning l.tables words memory))
