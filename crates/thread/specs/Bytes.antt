-- The number of bytes of a command by its effect, which the loops of the step and of the serial run use.
use Rattle.std.specs.Prelude.{ℕ}
use Rattle.thread.specs.declared.Effect.{Effect}
use Rattle.thread.specs.declared.Effect.TheVariants.{Faults, Sets, Loads, Stores, Goes, Continues, Lforks, Forks, Joins, Suspends, Yields, Returns, Shares}

-- the number of bytes of a command with such an effect, where its thread goes on behind it
abbrev pub bytes_by : Effect → ℕ
bytes_by (Faults x) = 0
bytes_by (Sets d v) = 4
bytes_by (Loads d a) = 3
bytes_by (Stores a v) = 3
bytes_by (Goes t) = 0
bytes_by Continues = 4
bytes_by (Lforks r d a e) = 5
bytes_by (Forks r d a e) = 5
bytes_by Joins = 1
bytes_by Suspends = 1
bytes_by Yields = 1
bytes_by (Returns v) = 0
bytes_by (Shares x) = 2
