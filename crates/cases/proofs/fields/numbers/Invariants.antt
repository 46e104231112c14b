-- There are at most four numbers.
use Rattle.std.proofs.Common.{◌≤◌, length}
use Rattle.cases.proofs.fields.numbers.Given as goal

abbrev pub invariant-loop-k : goal.invariant-loop-k
invariant-loop-k g l = length l.numbers.items ≤ 4
