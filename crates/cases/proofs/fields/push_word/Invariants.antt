-- The bytes are at most as many as may stand.
use Rattle.std.proofs.Common.{◌≤◌, length}
use Rattle.cases.proofs.fields.push_word.Given as goal

abbrev pub invariant-loop : goal.invariant-loop
invariant-loop g l = length l.bytes.items ≤ l.most
