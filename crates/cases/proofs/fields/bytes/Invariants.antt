-- The bytes are at most as many as may stand; the measure is what is left of the text.
use Rattle.std.proofs.Common.{◌≤◌, length}
use Rattle.cases.proofs.fields.bytes.Given as goal

abbrev pub invariant-loop-rest : goal.invariant-loop-rest
invariant-loop-rest g l = length l.bytes.items ≤ l.most

abbrev pub decreases-loop-rest : goal.decreases-loop-rest
decreases-loop-rest g l = length l.rest
