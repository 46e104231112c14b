-- The bytes are at most as many as may stand.
use Rattle.std.proofs.Common.{◌≤◌, length}
use Rattle.cases.proofs.fields.push_digits.Given as goal

abbrev pub invariant-loop-pair : goal.invariant-loop-pair
invariant-loop-pair g l =
    (goal.iterator-loop-pair g).can_next l.pair-iterator ×
    (goal.iterator-loop-pair g).is_finite l.pair-iterator ×
    (length l.bytes.items ≤ l.most)
