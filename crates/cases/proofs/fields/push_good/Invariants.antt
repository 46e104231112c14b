-- The bytes are at most as many as may stand; within a word k of them are put.
use Rattle.std.proofs.Common.{◌≡◌, ◌+◌, ◌≤◌, length}
use Rattle.cases.proofs.fields.push_good.Given as goal

abbrev pub invariant-loop-done : goal.invariant-loop-done
invariant-loop-done l = length l.bytes.items ≤ l.most

abbrev pub invariant-loop-k : goal.invariant-loop-k
invariant-loop-k l = (length l.bytes.items ≡ l.start + l.k) × (l.start + l.count ≤ l.most)
