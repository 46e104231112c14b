-- What is left of the line is no longer than it.
use Rattle.std.proofs.Common.{◌≤◌, length}
use Rattle.cases.proofs.reading.Line.from_field.Given as goal

abbrev pub invariant-loop : goal.invariant-loop
invariant-loop l = length l.text ≤ length l.self.text.now
