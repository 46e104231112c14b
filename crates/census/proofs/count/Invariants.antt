-- `census::count` meets its contract. The loop's invariant: what is counted so far and the records left make all. Assumes nothing.
use mathlib.Core.Path.{◌≡◌}
use Rattle.std.specs.Slice.Iter.{chunks_exact_rest, chunks_exact_size}
use Rattle.census.proofs.Counting.{Sofar}
use Rattle.census.proofs.count.Given as goal

abbrev pub invariant-loop-cells : goal.invariant-loop-cells
invariant-loop-cells l = (chunks_exact_size l.cells-iterator ≡ 24) × Sofar l.records (chunks_exact_rest l.cells-iterator) l.counts
