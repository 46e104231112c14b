-- `turns::put` meets its contract. Assumes nothing.
use native.Mathlib.Omega.{arith}
use Rattle.turns.proofs.Keeping.{puts}
use Rattle.turns.proofs.put.Goals as goal

pub returns : goal.returns
returns c = puts _ _ _ c.requires _ _ _ c.write.ensures c.unwrap_or.ensures

pub overflow_add-result : goal.overflow_add-result
overflow_add-result c = omega (arith, (returns c).position, c.requires)
