-- `begin::begin` meets its contract. Assumes nothing.
use Rattle.begin.proofs.Beginning.{begins}
use Rattle.begin.proofs.begin.Goals as goal

pub returns-clause-tests : goal.returns-clause-tests
returns-clause-tests c = λ allowance. begins _ _ _ _ (c.tested.ensures allowance)
