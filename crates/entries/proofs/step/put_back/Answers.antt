-- `entries::step::put_back` meets its contract. Assumes nothing.
use Rattle.tables.proofs.Changes.{then}
use Rattle.entries.proofs.step.put_back.Goals as goal

pub returns : goal.returns
returns c = then c.put_position.ensures c.put_units.ensures
