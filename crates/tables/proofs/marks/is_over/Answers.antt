-- `tables::marks::is_over` meets its contract. Assumes nothing.
use Rattle.tables.proofs.Changes.{read}
use Rattle.tables.proofs.Stores.{over-is}
use Rattle.tables.specs.Meaning.{meaning}
use Rattle.tables.proofs.marks.is_over.Goals as goal

pub returns : goal.returns
unfolding meaning
returns c =
    read c.args.tables.now _ _ _ c.if-tables-ne-SIZE.false (λ words memory. over-is c.args.tables.now)
