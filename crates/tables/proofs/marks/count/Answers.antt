-- `tables::marks::count` meets its contract. Assumes nothing.
use Rattle.tables.proofs.Changes.{read}
use Rattle.tables.specs.Meaning.{meaning}
use Rattle.std.proofs.Common.{refl}
use Rattle.tables.proofs.marks.count.Goals as goal

pub returns : goal.returns
unfolding meaning
returns c =
    read c.args.tables.now _ _ _ c.if-tables-ne-SIZE.false (λ words memory. refl)
