-- `tables::marks::units` meets its contract. Assumes nothing.
use Rattle.tables.proofs.Changes.{read}
use Rattle.tables.specs.Meaning.{meaning, units_in}
use Rattle.tables.proofs.marks.units.Goals as goal

pub returns : goal.returns
unfolding meaning units_in
returns c =
    read c.args.tables.now _ _ _ c.if-tables-ne-SIZE.false (λ words memory. c.four_at.ensures)
