-- `tables::marks::put_units` meets its contract. Assumes nothing.
use Rattle.tables.proofs.Changes.{changed}
use Rattle.tables.proofs.Stores.{units-store}
use Rattle.tables.proofs.marks.put_units.Goals as goal

pub returns : goal.returns
returns c =
    let args' = c.args in
    let if1' = c.if-tables-ne-SIZE in
    changed args'.tables.now _ _ if1'.false c.put_four.auto.tables (λ words memory. rw c.put_four.ensures (units-store args'.tables.now words memory args'.n if1'.false))
