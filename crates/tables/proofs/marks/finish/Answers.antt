-- `tables::marks::finish` meets its contract. Assumes nothing.
use Rattle.tables.proofs.Changes.{changed}
use Rattle.tables.proofs.Stores.{finished-store}
use Rattle.std.proofs.Common.{◌∙◌, length-set}
use Rattle.tables.proofs.marks.finish.Goals as goal

pub returns : goal.returns
returns c =
    let args' = c.args in
    let if1' = c.if-tables-ne-SIZE in
    changed args'.tables.now _ _ if1'.false (c.put_four.auto.tables ∙ simp length-set) (λ words memory. rw c.put_four.ensures (finished-store args'.tables.now words memory args'.v if1'.false))
