-- `tables::lines::put_top` meets its contract. Assumes nothing.
use Rattle.std.proofs.Common.{◌%◌, ◌∙◌, arith, length-drop, length-take, rules}
use Rattle.tables.proofs.Changes.{changed}
use Rattle.tables.proofs.Stores.{top-store}
use Rattle.tables.proofs.lines.put_top.Goals as goal

pub returns : goal.returns
returns c =
    let args' = c.args in
    let if1' = c.if-tables-ne-SIZE in
    changed args'.tables.now _ _ if1'.false (search rules) (λ words memory. top-store args'.tables.now words memory if1'.false _ (args'.x % 16) args'.top (c.write_top.auto.tops ∙ simp (length-take, length-drop) (omega arith)) c.write_top.ensures)
