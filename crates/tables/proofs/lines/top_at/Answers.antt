-- `tables::lines::top_at` meets its contract. Assumes nothing.
use Rattle.tables.proofs.Changes.{read}
use Rattle.tables.proofs.Stores.{tops_are}
use Rattle.stacklets.specs.Tops.{top_at}
use Rattle.std.proofs.Common.{ℕ, ◌%◌, List, ap, ◌∙◌}
use Rattle.tables.proofs.lines.top_at.Goals as goal

pub returns : goal.returns
returns c =
    let args' = c.args in
    read args'.tables.now _ _ _ c.if-tables-ne-SIZE.false (λ words memory. c.read_top.ensures ∙ ap (λ (tops : List ℕ). top_at tops (args'.x % 16)) (tops_are args'.tables.now words memory c.if-tables-ne-SIZE.false))
