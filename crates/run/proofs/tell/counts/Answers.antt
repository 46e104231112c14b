-- `run::tell::counts` meets its contract. Assumes nothing.
use mathlib.Core.Path.{ap, ◌∙◌}
use Rattle.census.specs.Counted.{census_of}
use Rattle.census.specs.Table.{records_up_to}
use Rattle.tables.proofs.Changes.{read, unread}
use Rattle.run.proofs.Telling.{table-read}
use Rattle.run.proofs.tell.counts.Goals as goal

pub returns-then-tables-ne-SIZE : goal.returns-then-tables-ne-SIZE
unfolding records_up_to
returns-then-tables-ne-SIZE c =
    rw c.count.ensures (unread c.args.tables.now _ _ c.if-tables-ne-SIZE.true)

pub returns : goal.returns
returns c =
    let tables' = c.args.tables.now in
    let sized = c.if-tables-ne-SIZE.false in
    read tables' _ _ _ sized (λ words memory. c.count-2.ensures ∙ ap census_of (table-read tables' words memory sized))
