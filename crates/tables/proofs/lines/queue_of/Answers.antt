-- `tables::lines::queue_of` meets its contract. Assumes nothing.
use Rattle.std.proofs.Common.{ap, ◌∙◌, []}
use Rattle.queue.specs.Contents.{contents}
use Rattle.tables.proofs.Changes.{read, unread}
use Rattle.tables.proofs.Meaning.{queue-is}
use Rattle.tables.specs.Change.{queue_of}
use Rattle.tables.proofs.lines.queue_of.Goals as goal

pub returns-then-tables-ne-SIZE : goal.returns-then-tables-ne-SIZE
returns-then-tables-ne-SIZE c = rw c.new.ensures (unread c.args.tables.now (queue_of c.args.which) [] c.if-tables-ne-SIZE.true)

pub returns : goal.returns
returns c =
    read c.args.tables.now _ _ _ c.if-tables-ne-SIZE.false (λ words memory. ap contents c.queue_at.ensures ∙ rw c.place.ensures.0 (queue-is c.args.tables.now words memory c.args.which))
