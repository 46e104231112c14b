-- `tables::lines::put_queue` meets its contract. Assumes nothing.
use Rattle.tables.proofs.Changes.{changed, unchanged}
use Rattle.tables.proofs.Meaning.{queue-put}
use Rattle.tables.proofs.lines.put_queue.Goals as goal

pub returns-then-tables-ne-SIZE : goal.returns-then-tables-ne-SIZE
returns-then-tables-ne-SIZE c = unchanged c.args.tables.now _ c.if-tables-ne-SIZE.true

pub returns : goal.returns
returns c =
    let args' = c.args in
    changed args'.tables.now _ _ c.if-tables-ne-SIZE.false c.put_queue_at.auto.tables
    (λ words memory. queue-put args'.tables.now _ words memory args'.which _ (rw c.place.ensures.0 at c.put_queue_at.ensures.1) (rw c.place.ensures.0 at c.put_queue_at.ensures.0))
