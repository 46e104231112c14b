-- `start::put_root` meets its contract. Assumes nothing.
use Rattle.tables.proofs.Changes.{then, likewise}
use Rattle.start.proofs.put_root.Goals as goal

pub returns : goal.returns
returns c =
    likewise (λ s. rw c.root.ensures) (then (then (then (then c.put_thread.ensures c.put_core.ensures) c.put_core-2.ensures) c.put_core-3.ensures) c.put_count.ensures)
