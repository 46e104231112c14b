-- `queue::Queue::enqueue` meets its contract. Assumes nothing.
use borrow.Author.Rules.{rules}
use native.Mathlib.Omega.{arith}
use Rattle.queue.proofs.Laws.{enqueues}
use Rattle.queue.proofs.Queue.enqueue.Goals as goal

pub returns : goal.returns
returns c =
    let args' = c.args in
    rw (c.wrapped-tail.ensures, c.wrapped-head.ensures) (enqueues args'.self args'.n (omega arith) (search rules))
