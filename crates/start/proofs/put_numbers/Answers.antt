-- `start::put_numbers` meets its contract. Assumes nothing.
use Rattle.tables.proofs.Changes.{then, likewise}
use Rattle.queue.specs.Contents.{tail_of}
use mathlib.Core.Path.{ap, ◌∙◌}
use Rattle.start.proofs.put_numbers.Goals as goal

pub returns : goal.returns
returns c =
    let numbers = c.dequeue.ensures.rest ∙ ap tail_of c.ascending.ensures in
    let places = c.dequeue-2.ensures.rest ∙ ap tail_of c.ascending-2.ensures in
    likewise (λ s. rw (numbers, places, c.new.ensures)) (then (then c.put_queue.ensures c.put_queue-2.ensures) c.put_queue-3.ensures)
