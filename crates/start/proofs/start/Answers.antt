-- `start::start` meets its contract. Assumes nothing.
use borrow.Author.Rules.{rules}
use Rattle.start.proofs.Starting.{starting}
use Rattle.start.proofs.start.Goals as goal

pub returns : goal.returns
returns c =
    starting c.clear.ensures c.put_stacklets.ensures c.put_numbers.ensures c.put_root.ensures c.new.ensures c.slots_of-wide.ensures (search rules) c.push_arguments.ensures.tops c.push_arguments.ensures.words
