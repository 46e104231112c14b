-- `run::tell::answer` meets its contract. Assumes nothing.
use Rattle.run.proofs.Running.{told}
use Rattle.run.proofs.tell.answer.Goals as goal

pub returns-in-Going : goal.returns-in-Going
returns-in-Going c =
    let standing' = c.standing in
    let units' = c.units-so_far in
    rw c.in-Going.is at (told _ standing'.result units'.result standing'.ensures units'.ensures)

pub returns-in-Over : goal.returns-in-Over
returns-in-Over c =
    let standing' = c.standing in
    let units' = c.units-so_far in
    rw c.in-Over.is at (told _ standing'.result units'.result standing'.ensures units'.ensures)

pub returns-in-Failed : goal.returns-in-Failed
returns-in-Failed c =
    let standing' = c.standing in
    let units' = c.units-so_far in
    rw c.in-Failed.is at (told _ standing'.result units'.result standing'.ensures units'.ensures)
