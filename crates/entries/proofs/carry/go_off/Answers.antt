-- `entries::carry::go_off` meets its contract. Assumes nothing.
use Rattle.entries.proofs.Carrying.{linked_on}
use Rattle.tables.proofs.Changes.{then}
use Rattle.std.proofs.Common.{[], ◌∙◌}
use Rattle.entries.proofs.carry.go_off.Goals as goal

pub leave-requires : goal.leave-requires
leave-requires c =
    let args' = c.args in
    let pre' = c.requires in
    let go-on' = c.go_on in
    record {
      sized = (go-on'.ensures 0).sized ∙ pre'.seated.sized;
      core = pre'.seated.core;
      number = pre'.seated.number;
      linked = linked_on args'.tables.now _ args'.at.core args'.at.thread args'.at.weight args'.next 0 pre'.seated.number ((go-on'.ensures 0).means pre'.seated.sized [] []) pre'.linked;
    }

pub returns : goal.returns
returns c =
    λ offset. then (c.go_on.ensures offset) c.leave.ensures
