-- `entries::carry::go_on` meets its contract. Assumes nothing.
use Rattle.tables.specs.Meaning.{meaning}
use Rattle.entries.proofs.Carrying.{moved_on, units-kept}
use Rattle.entries.proofs.Chains.{charged}
use Rattle.rules.specs.Update.{charge}
use Rattle.std.proofs.Common.{◌^◌, [], ap, ◌∙◌}
use Rattle.entries.proofs.carry.go_on.Goals as goal

pub returns : goal.returns
unfolding meaning
returns c =
    let args' = c.args in
    let pre' = c.requires in
    let put-position' = c.put_position in
    λ offset. record {
      means = λ l words memory.
          let moved = moved_on args'.at.thread args'.next l pre'.number put-position'.ensures in
          let room = units-kept _ _ args'.at.thread args'.at.weight (2 ^ 32) _ (moved [] []) pre'.units in
          charged args'.at.weight (put-position'.ensures.sized ∙ l) room c.charge.ensures words memory ∙ ap (charge args'.at.weight) (moved words memory);
      sized = c.charge.ensures.sized ∙ put-position'.ensures.sized;
      other = λ n. absurd (n pre'.sized);
    }
