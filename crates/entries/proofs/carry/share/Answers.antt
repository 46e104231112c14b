-- `entries::carry::share` meets its contract. Assumes nothing.
use Rattle.entries.proofs.Carrying.{units-kept}
use Rattle.entries.proofs.Chains.{charged}
use Rattle.tables.proofs.Changes.{thread-seen, thread-stored}
use Rattle.tables.specs.Meaning.{meaning}
use Rattle.rules.specs.Update.{charge, set_thread}
use Rattle.thread.specs.Thread.{shared_at}
use Rattle.thread.specs.declared.Thread.{Thread}
use Rattle.std.proofs.Common.{◌^◌, [], ap, ◌∙◌}
use Rattle.entries.proofs.carry.share.Goals as goal

pub returns : goal.returns
unfolding meaning
returns c =
    let args' = c.args in
    let pre' = c.requires in
    let thread-at' = c.thread_at-th in
    let shared-at' = c.shared_at in
    let put-thread' = c.put_thread in
    λ offset. record {
      means = λ l words memory.
          let th = thread-at'.result in
          let small = pre'.seated.number in
          let same = thread-seen l [] [] args'.at.thread th small thread-at'.ensures in
          let room = units-kept _ _ args'.at.thread args'.at.weight (2 ^ 32) _ (thread-stored l [] [] args'.at.thread shared-at'.result small put-thread'.ensures) pre'.seated.units in
          charged args'.at.weight (put-thread'.ensures.sized ∙ l) room c.charge.ensures words memory
          ∙ ap (charge args'.at.weight) (thread-stored l words memory args'.at.thread shared-at'.result small put-thread'.ensures)
          ∙ ap (λ (h : Thread). charge args'.at.weight (set_thread args'.at.thread h (meaning args'.tables.now words memory))) (shared-at'.ensures.0 (rw same pre'.low) (rw same pre'.high) ∙ ap (shared_at args'.next args'.s) same);
      sized = c.charge.ensures.sized ∙ put-thread'.ensures.sized;
      other = λ n. absurd (n pre'.seated.sized);
    }
