-- `entries::leave::leave` meets its contract. Assumes nothing.
use Rattle.entries.proofs.Chains.{leaves-lent, leaves-idle}
use Rattle.entries.specs.Given.{record_in}
use Rattle.tables.proofs.Changes.{thread-seen, thread-stored, core-stored}
use Rattle.std.proofs.Common.{◌≡◌, ◌<◌, [], ◌∙◌}
use Rattle.entries.proofs.leave.leave.Goals as goal

pub returns-then-th : goal.returns-then-th
returns-then-th c =
    let args' = c.args in
    let pre' = c.requires in
    let thread-at' = c.thread_at-th in
    let disconnected' = c.disconnected in
    let put-thread' = c.put_thread in
    let if1' = c.if-th in
    let thread-at2' = c.thread_at-q in
    let with-status' = c.with_status in
    let put-thread2' = c.put_thread-then-th in
    let th = thread-at'.result in
    let is : th ≡ record_in args'.tables.now args'.t = thread-seen pre'.sized [] [] args'.t th pre'.number thread-at'.ensures in
    let low : th.origin.parent < 32 = rw is (pre'.linked (rw is at if1'.true)) in
    record {
      means = λ l words memory.
          let l1 = put-thread'.ensures.sized ∙ l in
          let l2 = put-thread2'.ensures.sized ∙ l1 in
          leaves-lent args'.c args'.t args'.status _ _ _ _ th _ _ _
          (thread-seen l words memory args'.t th pre'.number thread-at'.ensures) if1'.true disconnected'.ensures
          (thread-stored l words memory args'.t disconnected'.result pre'.number put-thread'.ensures)
          (thread-seen l1 words memory th.origin.parent thread-at2'.result low thread-at2'.ensures) with-status'.ensures
          (thread-stored l1 words memory th.origin.parent with-status'.result low put-thread2'.ensures)
          (core-stored l2 words memory args'.c th.origin.parent pre'.core c.put_core.ensures);
      sized = c.put_core.ensures.sized ∙ put-thread2'.ensures.sized ∙ put-thread'.ensures.sized;
      other = λ n. absurd (n pre'.sized);
    }

pub returns : goal.returns
returns c =
    let args' = c.args in
    let pre' = c.requires in
    let thread-at' = c.thread_at-th in
    let disconnected' = c.disconnected in
    let put-thread' = c.put_thread in
    let th = thread-at'.result in
    record {
      means = λ l words memory.
          let l1 = put-thread'.ensures.sized ∙ l in
          leaves-idle args'.c args'.t args'.status _ _ _ th _
          (thread-seen l words memory args'.t th pre'.number thread-at'.ensures) c.if-th.false disconnected'.ensures
          (thread-stored l words memory args'.t disconnected'.result pre'.number put-thread'.ensures)
          (core-stored l1 words memory args'.c 32 pre'.core c.put_core-2.ensures);
      sized = c.put_core-2.ensures.sized ∙ put-thread'.ensures.sized;
      other = λ n. absurd (n pre'.sized);
    }
