-- `entries::fork::put_records` meets its contract. Assumes nothing.
use Rattle.entries.proofs.Born.{cut-never, cut_parts, parent_is, child-is, both_stored}
use Rattle.tables.proofs.Changes.{here, then}
use Rattle.tables.specs.Meaning.{meaning}
use Rattle.entries.proofs.fork.put_records.Goals as goal

pub returns-in_default : goal.returns-in_default
returns-in_default c =
    let args' = c.args in
    let pre' = c.requires in
    absurd (cut-never args'.th.family.window args'.e _ pre'.low pre'.high c.cut.ensures.is c.in_default.is)

pub returns : goal.returns
returns c =
    let args' = c.args in
    let pre' = c.requires in
    let cuts = cut_parts args'.th.family.window args'.e _ _ _ c.cut.ensures.is c.in-Some.is in
    let parent = parent_is _ args'.th _ _ _ _ _ _ (c.behind_fork-parent.ensures.0 pre'.result pre'.children) c.parent_status.ensures cuts.1 in
    let child = child-is _ _ _ _ _ _ _ _ _ _ _ c.new.ensures c.child_status-status.ensures c.is_connected-connected.ensures cuts.0 in
    here (λ l words memory. both_stored (meaning args'.tables.now words memory) args'.t args'.n _ _ _ _ pre'.parent pre'.child parent child)
    (then c.put_thread.ensures c.put_thread-2.ensures)
