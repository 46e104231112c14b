-- `tables::lines::put_queue_at` meets its contract. Assumes nothing.
use Rattle.std.proofs.Common.{◌≡◌, ◌+◌, ◌-◌, length, arith, rules, sym}
use Rattle.std.proofs.lemmas.List.Edits.{sets}
use Rattle.tables.specs.Cells.{pasted}
use Rattle.tables.proofs.Runs.{sets-pasted}
use Rattle.tables.proofs.Stores.{queue-in, queue-out}
use Rattle.tables.proofs.lines.put_queue_at.Goals as goal

pub returns : goal.returns
returns c =
    let args' = c.args in
    let long : length args'.q.places ≡ 32 = search rules in
    let many : args'.at + 32 - args'.at ≡ length args'.q.places = omega arith in
    let stored : pasted args'.tables.now args'.at (args'.at + 32 - args'.at) c.copy_from_slice.new.self ≡ sets args'.tables.now args'.at args'.q.places =
    rw (c.copy_from_slice.ensures.after, many) (sym (sets-pasted args'.tables.now args'.q.places args'.at (omega arith))) in
    rw stored (queue-in args'.tables.now args'.at args'.q (omega arith) long, queue-out args'.tables.now args'.at args'.q (omega arith) long)
