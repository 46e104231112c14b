-- `schedule::put` meets its contract. Assumes nothing.
use Rattle.std.proofs.Common.{◌≡◌, ◌+◌, ◌-◌, sym, length, take, drop-drop, append_assoc}
use native.Mathlib.Omega.{arith}
use Rattle.schedule.proofs.Writing.{no_room, room}
use Rattle.schedule.proofs.put.Goals.{then-length-bytes-via-then-length-bytes, then-length-bytes-via-else-length-bytes+then-length-bytes-2}
use Rattle.schedule.proofs.put.Goals as goal

pub returns-then-length-bytes : goal.returns-then-length-bytes
returns-then-length-bytes c = elim c.then-length-bytes.branch [
  | then-length-bytes-via-then-length-bytes w ↦ no_room _ _ _ (omega (arith, w.if-length-bytes))
  | then-length-bytes-via-else-length-bytes+then-length-bytes-2 w ↦ no_room _ _ _ (omega (arith, w.if-length-bytes, w.if-length-bytes-2))
]

pub returns : goal.returns
returns c =
    let n : c.args.at + length c.args.bytes.now - c.args.at ≡ length c.args.bytes.now = omega arith in
    room _ _ _ (omega (arith, c.if-length-bytes.false, c.if-length-bytes-2.false)) _
    (rw (n, c.copy_from_slice.ensures.after, drop-drop (length c.args.bytes.now) c.args.at c.args.buffer.now) (sym (append_assoc (take c.args.at c.args.buffer.now) c.args.bytes.now _)))
