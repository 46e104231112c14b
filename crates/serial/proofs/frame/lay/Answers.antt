-- `serial::frame::lay` meets its contract. Assumes nothing.
use Rattle.serial.proofs.FirstSlots.{laid}
use Rattle.serial.proofs.frame.lay.Goals as goal

pub returns-then-not-is_empty : goal.returns-then-not-is_empty
returns-then-not-is_empty c = rw (c.copy_from_slice.ensures.after, c.requires.0) (laid c.args.arguments.now c.requires.1)
