-- `image::marks::ask` meets its contract. Assumes nothing.
use Rattle.image.proofs.Asking.{outside, was-met, asks}
use Rattle.image.proofs.marks.ask.Goals as goal

pub returns-then-marks-t : goal.returns-then-marks-t
returns-then-marks-t c = outside _ _ c.if-marks-t.true

pub returns-else-marks-t-ne1 : goal.returns-else-marks-t-ne1
returns-else-marks-t-ne1 c = was-met _ _ c.if-marks-t-ne1.false

pub returns-then-marks-t-ne1 : goal.returns-then-marks-t-ne1
returns-then-marks-t-ne1 c = asks _ _ c.if-marks-t.false c.if-marks-t-ne1.true
