-- `image::marks::all_met` meets its contract. Assumes nothing.
use mathlib.Core.Path.{sym}
use native.Mathlib.Omega.{arith}
use Rattle.image.proofs.Asking.{never, asked-inside}
use Rattle.image.proofs.marks.all_met.Goals as goal

pub loop-mark-init : goal.loop-mark-init
loop-mark-init c = (λ e t h two. absurd (omega arith), λ e. never (sym e))

pub returns : goal.returns
returns c = record { all = λ e t two. c.loop-mark.invariant.0 e t (omega (arith, asked-inside c.args.marks.now t two)) two; left = c.loop-mark.invariant.1 }
