-- `image::step::slots_at` meets its contract. Assumes nothing.
use borrow.Author.Tests.{le-ltb, lt-ltb}
use mathlib.Core.Path.{◌≡◌, ◌∙◌, ap}
use native.Mathlib.Omega.{arith}
use Prim.Native.Nat.{◌+◌, ◌-◌}
use Rattle.image.specs.Image.{all_slots}
use Rattle.image.proofs.Tests.{operands-are}
use Rattle.image.proofs.step.slots_at.Goals as goal

pub returns-then-code-at : goal.returns-then-code-at
returns-then-code-at c = simp (lt-ltb _ _ c.if-code-at.true)

pub returns : goal.returns
returns c =
    let n = c.args.operands in
    let size : c.args.at + 1 + n - (c.args.at + 1) ≡ n = omega arith in
    let good = rw size at c.all_slots.ensures ∙ ap (all_slots c.args.slots) (operands-are c.args.code.now c.args.at n c.requires.2 (omega arith)) in
    simp (c.ranged.ensures, good, le-ltb _ _ c.if-code-at.false)
