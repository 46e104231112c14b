-- `image::marks::ask_target` meets its contract. Assumes nothing.
use mathlib.Core.Path.{◌≡◌}
use Prim.Native.Nat.{◌+◌}
use borrow.Author.Rules.{rules}
use native.Mathlib.Omega.{arith}
use Rattle.command.specs.Command.{decoded}
use Rattle.image.proofs.Asking.{reworded, untested}
use Rattle.image.proofs.FirstByte.{no_target}
use Rattle.image.proofs.marks.ask_target.Goals as goal

pub returns-in-6 : goal.returns-in-6
unfolding decoded
returns-in-6 c =
    let three : c.args.at + 2 + 1 ≡ c.args.at + 3 = omega arith in
    reworded _ _ _ _ _ (λ start. rw (c.in-6.is, c.target_at.ensures, three)) c.ask.ensures

pub returns-in-7 : goal.returns-in-7
unfolding decoded
returns-in-7 c =
    let two : c.args.at + 1 + 1 ≡ c.args.at + 2 = omega arith in
    reworded _ _ _ _ _ (λ start. rw (c.in-7.is, c.target_at-in-7.ensures, two)) c.ask-in-7.ensures

pub returns-in_default : goal.returns-in_default
returns-in_default c = untested _ _ (λ start. no_target _ _ _ _ start _ c.requires.0 (search rules) (search rules))
