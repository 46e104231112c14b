-- `play::meet` meets its contract. Assumes nothing.
use native.Mathlib.Omega.{arith}
use Prim.Native.Nat.{ℕ}
use mathlib.Core.Bool.{Bool, cond}
use mathlib.Core.Path.{◌≡◌, ap}
use Rattle.rules.specs.Rules.{entry_of}
use Rattle.play.proofs.meet.Goals as goal

pub returns-in-Take : goal.returns-in-Take
unfolding entry_of
returns-in-Take c = λ parameters memory. rw c.in-Take.is (c.take.ensures c.args.words.now memory)

pub returns-in-Steal : goal.returns-in-Steal
unfolding entry_of
returns-in-Steal c = λ parameters memory. rw c.in-Steal.is (c.steal.ensures parameters memory)

pub returns-in-Enable : goal.returns-in-Enable
unfolding entry_of
returns-in-Enable c = λ parameters memory. rw c.in-Enable.is (c.enable.ensures c.args.words.now memory)

pub returns-in-Step : goal.returns-in-Step
returns-in-Step c = let z : ◌≡◌ {A = ℕ} 1 0 = ap (λ (b : Bool). cond b 1 0) (rw c.in-Step.is at c.requires.0) in absurd (omega (arith, z))
