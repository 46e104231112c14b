-- `image::step::test_at` meets its contract. Assumes nothing.
use mathlib.Core.Path.{refl, ◌∙◌}
use borrow.Author.Rules.{rules}
use lib.ListN.{get_or}
use Rattle.command.specs.Command.{decoded}
use Rattle.image.specs.Image.{in_range}
use Rattle.image.proofs.FirstByte.{no-width}
use Rattle.image.proofs.Tests.{known, alone, unknown}
use Rattle.image.proofs.step.test_at.Goals as goal

pub returns-in-1 : goal.returns-in-1
unfolding decoded in_range
returns-in-1 c = c.slots_at.ensures ∙ known _ _ _ c.requires 1 3 c.in-1.is refl

pub returns-in-2 : goal.returns-in-2
unfolding decoded in_range
returns-in-2 c = c.slots_at-in-2.ensures ∙ known _ _ _ c.requires 2 3 c.in-2.is refl

pub returns-in-3 : goal.returns-in-3
unfolding decoded in_range
returns-in-3 c = c.slots_at-in-3.ensures ∙ known _ _ _ c.requires 3 3 c.in-3.is refl

pub returns-in-4 : goal.returns-in-4
unfolding decoded in_range
returns-in-4 c = c.slots_at-in-4.ensures ∙ known _ _ _ c.requires 4 2 c.in-4.is refl

pub returns-in-5 : goal.returns-in-5
unfolding decoded in_range
returns-in-5 c = c.slots_at-in-5.ensures ∙ known _ _ _ c.requires 5 2 c.in-5.is refl

pub returns-in-6 : goal.returns-in-6
unfolding decoded in_range
returns-in-6 c = c.slots_at-in-6.ensures ∙ known _ _ _ c.requires 6 3 c.in-6.is refl

pub returns-in-7 : goal.returns-in-7
unfolding decoded in_range
returns-in-7 c = c.jump_at.ensures ∙ known _ _ _ c.requires 7 2 c.in-7.is refl

pub returns-in-8 : goal.returns-in-8
unfolding decoded in_range
returns-in-8 c = c.fork_at.ensures ∙ known _ _ _ c.requires 8 4 c.in-8.is refl

pub returns-in-9 : goal.returns-in-9
unfolding decoded in_range
returns-in-9 c = c.fork_at-in-9.ensures ∙ known _ _ _ c.requires 9 4 c.in-9.is refl

pub returns-in-10 : goal.returns-in-10
unfolding decoded in_range
returns-in-10 c = alone _ _ _ c.requires 10 c.in-10.is refl refl

pub returns-in-11 : goal.returns-in-11
unfolding decoded in_range
returns-in-11 c = alone _ _ _ c.requires 11 c.in-11.is refl refl

pub returns-in-12 : goal.returns-in-12
unfolding decoded in_range
returns-in-12 c = alone _ _ _ c.requires 12 c.in-12.is refl refl

pub returns-in-13 : goal.returns-in-13
unfolding decoded in_range
returns-in-13 c = c.slots_at-in-13.ensures ∙ known _ _ _ c.requires 13 1 c.in-13.is refl

pub returns-in-14 : goal.returns-in-14
unfolding decoded in_range
returns-in-14 c = c.slots_at-in-14.ensures ∙ known _ _ _ c.requires 14 1 c.in-14.is refl

pub returns-in_default : goal.returns-in_default
returns-in_default c = unknown _ _ _ c.requires (no-width (get_or c.args.code.now c.args.at 0) (search rules))
