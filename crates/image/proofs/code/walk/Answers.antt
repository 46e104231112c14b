-- `image::code::walk` meets its contract. Assumes nothing.
use mathlib.Core.Path.{refl, sym, ◌∙◌}
use native.Mathlib.Omega.{arith}
use lib.ListN.{length-set}
use Rattle.std.proofs.lemmas.Result.{err_from_is_err_and}
use Rattle.command.proofs.RoundTrip.{stands}
use Rattle.image.proofs.FirstByte.{end-byte}
use Rattle.image.proofs.Tests.{passes, fails}
use Rattle.image.proofs.Walk.{starts-out, falls, stays, goes_on, refuses, finishes}
use Rattle.image.proofs.code.walk.Goals as goal
use Rattle.image.proofs.code.walk.Goals.{then-not-ask_target, else-not-ask_target}

pub loop-at-init : goal.loop-at-init
loop-at-init c = (starts-out _ _ _ c.requires.1, refl)

pub returns-in_err-width : goal.returns-in_err-width
returns-in_err-width c =
    let p = err_from_is_err_and c.from_residual.result c.from_residual.ensures.1 in
    rw (p.1, p.2) (refuses _ _ _ _ _ _ c.loop-at.invariant.0 _ (fails _ _ _ c.loop-at-test.true _ (sym c.test_at.ensures ∙ c.in_err-width.was)) c.loop-at-test.true)

pub bounds-marks-at : goal.bounds-marks-at
bounds-marks-at c = omega (arith, c.loop-at.invariant.1, c.loop-at-test.true, c.requires.0)

pub ask_target-requires : goal.ask_target-requires
ask_target-requires c = let w = stands _ _ _ _ (passes _ _ _ c.loop-at-test.true _ (sym c.test_at.ensures ∙ c.in_ok-width.was)).0 in (rw w.width at w.some, rw w.width at w.whole)

pub overflow_add-at : goal.overflow_add-at
overflow_add-at c = omega (arith, (stands _ _ _ _ (passes _ _ _ c.loop-at-test.true _ (sym c.test_at.ensures ∙ c.in_ok-width.was)).0).whole)

pub loop-at-smaller : goal.loop-at-smaller
loop-at-smaller c = omega (arith, (stands _ _ _ _ (passes _ _ _ c.loop-at-test.true _ (sym c.test_at.ensures ∙ c.in_ok-width.was)).0).some, c.loop-at-test.true)

pub loop-at-preserved : goal.loop-at-preserved
loop-at-preserved c =
    let q = passes _ _ _ c.loop-at-test.true _ (sym c.test_at.ensures ∙ c.in_ok-width.was) in
    let w = stands _ _ _ _ q.0 in (
      goes_on _ _ _ _ _ _ _ _ _ _ _ _ (omega (arith, c.loop-at.invariant.1, c.requires.0)) c.loop-at-test.true q.0 q.1 c.ask_target.ensures
          (end-byte _ _ _ _ _ (rw w.width at w.some))
          (elim c.if-not-ask_target.branch [ then-not-ask_target v ↦ falls c.ask_target.result c.loop-at.inside _ v.if-not-ask_target.true v.inside-is | else-not-ask_target v ↦ stays c.ask_target.result c.loop-at.inside _ v.if-not-ask_target.false v.inside-is ]) c.loop-at.invariant.0,
      c.ask_target.ensures.size ∙ simp length-set c.loop-at.invariant.1,
    )

pub returns : goal.returns
returns c = finishes _ _ _ _ _ _ c.loop-at.invariant.0 _ refl c.loop-at-test.false
