-- `image::code::check_routine` meets its contract. Assumes nothing.
use borrow.Author.Tests.{not-true, not-false}
use mathlib.Core.Path.{sym, ◌∙◌}
use Rattle.std.proofs.lemmas.Result.{err_from_is_err_and}
use Rattle.image.proofs.Passes.{refused-first, bad-end, outside, left_over, good}
use Rattle.image.proofs.code.check_routine.Goals as goal
use Rattle.image.proofs.code.check_routine.Goals.{then-not-walked-via-then-not-walked, then-not-walked-via-else-not-walked+then-not-all_met}

pub returns-in_err-walked : goal.returns-in_err-walked
returns-in_err-walked c =
    let p = err_from_is_err_and c.from_residual.result c.from_residual.ensures.1 in
    rw (p.1, p.2) (refused-first _ _ _ c.in_err-walked.ensures)

pub returns-then-not-may_end : goal.returns-then-not-may_end
returns-then-not-may_end c = bad-end _ _ _ _ _ c.in_ok-walked.ensures (sym c.may_end.ensures ∙ c.if-not-may_end.true)

pub returns-then-not-walked : goal.returns-then-not-walked
returns-then-not-walked c =
    let may = sym c.may_end.ensures ∙ c.if-not-may_end.false in
    elim c.then-not-walked.branch [
      | then-not-walked-via-then-not-walked v ↦ outside _ _ _ _ _ c.in_ok-walked.ensures may (not-true _ v.if-not-walked.true)
      | then-not-walked-via-else-not-walked+then-not-all_met v ↦ left_over _ _ _ _ _ c.in_ok-walked.ensures may _ v.all_met.ensures v.if-not-all_met.true
    ]

pub returns : goal.returns
returns c =
    good _ _ _ _ _ c.in_ok-walked.ensures (sym c.may_end.ensures ∙ c.if-not-may_end.false) (not-false _ c.if-not-walked.false) _ c.all_met.ensures
    c.if-not-all_met.false
