-- `image::check` meets its contract. Assumes nothing.
use mathlib.Core.Path.{sym, ◌∙◌}
use native.Mathlib.Omega.{arith}
use Rattle.std.proofs.lemmas.Result.{err_from_is_err_and}
use Rattle.image.specs.Image.{image_answer}
use Rattle.image.proofs.Accepted.{accepted}
use Rattle.image.proofs.check.Goals as goal

pub returns-in_err-verdict_of : goal.returns-in_err-verdict_of
unfolding image_answer
returns-in_err-verdict_of c =
    let p = err_from_is_err_and c.from_residual.result c.from_residual.ensures.1 in
    simp (p.1, p.2, sym c.verdict_of.ensures ∙ c.in_err-verdict_of.was)

pub program_of-requires : goal.program_of-requires
program_of-requires c =
    let a = accepted _ (sym c.verdict_of.ensures ∙ c.in_ok-verdict_of.was) in
    (a.most, omega (arith, a.total, a.size))

pub returns : goal.returns
unfolding image_answer
returns c = simp (c.program_of.ensures, sym c.verdict_of.ensures ∙ c.in_ok-verdict_of.was)
