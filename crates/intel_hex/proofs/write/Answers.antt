-- `intel_hex::write` meets its contract. Assumes nothing.
use Rattle.std.proofs.Common.{sym, ◌∙◌, arith}
use Rattle.image.proofs.Accepted.{accepted}
use Rattle.std.proofs.lemmas.Result.{err_from_is_err_and}
use Rattle.image.proofs.Answer.{answer-accepts, answer-refuses}
use Rattle.intel_hex.proofs.Answered.{bad-image, no-text-room, text-written}
use Rattle.intel_hex.proofs.write.Goals as goal

pub returns-in_err-check : goal.returns-in_err-check
returns-in_err-check c =
    let e = err_from_is_err_and c.from_residual.result c.from_residual.ensures.1 in
    rw (e.1, e.2) (bad-image _ _ _ (answer-refuses _ _ (sym c.check.ensures ∙ c.in_err-check.was)))

pub text_length-n-requires : goal.text_length-n-requires
text_length-n-requires c = (accepted _ (answer-accepts _ _ (sym c.check.ensures ∙ c.in_ok-check.was)).0).size

pub returns-then-text-n : goal.returns-then-text-n
returns-then-text-n c = no-text-room _ _ (answer-accepts _ _ (sym c.check.ensures ∙ c.in_ok-check.was)).0 (omega (arith, c.text_length-n.ensures))

pub put_text-requires : goal.put_text-requires
put_text-requires c = ((accepted _ (answer-accepts _ _ (sym c.check.ensures ∙ c.in_ok-check.was)).0).size, omega (arith, c.text_length-n.ensures))

pub returns : goal.returns
returns c =
    let v = (answer-accepts _ _ (sym c.check.ensures ∙ c.in_ok-check.was)).0 in
    text-written _ _ v _ c.text_length-n.ensures (omega arith) (λ i. omega (arith, c.type_inv.image i)) (accepted _ v).size c.put_text.ensures
