-- `begin::refusal::tested` meets its contract, test by test. Assumes nothing.
use mathlib.Core.Path.{◌∙◌, ap, sym}
use Rattle.std.specs.Prelude.{Ok}
use Rattle.std.proofs.lemmas.Result.{err_from_is_err_and}
use Rattle.image.specs.Layout.{starts_in}
use Rattle.image.proofs.Answer.{answer-accepts, answer-refuses}
use Rattle.schedule.specs.Meaning.{number_of_counted}
use Rattle.schedule.proofs.Counting.{counted}
use Rattle.begin.proofs.Testing.{by_cores, by_image, by_arguments, by_schedule, by_lengths, by_none}
use Rattle.begin.proofs.refusal.tested.Goals as goal

pub returns-then-cores-eq0 : goal.returns-then-cores-eq0
returns-then-cores-eq0 c = λ a. by_cores _ _ _ c.then-cores-eq0.either

pub returns-in_err-program : goal.returns-in_err-program
returns-in_err-program c = λ a.
    let e = err_from_is_err_and c.from_residual.result c.from_residual.ensures.1 in
    rw (e.1, e.2) (by_image _ _ _ c.if-cores-eq0.false c.if-cores-gt4.false _ (answer-refuses _ _ (sym c.check.ensures ∙ c.in_err-program.was)))

pub returns-then-arguments-from : goal.returns-then-arguments-from
returns-then-arguments-from c =
    let image = (answer-accepts _ _ (sym c.check.ensures ∙ c.in_ok-program.was)).0 in
    let wanted = c.from.ensures ∙ c.arguments_of.ensures in
    λ a. by_arguments _ _ _ c.if-cores-eq0.false c.if-cores-gt4.false image (λ e. c.if-arguments-from.true (e ∙ sym wanted))

pub returns-in_err-entries : goal.returns-in_err-entries
returns-in_err-entries c =
    let image = (answer-accepts _ _ (sym c.check.ensures ∙ c.in_ok-program.was)).0 in
    let wanted = c.from.ensures ∙ c.arguments_of.ensures in
    let e = err_from_is_err_and c.from_residual-in_err-entries.result c.from_residual-in_err-entries.ensures.1 in
    λ a. rw (e.1, e.2) (by_schedule _ _ _ c.if-cores-eq0.false c.if-cores-gt4.false image (c.if-arguments-from.false ∙ wanted) (sym c.count.ensures.number ∙ ap number_of_counted c.in_err-entries.was))

pub returns-then-parameters-ne32 : goal.returns-then-parameters-ne32
returns-then-parameters-ne32 c =
    let image = (answer-accepts _ _ (sym c.check.ensures ∙ c.in_ok-program.was)).0 in
    let wanted = c.from.ensures ∙ c.arguments_of.ensures in
    let counts = counted _ _ (rw c.in_ok-entries.was at c.count.ensures) in
    λ a. by_lengths _ _ _ c.if-cores-eq0.false c.if-cores-gt4.false image (c.if-arguments-from.false ∙ wanted) counts.all counts.means (rw (← counts.many) at c.then-parameters-ne32.either)

pub returns : goal.returns
returns c =
    let (image, program) = answer-accepts _ _ (sym c.check.ensures ∙ c.in_ok-program.was) in
    let wanted = c.from.ensures ∙ c.arguments_of.ensures in
    let counts = counted _ _ (rw c.in_ok-entries.was at c.count.ensures) in
    λ a. ap Ok (c.starts.ensures ∙ ap starts_in program) ∙ by_none _ _ _ c.if-cores-eq0.false c.if-cores-gt4.false image (c.if-arguments-from.false ∙ wanted) counts.all counts.means c.if-parameters-ne32.false c.if-memory-ne992.false (rw (← counts.many) at c.if-log-entries.false)
