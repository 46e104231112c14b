-- `scheduler::run_into` meets its contract. Assumes nothing.
use native.Mathlib.Omega.{arith}
use mathlib.Core.Path.{refl, ◌∙◌}
use Rattle.run.proofs.Telling.{machine-shown}
use Rattle.scheduler.proofs.Promising.{refuses, goes, schedules}
use Rattle.scheduler.proofs.run_into.Goals as goal

pub returns-in-Err : goal.returns-in-Err
returns-in-Err c =
    let begin' = c.begin_alone-begun in
    refuses _ _ _ _ _ begin'.ensures.start refl refl _ (c.in-Err.ensures.tests _) _ _ c.shown.ensures.answer (machine-shown _ _ _ _ _ begin'.auto.tables c.shown.ensures)

pub play_rounds-used-requires : goal.play_rounds-used-requires
play_rounds-used-requires c =
    let begin' = c.begin_alone-begun in
    goes _ _ _ _ _ begin'.ensures.start refl refl _ (c.in-Ok.ensures.tests _) (λ k. omega (arith, c.type_inv.image k)) begin'.auto.tables

pub returns : goal.returns
returns c =
    let play-rounds' = c.play_rounds-used in
    let begin' = c.begin_alone-begun in
    let sized = play-rounds'.auto.tables ∙ begin'.auto.tables in
    schedules _ _ _ _ _ begin'.ensures.start refl refl _ (c.in-Ok.ensures.tests _) (λ k. omega (arith, c.type_inv.image k)) _ _ _ _ _ play-rounds'.ensures (c.shown-2.ensures.answer ∙ c.answer.ensures.means sized _ _) (machine-shown _ _ _ _ _ sized c.shown-2.ensures)
