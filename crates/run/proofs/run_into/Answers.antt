-- `run::run_into` meets its contract. Assumes nothing.
use mathlib.Core.Path.{refl, ◌∙◌}
use native.Mathlib.Omega.{arith}
use Rattle.run.proofs.Telling.{machine-shown}
use Rattle.run.proofs.Running.{refuses, ready, plays}
use Rattle.run.proofs.RunDemand.{promised}
use Rattle.run.proofs.run_into.Goals as goal

pub returns-in-Err : goal.returns-in-Err
returns-in-Err c =
    let begin' = c.begin-begun in
    promised _ _ _ (λ k. omega (arith, c.type_inv.image k)) _ _ _ (refuses _ _ _ _ _ _ _ begin'.ensures.start refl refl _ (c.in-Err.ensures.tests _) _ c.shown.ensures.answer (machine-shown _ _ _ _ _ begin'.auto.tables c.shown.ensures))

pub play-requires : goal.play-requires
play-requires c =
    let begin' = c.begin-begun in
    ready _ _ _ _ _ _ _ begin'.ensures.start refl refl _ (c.in-Ok.ensures.tests _) begin'.auto.tables (λ k. omega (arith, c.type_inv.image k))

pub returns : goal.returns
returns c =
    let play' = c.play in
    let begin' = c.begin-begun in
    let sized = play'.auto.tables ∙ begin'.auto.tables in
    promised _ _ _ (λ k. omega (arith, c.type_inv.image k)) _ _ _ (plays _ _ _ _ _ _ _ begin'.ensures.start refl refl _ (c.in-Ok.ensures.tests _) _ _ _ _ play'.ensures (c.shown-2.ensures.answer ∙ c.answer.ensures.means sized _ _) (machine-shown _ _ _ _ _ sized c.shown-2.ensures))
