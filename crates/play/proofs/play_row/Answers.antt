-- `play::play_row` meets its contract. The invariant: what is no longer left of the row was met. The measure is what is left. Assumes nothing.
use Rattle.play.proofs.Rowing.{row-begins, row-sound, row_more}
use Rattle.play.specs.Rows.{RowPlayed, LogsOn}
use Rattle.schedule.specs.declared.Entry.TheVariants.{Step}
use Rattle.tables.specs.Meaning.{meaning}
use Rattle.rules.specs.State.{job_of}
use lib.ListN.{replicate}
use Prim.Native.Nat.{ℕ, ◌+◌, ◌-◌}
use mathlib.Core.Path.{◌≡◌, refl, subst, ◌∙◌}
use native.Mathlib.Omega.{arith}
use mathlib.Core.List.{[], ◌∷◌, ◌++◌}
use Rattle.play.proofs.play_row.Goals as goal

pub loop-many-init : goal.loop-many-init
loop-many-init c =
    let args' = c.args in
    let none : 0 ≡ args'.row - args'.row = omega arith in
    (refl, refl, refl, refl, omega arith, omega arith, subst (λ (n : ℕ). RowPlayed (job_of args'.job.now.image.now args'.job.now.starts.now args'.job.now.parameters.now args'.job.now.allowance) (meaning args'.tables.now args'.words.now args'.memory.now) (Step args'.c) n args'.log.now args'.first (meaning args'.tables.now args'.words.now args'.memory.now) args'.log.now) none (row-begins (job_of args'.job.now.image.now args'.job.now.starts.now args'.job.now.parameters.now args'.job.now.allowance) (meaning args'.tables.now args'.words.now args'.memory.now) (Step args'.c) args'.log.now args'.first))

pub steps-done-requires : goal.steps-done-requires
steps-done-requires c =
    let loop' = c.loop-many in
    let pre' = c.requires in
    let args' = c.args in
    record { sized = loop'.invariant.1 ∙ pre'.0.sized; sound = row-sound (job_of args'.job.now.image.now args'.job.now.starts.now args'.job.now.parameters.now args'.job.now.allowance) (meaning args'.tables.now args'.words.now args'.memory.now) (Step args'.c) args'.log.now args'.first (args'.row - loop'.many) (meaning loop'.tables loop'.words loop'.memory) loop'.log loop'.invariant.6 pre'.0.sound }

pub put_logs-requires : goal.put_logs-requires
put_logs-requires c =
    let loop' = c.loop-many in
    omega (arith, c.steps-done.ensures.few, loop'.invariant.0, loop'.invariant.4, loop'.invariant.5, c.requires.1, c.loop-many-test.true)

pub overflow_add-number : goal.overflow_add-number
overflow_add-number c = omega (arith, c.steps-done.ensures.few, c.loop-many.invariant.4, c.requires.1, c.well_formed.1.1.0, c.loop-many-test.true)

pub overflow_add-number-in-loop-many : goal.overflow_add-number-in-loop-many
overflow_add-number-in-loop-many c =
    let loop' = c.loop-many in
    omega (arith, c.steps-done.ensures.few, loop'.invariant.0, loop'.invariant.4, loop'.invariant.5, c.requires.1, c.well_formed.1.1.0, c.loop-many-test.true)

pub overflow_add-many : goal.overflow_add-many
overflow_add-many c = omega (arith, c.steps-done.ensures.few, c.loop-many.invariant.4, c.requires.1, c.well_formed.1.1.0, c.loop-many-test.true)

pub overflow_sub-many-in-loop-many : goal.overflow_sub-many-in-loop-many
overflow_sub-many-in-loop-many c = omega (arith, c.steps-done.ensures.few, c.loop-many-test.true)

pub loop-many-smaller : goal.loop-many-smaller
loop-many-smaller c = omega (arith, c.steps-done.ensures.few, c.loop-many-test.true)

pub loop-many-preserved : goal.loop-many-preserved
loop-many-preserved c =
    let put-logs' = c.put_logs in
    let steps' = c.steps-done in
    let loop-test' = c.loop-many-test in
    let loop' = c.loop-many in
    let args' = c.args in
    let all : args'.row - loop'.many + (steps'.result.again + 1) ≡ args'.row - (loop'.many - (steps'.result.again + 1)) = omega (arith, steps'.ensures.few, loop'.invariant.4, loop-test'.true) in
    let on = put-logs'.ensures in (
      put-logs'.auto.log ∙ loop'.invariant.0,
      steps'.auto.tables ∙ loop'.invariant.1,
      steps'.auto.words ∙ loop'.invariant.2,
      steps'.auto.memory ∙ loop'.invariant.3,
      omega (arith, loop'.invariant.4),
      omega (arith, steps'.ensures.few, loop'.invariant.4, loop'.invariant.5, loop-test'.true),
      subst (λ (n : ℕ). RowPlayed (job_of args'.job.now.image.now args'.job.now.starts.now args'.job.now.parameters.now args'.job.now.allowance) (meaning args'.tables.now args'.words.now args'.memory.now) (Step args'.c) n args'.log.now args'.first (meaning steps'.new.tables steps'.new.words steps'.new.memory) put-logs'.new.log) all
          (row_more (job_of args'.job.now.image.now args'.job.now.starts.now args'.job.now.parameters.now args'.job.now.allowance) (meaning args'.tables.now args'.words.now args'.memory.now) (Step args'.c) args'.log.now args'.first (args'.row - loop'.many) (meaning loop'.tables loop'.words loop'.memory) loop'.log loop'.invariant.6 (loop'.many - 1) steps'.result _ put-logs'.new.log steps'.ensures (subst (λ (n : ℕ). LogsOn loop'.log n (replicate steps'.result.again 0 ++ (steps'.result.log ∷ [])) put-logs'.new.log) loop'.invariant.5 put-logs'.ensures)),
    )

pub returns : goal.returns
returns c =
    let args' = c.args in
    let whole : args'.row - c.loop-many.many ≡ args'.row = omega (arith, c.loop-many-test.false) in
    subst (λ (n : ℕ). RowPlayed (job_of args'.job.now.image.now args'.job.now.starts.now args'.job.now.parameters.now args'.job.now.allowance) (meaning args'.tables.now args'.words.now args'.memory.now) (Step args'.c) n args'.log.now args'.first (meaning c.loop-many.tables c.loop-many.words c.loop-many.memory) c.loop-many.log) whole c.loop-many.invariant.6
