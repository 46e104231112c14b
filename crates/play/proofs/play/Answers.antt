-- `play::play` meets its contract. The invariant: what is left of the schedule gives what the whole gives. Assumes nothing.
use mathlib.Core.Path.{◌≡◌, refl, sym, ◌∙◌}
use native.Mathlib.Omega.{arith}
use Prim.Native.Nat.{◌+◌, ◌≤◌}
use lib.ListN.{length, length-set}
use Rattle.schedule.proofs.Standing.{found}
use Rattle.play.proofs.Leading.{leads-none, read-here, step-here, row_within}
use Rattle.play.proofs.Playing.{begins, goes_one, goes-row, ends-full, ends-here, not_step}
use Rattle.play.proofs.play.Goals as goal

pub loop-number-init : goal.loop-number-init
loop-number-init c = (refl, refl, refl, refl, begins _ _ _ _ c.requires.sound)

pub returns : goal.returns
returns c =
    let loop' = c.loop-number in
    ends-full _ _ _ _ _ _ _ _ loop'.invariant.4 (omega (arith, loop'.invariant.0, c.loop-number-test.false))

pub returns-in_default : goal.returns-in_default
returns-in_default c = ends-here _ _ _ _ _ _ _ _ c.loop-number.invariant.4 (leads-none _ _ _ _ c.read_at.ensures.is c.unwrap_or.ensures (λ e next h. c.in_default.not-Some (e, next) h))

pub meet-requires : goal.meet-requires
meet-requires c =
    let loop' = c.loop-number in
    (not_step c.in-Some.e (λ n h. c.in_default-e.not-Step n h), record { sized = loop'.invariant.1 ∙ c.requires.sized; parameters = c.args.job.now.parameters.now; memory = loop'.memory; sound = loop'.invariant.4.sound })

pub loop-number-smaller-in_default-e : goal.loop-number-smaller-in_default-e
loop-number-smaller-in_default-e c =
    let one = c.in-Some in
    let there = found _ _ _ _ (read-here _ _ _ _ _ _ c.read_at.ensures.is c.unwrap_or.ensures one.is) in
    omega (arith, there.wide, there.within)

pub loop-number-preserved-in_default-e : goal.loop-number-preserved-in_default-e
loop-number-preserved-in_default-e c =
    let meet' = c.meet in
    let one = c.in-Some in
    let loop' = c.loop-number in (
      rw length-set loop'.invariant.0,
      meet'.auto.tables ∙ loop'.invariant.1,
      meet'.auto.words ∙ loop'.invariant.2,
      loop'.invariant.3,
      rw c.log_byte.ensures (goes_one _ _ _ _ _ _ _ _ loop'.invariant.4 _ _ _ (read-here _ _ _ _ _ _ c.read_at.ensures.is c.unwrap_or.ensures one.is) c.loop-number-test.true loop'.invariant.0 (meet'.ensures c.args.job.now.parameters.now loop'.memory)),
    )

pub play_row-requires : goal.play_row-requires
play_row-requires c =
    let loop' = c.loop-number in
    (record { sized = loop'.invariant.1 ∙ c.requires.sized; sound = loop'.invariant.4.sound }, omega (arith, c.min-follow.ensures, c.loop-number-test.true))

pub overflow_add-at : goal.overflow_add-at
overflow_add-at c =
    let one = c.in-Some in
    let there = found _ _ _ _ (step-here _ _ _ _ _ _ _ c.read_at.ensures.is c.unwrap_or.ensures one.is c.in-Step.is) in
    let few : c.min-follow.result ≤ c.steps_after-more.result = omega (arith, c.min-follow.ensures) in
    omega (arith, row_within _ _ _ _ _ c.steps_after-more.ensures few there.within, c.well_formed.0)

pub loop-number-smaller : goal.loop-number-smaller
loop-number-smaller c =
    let one = c.in-Some in
    let there = found _ _ _ _ (step-here _ _ _ _ _ _ _ c.read_at.ensures.is c.unwrap_or.ensures one.is c.in-Step.is) in
    omega (arith, there.wide, there.within)

pub loop-number-preserved : goal.loop-number-preserved
loop-number-preserved c =
    let row' = c.play_row in
    let one = c.in-Some in
    let loop' = c.loop-number in
    let few : c.min-follow.result ≤ c.steps_after-more.result = omega (arith, c.min-follow.ensures) in
    let room : loop'.number + (c.min-follow.result + 1) ≤ length loop'.log = omega (arith, c.min-follow.ensures, c.loop-number-test.true) in (
      row'.auto.log ∙ loop'.invariant.0,
      row'.auto.tables ∙ loop'.invariant.1,
      row'.auto.words ∙ loop'.invariant.2,
      row'.auto.memory ∙ loop'.invariant.3,
      goes-row _ _ _ _ _ _ _ _ loop'.invariant.4 _ _ _ _ _ _ (step-here _ _ _ _ _ _ _ c.read_at.ensures.is c.unwrap_or.ensures one.is c.in-Step.is) c.steps_after-more.ensures few (omega (arith, room, loop'.invariant.0)) row'.ensures,
    )
