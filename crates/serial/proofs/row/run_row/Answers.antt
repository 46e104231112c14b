-- `serial::row::run_row` meets its contract. Assumes nothing.
use mathlib.Core.Path.{refl, sym, ◌∙◌, ap}
use native.Mathlib.Omega.{arith}
use Rattle.std.specs.Prelude.{Ok}
use Rattle.thread.specs.Job.{Job, job_of}
use Rattle.serial.specs.declared.Routine.{Routine}
use Rattle.serial.specs.Steps.{open_at, RowReady}
use Rattle.serial.proofs.Loop.{Met, Acted, place-met, byte-met, cost-met, effect-met, some-cost, unpaid, reach, goes-again, join-fits, joins-on, stops-run, returns-run, share-fits, share-good, shares-on, at_fork}
use Rattle.serial.proofs.Places.{goes-on}
use Rattle.serial.proofs.row.run_row.Goals as goal
use Rattle.serial.proofs.row.run_row.Goals.{At-loop-left, After-effect-effect, After-carry_out}

-- a run that had come to the row's place
abbrev Had : At-loop-left → Type 0
Had c = RowReady c.args.image.now c.args.parameters.now c.args.code c.args.at.now c.args.slots.now c.args.memory.now

abbrev job : (c : At-loop-left) → Had c → Job
job c x = job_of c.args.image.now x.starts c.args.parameters.now x.come.allowance

abbrev opened : At-loop-left → Routine
opened c = let a = c.args.at.now in open_at a.routine c.loop-left.position a.pending a.window c.loop-left.slots

-- the command that is met, its effect to be carried out
met : (c : After-effect-effect) (x : RowReady c.args.image.now c.args.parameters.now c.args.code c.args.at.now c.args.slots.now c.args.memory.now)
    → Met (job_of c.args.image.now x.starts c.args.parameters.now x.come.allowance) x.depth x.come.whole (open_at c.args.at.now.routine c.loop-left.position c.args.at.now.pending c.args.at.now.window c.loop-left.slots) c.loop-left.memory c.loop-left.left c.cost_of-cost.result
    c.effect-effect.result
met c x = let j = job_of c.args.image.now x.starts c.args.parameters.now x.come.allowance in
    let l = open_at c.args.at.now.routine c.loop-left.position c.args.at.now.pending c.args.at.now.window c.loop-left.slots in record {
      far = (c.loop-left.invariant.1 x).1;
      weight = cost-met j l x.there c.requires.2 c.five_of-five.ensures c.requires.1 c.cost_of-cost.ensures;
      paid = c.if-left-cost.false;
      effect = effect-met j l x.there c.requires.2 c.five_of-five.ensures c.command_of.ensures (rw (c.view.ensures, c.loop-left.invariant.0) at c.effect-effect.ensures);
    }

-- carried out
acted : (c : After-carry_out) (x : RowReady c.args.image.now c.args.parameters.now c.args.code c.args.at.now c.args.slots.now c.args.memory.now)
    → Met (job_of c.args.image.now x.starts c.args.parameters.now x.come.allowance) x.depth x.come.whole
    (open_at c.args.at.now.routine c.loop-left.position c.args.at.now.pending c.args.at.now.window c.loop-left.slots) c.loop-left.memory c.loop-left.left
    c.cost_of-cost.result c.effect-effect.result
    → Acted (job_of c.args.image.now x.starts c.args.parameters.now x.come.allowance) x.depth x.come.whole
    (open_at c.args.at.now.routine c.loop-left.position c.args.at.now.pending c.args.at.now.window c.loop-left.slots) c.loop-left.memory c.loop-left.left
    c.cost_of-cost.result c.effect-effect.result c.carry_out.result c.carry_out.new.slots c.carry_out.new.memory
acted c x m = record { met = m; asked = c.carry_out.ensures.2; slots = c.carry_out.ensures.0; memory = c.carry_out.ensures.1 }

pub loop-left-init : goal.loop-left-init
loop-left-init c = (refl, λ x. (omega arith, x.come.far))

pub five_of-five-requires : goal.five_of-five-requires
five_of-five-requires c =
    let x = c.requires.0 in
    let far = (c.loop-left.invariant.1 x).1 in
    place-met (job c x) (opened c) x.there far.job far.routine

pub cost_of-cost-requires : goal.cost_of-cost-requires
cost_of-cost-requires c =
    let h = (goal.at.cost_of-cost-requires c).At-loop-left in
    let x = c.requires.0 in
    let far = (c.loop-left.invariant.1 x).1 in
    byte-met (job h x) (opened h) x.there c.requires.2 c.five_of-five.ensures far.job far.routine

pub returns-then-left-cost : goal.returns-then-left-cost
returns-then-left-cost c x =
    let h = (goal.at.returns-then-left-cost c).At-loop-left in
    let far = (c.loop-left.invariant.1 x).1 in record {
      less = (c.loop-left.invariant.1 x).0;
      is = unpaid far (cost-met (job h x) (opened h) x.there c.requires.2 c.five_of-five.ensures c.requires.1 c.cost_of-cost.ensures)
          c.if-left-cost.true;
    }

pub carry_out-requires : goal.carry_out-requires
carry_out-requires c = reach (met (goal.at.carry_out-requires c).After-effect-effect c.requires.0)

-- the routine goes on
pub loop-left-smaller : goal.loop-left-smaller
loop-left-smaller c =
    let m = met (goal.at.loop-left-smaller c).After-effect-effect c.requires.0 in
    omega (arith, some-cost m.far m.weight, m.paid)

pub loop-left-preserved : goal.loop-left-preserved
loop-left-preserved c = (
  c.loop-left.invariant.0,
  λ x.
      (omega (arith, (c.loop-left.invariant.1 x).0), goes-again (acted (goal.at.loop-left-preserved c).After-carry_out x (met (goal.at.loop-left-preserved c).After-effect-effect x)) (c.in-Ok-GoOn.is ∙ ap Ok c.in-Ok-GoOn.field-0-is)),
)

-- a join
pub overflow_add-position : goal.overflow_add-position
overflow_add-position c = omega (arith, join-fits (acted (goal.at.overflow_add-position c).After-carry_out c.requires.0 (met (goal.at.overflow_add-position c).After-effect-effect c.requires.0)) (c.in-Ok-Join.is ∙ ap Ok c.in-Ok-Join.field-0-is))

pub returns-in-Ok-Join : goal.returns-in-Ok-Join
returns-in-Ok-Join c x =
    let d = acted (goal.at.returns-in-Ok-Join c).After-carry_out x (met (goal.at.returns-in-Ok-Join c).After-effect-effect x) in
    let m = d.met in
    goes-on (rw c.loop-left.invariant.0 at c.pass_join.ensures) (omega (arith, (c.loop-left.invariant.1 x).0, some-cost m.far m.weight, m.paid)) (joins-on d (c.in-Ok-Join.is ∙ ap Ok c.in-Ok-Join.field-0-is))

-- a fork
pub returns-in-Ok-Call : goal.returns-in-Ok-Call
returns-in-Ok-Call c x =
    let f = at_fork (acted (goal.at.returns-in-Ok-Call c).After-carry_out x (met (goal.at.returns-in-Ok-Call c).After-effect-effect x)) (c.in-Ok-Call.is ∙ ap Ok c.in-Ok-Call.field-0-is) in
    let least = (c.loop-left.invariant.1 x).0 in
    rw (c.go_to.ensures, c.loop-left.invariant.0) (record { less = least; same = refl; far = f.0; fork = f.1 })

-- a number
pub returns-in-Err : goal.returns-in-Err
returns-in-Err c x =
    let d = acted (goal.at.returns-in-Err c).After-carry_out x (met (goal.at.returns-in-Err c).After-effect-effect x) in
    record { less = (c.loop-left.invariant.1 x).0; is = stops-run d c.in-Err.is }

-- a return
pub returns-in-Ok-Return : goal.returns-in-Ok-Return
returns-in-Ok-Return c x =
    let d = acted (goal.at.returns-in-Ok-Return c).After-carry_out x (met (goal.at.returns-in-Ok-Return c).After-effect-effect x) in
    rw c.go_to-in-Ok-Return.ensures (record { less = omega (arith, (c.loop-left.invariant.1 x).0); is = returns-run d (c.in-Ok-Return.is ∙ ap Ok c.in-Ok-Return.field-0-is) })

-- a share; where it gives nothing it is not met: the effect is a share only where s is in range
pub returns-in_default : goal.returns-in_default
returns-in_default c x =
    absurd (share-good (acted (goal.at.returns-in_default c).After-carry_out x (met (goal.at.returns-in_default c).After-effect-effect x)) (c.in-Ok-Share.is ∙ ap Ok c.in-Ok-Share.field-0-is) (sym (rw c.loop-left.invariant.0 at c.share.ensures.is) ∙ c.in_default.is))

pub overflow_add-position-in-Ok-Share : goal.overflow_add-position-in-Ok-Share
overflow_add-position-in-Ok-Share c =
    omega (arith, share-fits (acted (goal.at.overflow_add-position-in-Ok-Share c).After-carry_out c.requires.0 (met (goal.at.overflow_add-position-in-Ok-Share c).After-effect-effect c.requires.0)) (c.in-Ok-Share.is ∙ ap Ok c.in-Ok-Share.field-0-is))

pub returns-in-Ok-Share : goal.returns-in-Ok-Share
returns-in-Ok-Share c x =
    let d = acted (goal.at.returns-in-Ok-Share c).After-carry_out x (met (goal.at.returns-in-Ok-Share c).After-effect-effect x) in
    let m = d.met in
    goes-on (rw c.loop-left.invariant.0 at c.pass_share.ensures) (omega (arith, (c.loop-left.invariant.1 x).0, some-cost m.far m.weight, m.paid)) (shares-on d (c.in-Ok-Share.is ∙ ap Ok c.in-Ok-Share.field-0-is) (rw c.loop-left.invariant.0 at c.share.ensures.is) c.in-Some.is)
