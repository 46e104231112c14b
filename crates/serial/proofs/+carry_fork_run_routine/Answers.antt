-- `serial::carry_fork` and `serial::run_routine`, which call each other, meet their contracts. Assumes nothing.
use mathlib.Core.Path.{◌≡◌, refl, sym, ◌∙◌}
use Prim.Native.Nat.{suc, ◌<◌, ◌-◌}
use native.Mathlib.Omega.{arith}
use Rattle.std.specs.Prelude.{Ok, Err}
use Rattle.std.proofs.lemmas.Result.{err_from_is_err_and}
use Rattle.serial.proofs.Places.{goes-on, row-ready, fork-ready, row-fork-from}
use Rattle.serial.proofs.Forking.{fork-slot, fork-fits, fork-cuts, fork-end, fork-deep, child-few, child-far, fork-halts, fork-returns}
use Rattle.serial.proofs.+carry_fork_run_routine.Goals as goal

-- a fork
pub carry_fork-returns-in_default : goal.carry_fork-returns-in_default
carry_fork-returns-in_default t c x = absurd (fork-cuts x.come.far x.fork (sym c.cut.ensures.is ∙ c.in_default.is))

pub carry_fork-returns-then-depth-le1 : goal.carry_fork-returns-then-depth-le1
carry_fork-returns-then-depth-le1 t c x = record { less = omega arith; is = fork-deep x.come.far x.fork (omega arith) }

pub carry_fork-slice_bounds-run_routine-end : goal.carry_fork-slice_bounds-run_routine-end
carry_fork-slice_bounds-run_routine-end t c =
    let x = c.requires.0 in
    omega (arith, fork-end x.come.far x.fork (c.from.ensures ∙ c.arguments_of.ensures), x.come.far.routine.slots)

pub carry_fork-run_routine-requires : goal.carry_fork-run_routine-requires
carry_fork-run_routine-requires t c =
    let x = c.requires.0 in
    let given = c.from.ensures ∙ c.arguments_of.ensures in
    let shallow : 33 - c.args.depth < 32 = omega arith in
    let deeper : 33 - (c.args.depth - 1) ≡ suc (33 - c.args.depth) = omega arith in
    let few = child-few x.come.far x.fork c.cut.ensures.is c.in-Some.is given refl shallow deeper in (
      omega (arith, c.decreases, shallow),
      (
        record { allowance = x.come.allowance; whole = _; far = child-far x.come.far x.fork c.cut.ensures.is c.in-Some.is given refl shallow deeper },
        omega (arith, c.requires.1),
        few,
        c.requires.2,
      ),
    )

pub carry_fork-returns-in_err-returned : goal.carry_fork-returns-in_err-returned
carry_fork-returns-in_err-returned t c x =
    let given = c.from.ensures ∙ c.arguments_of.ensures in
    let shallow : 33 - c.args.depth < 32 = omega arith in
    let deeper : 33 - (c.args.depth - 1) ≡ suc (33 - c.args.depth) = omega arith in
    let far = child-far x.come.far x.fork c.cut.ensures.is c.in-Some.is given refl shallow deeper in
    let ended = c.in_err-returned.ensures (record { allowance = x.come.allowance; whole = _; far = far }) in
    let e = err_from_is_err_and c.from_residual.result c.from_residual.ensures.1 in
    rw (e.1, e.2) (fork-halts x.come.far x.fork c.cut.ensures.is c.in-Some.is given refl shallow deeper ended)

pub carry_fork-put-requires : goal.carry_fork-put-requires
carry_fork-put-requires t c = let x = c.requires.0 in fork-slot x.come.far x.fork

pub carry_fork-overflow_add-at : goal.carry_fork-overflow_add-at
carry_fork-overflow_add-at t c = let x = c.requires.0 in omega (arith, fork-fits x.come.far x.fork)

pub carry_fork-pass_fork-requires : goal.carry_fork-pass_fork-requires
carry_fork-pass_fork-requires t c = let x = c.requires.0 in fork-slot x.come.far x.fork

pub carry_fork-returns : goal.carry_fork-returns
carry_fork-returns t c x =
    let given = c.from.ensures ∙ c.arguments_of.ensures in
    let shallow : 33 - c.args.depth < 32 = omega arith in
    let deeper : 33 - (c.args.depth - 1) ≡ suc (33 - c.args.depth) = omega arith in
    let far = child-far x.come.far x.fork c.cut.ensures.is c.in-Some.is given refl shallow deeper in
    let ended = c.in_ok-returned.ensures (record { allowance = x.come.allowance; whole = _; far = far }) in
    let next = fork-returns x.come.far x.fork c.cut.ensures.is c.in-Some.is given refl shallow deeper ended (c.run_routine.auto.memory ∙ x.come.far.memory) c.put.ensures in
    goes-on c.pass_fork.ensures next.0 next.1

-- a routine
pub run_routine-run_row-requires : goal.run_routine-run_row-requires
run_routine-run_row-requires t c =
    let x = c.requires.0 in
    (row-ready x c.loop-row.invariant.0 c.code_start-code.ensures.0 (c.loop-row.invariant.1 x).1, c.weights-weights.ensures, c.requires.3)

pub run_routine-returns-in_err-row : goal.run_routine-returns-in_err-row
run_routine-returns-in_err-row t c x =
    let e = err_from_is_err_and c.from_residual.result c.from_residual.ensures.1 in
    let told = c.in_err-row.ensures (row-ready x c.loop-row.invariant.0 c.code_start-code.ensures.0 (c.loop-row.invariant.1 x).1) in
    rw (e.1, e.2) (record { less = omega (arith, (c.loop-row.invariant.1 x).0, told.less); is = told.is })

pub run_routine-carry_fork-requires : goal.run_routine-carry_fork-requires
run_routine-carry_fork-requires t c =
    let x = c.requires.0 in
    let f = rw c.in-Forks.is at (c.in_ok-row.ensures (row-ready x c.loop-row.invariant.0 c.code_start-code.ensures.0 (c.loop-row.invariant.1 x).1)) in
    (omega (arith, c.decreases), (fork-ready x f, c.requires.1, c.requires.3))

pub run_routine-returns-in_err-carry_fork-in-Forks : goal.run_routine-returns-in_err-carry_fork-in-Forks
run_routine-returns-in_err-carry_fork-in-Forks t c x =
    let f = rw c.in-Forks.is at (c.in_ok-row.ensures (row-ready x c.loop-row.invariant.0 c.code_start-code.ensures.0 (c.loop-row.invariant.1 x).1)) in
    let e = err_from_is_err_and c.from_residual-in_err-carry_fork-in-Forks.result c.from_residual-in_err-carry_fork-in-Forks.ensures.1 in
    let told = row-fork-from f c.carry_fork.new.at c.carry_fork.new.slots _ (Err _) (c.in_err-carry_fork-in-Forks.ensures (fork-ready x f)) in
    rw (e.1, e.2) (record { less = omega (arith, (c.loop-row.invariant.1 x).0, told.less); is = told.is })

pub run_routine-loop-row-smaller-in-GoesOn : goal.run_routine-loop-row-smaller-in-GoesOn
run_routine-loop-row-smaller-in-GoesOn t c =
    let x = c.requires.0 in
    (rw c.in-GoesOn.is at (c.in_ok-row.ensures (row-ready x c.loop-row.invariant.0 c.code_start-code.ensures.0 (c.loop-row.invariant.1 x).1))).less

pub run_routine-loop-row-preserved-in-GoesOn : goal.run_routine-loop-row-preserved-in-GoesOn
run_routine-loop-row-preserved-in-GoesOn t c =
    let on = λ (x : _). rw c.in-GoesOn.is at (c.in_ok-row.ensures (row-ready x c.loop-row.invariant.0 c.code_start-code.ensures.0 (c.loop-row.invariant.1 x).1)) in
    ((on c.requires.0).same ∙ c.loop-row.invariant.0, λ x. (omega (arith, (c.loop-row.invariant.1 x).0, (on x).less), (on x).far))

pub run_routine-loop-row-smaller : goal.run_routine-loop-row-smaller
run_routine-loop-row-smaller t c =
    let x = c.requires.0 in
    let f = rw c.in-Forks.is at (c.in_ok-row.ensures (row-ready x c.loop-row.invariant.0 c.code_start-code.ensures.0 (c.loop-row.invariant.1 x).1)) in
    (row-fork-from f _ _ _ (Ok _) (c.in_ok-carry_fork-in-Forks.ensures (fork-ready x f))).less

pub run_routine-loop-row-preserved : goal.run_routine-loop-row-preserved
run_routine-loop-row-preserved t c =
    let met = λ (x : _). rw c.in-Forks.is at (c.in_ok-row.ensures (row-ready x c.loop-row.invariant.0 c.code_start-code.ensures.0 (c.loop-row.invariant.1 x).1)) in
    let on = λ (x : _). row-fork-from (met x) _ _ _ (Ok _) (c.in_ok-carry_fork-in-Forks.ensures (fork-ready x (met x))) in
    ((on c.requires.0).same ∙ c.loop-row.invariant.0, λ x. (omega (arith, (c.loop-row.invariant.1 x).0, (on x).less), (on x).far))

pub run_routine-returns-in-Returns : goal.run_routine-returns-in-Returns
run_routine-returns-in-Returns t c x =
    let told = rw c.in-Returns.is at (c.in_ok-row.ensures (row-ready x c.loop-row.invariant.0 c.code_start-code.ensures.0 (c.loop-row.invariant.1 x).1)) in
    record { less = omega (arith, (c.loop-row.invariant.1 x).0, told.less); is = told.is }
