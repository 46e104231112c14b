-- `image::routines_verdict` meets its contract. Assumes nothing.
use borrow.Rule.Slice.PartMut.{mid_len}
use borrow.Author.Rules.{rules}
use mathlib.Core.Path.{refl, sym, ◌∙◌}
use Prim.Native.Nat.{◌+◌}
use native.Mathlib.Omega.{arith}
use Rattle.std.proofs.lemmas.Result.{err_from_is_err_and}
use Rattle.image.proofs.Parts.{part-blank, part-back}
use Rattle.image.proofs.Places.{start_first, start-next, code_inside, routine-passes, routine-fails, routines-end, routine-at, first-routine}
use Rattle.image.proofs.routines_verdict.Goals as goal

pub loop-r-init : goal.loop-r-init
loop-r-init c = (start_first _ _ c.requires.0, first-routine _ _, λ t h. c.requires.4 t, refl)

pub overflow_add-end : goal.overflow_add-end
overflow_add-end c = omega (arith, code_inside c.args.image.now c.loop-r.r c.args.count (omega arith), c.length_of.ensures, c.loop-r.invariant.0, c.requires.2)

pub slice_bounds-code-count : goal.slice_bounds-code-count
slice_bounds-code-count c = omega (arith, code_inside c.args.image.now c.loop-r.r c.args.count (omega arith), c.length_of.ensures, c.loop-r.invariant.0, c.requires.2)

pub slice_bounds-code-start : goal.slice_bounds-code-start
slice_bounds-code-start c = omega (arith, code_inside c.args.image.now c.loop-r.r c.args.count (omega arith), c.length_of.ensures, c.loop-r.invariant.0, c.requires.2)

pub slice_bounds-code-end : goal.slice_bounds-code-end
slice_bounds-code-end c = omega (arith, code_inside c.args.image.now c.loop-r.r c.args.count (omega arith), c.length_of.ensures, c.loop-r.invariant.0, c.requires.2)

pub slice_bounds-check_routine-count : goal.slice_bounds-check_routine-count
slice_bounds-check_routine-count c = omega (arith, code_inside c.args.image.now c.loop-r.r c.args.count (omega arith), c.length_of.ensures, c.loop-r.invariant.0, c.requires.2)

pub slice_bounds-check_routine-start : goal.slice_bounds-check_routine-start
slice_bounds-check_routine-start c = omega (arith, code_inside c.args.image.now c.loop-r.r c.args.count (omega arith), c.length_of.ensures, c.loop-r.invariant.0, c.requires.2)

pub slice_bounds-check_routine-end : goal.slice_bounds-check_routine-end
slice_bounds-check_routine-end c = omega (arith, code_inside c.args.image.now c.loop-r.r c.args.count (omega arith), c.length_of.ensures, c.loop-r.invariant.0, c.requires.2, c.requires.3, c.loop-r.invariant.3)

pub check_routine-requires : goal.check_routine-requires
check_routine-requires c = (
  mid_len c.loop-r.start (c.loop-r.start + c.length_of.result) c.args.image.now (omega (arith, code_inside c.args.image.now c.loop-r.r c.args.count (omega arith), c.length_of.ensures, c.loop-r.invariant.0, c.requires.2))
      ∙ sym (mid_len c.loop-r.start (c.loop-r.start + c.length_of.result) c.loop-r.marks (omega (arith, code_inside c.args.image.now c.loop-r.r c.args.count (omega arith), c.length_of.ensures, c.loop-r.invariant.0, c.requires.2, c.requires.3, c.loop-r.invariant.3))),
  part-blank _ _ _ c.loop-r.invariant.2,
)

pub returns-in_err-check_routine : goal.returns-in_err-check_routine
returns-in_err-check_routine c =
    let p = err_from_is_err_and c.from_residual.result c.from_residual.ensures.1 in
    let is = routine-at _ _ _ _ _ _ c.loop-r.invariant.0 c.length_of.ensures c.byte_at-slots.ensures c.check_routine.ensures in
    rw (p.1, p.2) (routine-fails _ _ _ _ _ (omega arith) is c.in_err-check_routine.was ∙ c.loop-r.invariant.1)

pub loop-r-preserved : goal.loop-r-preserved
loop-r-preserved c = (
  rw (c.loop-r.invariant.0, c.length_of.ensures) (start-next _ _),
  sym (routine-passes _ _ _ _ (omega arith) (routine-at _ _ _ _ _ _ c.loop-r.invariant.0 c.length_of.ensures c.byte_at-slots.ensures c.check_routine.ensures) c.in_ok-check_routine.was) ∙ c.loop-r.invariant.1,
  part-back _ _ _ c.loop-r.invariant.2 c.check_routine.new.marks c.check_routine.auto.marks (omega arith) (omega (arith, code_inside c.args.image.now c.loop-r.r c.args.count (omega arith), c.length_of.ensures, c.loop-r.invariant.0, c.requires.2, c.requires.3, c.loop-r.invariant.3)),
  search rules,
)

pub returns : goal.returns
returns c = routines-end _ _ _ (omega arith) ∙ c.loop-r.invariant.1
