-- `serial::serial` meets its contract. Assumes nothing.
use mathlib.Core.Path.{◌≡◌, sym, ◌∙◌, ap}
use native.Mathlib.Omega.{arith}
use lib.ListN.{length}
use Rattle.std.specs.Prelude.{Ok}
use Rattle.image.specs.Layout.{arguments_of, program_of, starts_in}
use Rattle.image.specs.Image.{image_verdict}
use Rattle.image.proofs.Accepted.{accepted}
use Rattle.std.proofs.lemmas.Result.{err_from_is_err_and}
use Rattle.image.proofs.Answer.{answer-accepts, answer-refuses}
use Rattle.serial.specs.Serial.{started_on, ended_by}
use Rattle.serial.proofs.Whole.{refused, wrong-count, wrong-parameters, wrong-memory, few-arguments, whole-far, whole_run, ended-less, ended-is}
use Rattle.serial.proofs.serial.Goals as goal
use Rattle.serial.proofs.serial.Goals.{After-root, then-parameters-ne32-via-then-parameters-ne32, then-parameters-ne32-via-else-parameters-ne32+then-memory-ne992}
use Rattle.serial.specs.Steps.{Come}

-- all tests are passed, and the run is to start
checked : (c : After-root) → image_verdict c.args.image.now ≡ Ok tt
checked c = (answer-accepts _ _ (sym c.check.ensures ∙ c.in_ok-program.was)).0

starts-are : (c : After-root) → c.starts-starts.result ≡ starts_in (program_of c.args.image.now)
starts-are c = c.starts-starts.ensures ∙ ap starts_in (answer-accepts _ _ (sym c.check.ensures ∙ c.in_ok-program.was)).1

count-is : (c : After-root) → length c.args.arguments.now ≡ arguments_of c.args.image.now 0
count-is c = c.if-arguments-from.false ∙ c.from.ensures ∙ c.arguments_of.ensures

-- the run as it starts
abbrev come : (c : After-root)
    → Come c.args.image.now c.starts-starts.result c.args.parameters.now 1 (started_on 0 c.args.arguments.now c.root.result) c.args.memory.now c.args.allowance
come c = let a = c.args in record {
  allowance = a.allowance;
  whole = _;
  far = whole-far a.image.now a.parameters.now a.arguments.now a.memory.now a.allowance (checked c) _ (starts-are c) _ c.root.ensures (count-is c)
      (λ i. omega (arith, c.type_inv.image i)) c.if-parameters-ne32.false c.if-memory-ne992.false;
}

pub returns-in_err-program : goal.returns-in_err-program
returns-in_err-program c =
    let a = c.args in
    let e = err_from_is_err_and c.from_residual.result c.from_residual.ensures.1 in
    rw (e.1, e.2) (refused a.image.now a.parameters.now a.arguments.now a.memory.now a.allowance _ (answer-refuses _ _ (sym c.check.ensures ∙ c.in_err-program.was)))

pub returns-then-arguments-from : goal.returns-then-arguments-from
returns-then-arguments-from c =
    ap (λ r. ended_by r c.args.memory.now) c.refused.ensures
    ∙ wrong-count _ _ _ _ _ (answer-accepts _ _ (sym c.check.ensures ∙ c.in_ok-program.was)).0 (λ e. c.if-arguments-from.true (e ∙ sym (c.from.ensures ∙ c.arguments_of.ensures)))

pub returns-then-parameters-ne32 : goal.returns-then-parameters-ne32
returns-then-parameters-ne32 c =
    let accepted = (answer-accepts _ _ (sym c.check.ensures ∙ c.in_ok-program.was)).0 in
    let count = c.if-arguments-from.false ∙ c.from.ensures ∙ c.arguments_of.ensures in
    ap (λ r. ended_by r c.args.memory.now) c.refused-then-parameters-ne32.ensures
    ∙ elim c.then-parameters-ne32.branch [
      | then-parameters-ne32-via-then-parameters-ne32 w ↦ wrong-parameters _ _ _ _ _ accepted count w.if-parameters-ne32.true
      | then-parameters-ne32-via-else-parameters-ne32+then-memory-ne992 w ↦ wrong-memory _ _ _ _ _ accepted count w.if-parameters-ne32.false w.if-memory-ne992.true
    ]

pub pad-padded-requires : goal.pad-padded-requires
pad-padded-requires c = (accepted _ (answer-accepts _ _ (sym c.check.ensures ∙ c.in_ok-program.was)).0).size

pub run_routine-ending-requires : goal.run_routine-ending-requires
run_routine-ending-requires c =
    let a = c.args in
    let few = few-arguments a.image.now a.parameters.now a.arguments.now a.memory.now a.allowance (checked c) (count-is c) in
    (come c, omega arith, few, c.pad-padded.ensures)

pub with_units-requires : goal.with_units-requires
with_units-requires c = ended-less _ _ _ _ _ (c.run_routine-ending.ensures (come (goal.at.with_units-requires c).After-root))

pub returns : goal.returns
returns c =
    let a = c.args in
    let d = (goal.at.returns c).After-root in
    whole_run a.image.now a.parameters.now a.arguments.now a.memory.now a.allowance (checked d) _ (starts-are d) _ c.root.ensures (count-is d) _
    c.if-parameters-ne32.false c.if-memory-ne992.false
    (ap (λ r. ended_by r c.run_routine-ending.new.memory) c.with_units.ensures ∙ ended-is _ _ _ _ _ (c.run_routine-ending.ensures (come d)))
