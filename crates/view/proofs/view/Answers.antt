-- `view::view` meets its contract: each way out is one case of the part that is shown. Assumes nothing.
use borrow.Author.Rules.{rules}
use Rattle.view.specs.Part.{parameters, memory, nothing}
use Rattle.view.proofs.Cases.{wrong-parameters, wrong-memory, reversed, low, crossing, past, high, shows}
use Rattle.view.proofs.view.Goals as goal
use Rattle.view.proofs.view.Goals.{then-parameters-ne-PARAMETERS-via-then-parameters-ne-PARAMETERS, then-parameters-ne-PARAMETERS-via-else-parameters-ne-PARAMETERS+then-memory-ne-MEMORY, then-parameters-ne-PARAMETERS-via-else-parameters-ne-PARAMETERS+else-memory-ne-MEMORY+then-q-p, then-p-lt-PARAMETERS-via-then-p-lt-PARAMETERS, then-p-lt-PARAMETERS-via-else-p-lt-PARAMETERS+then-q}

pub returns-then-parameters-ne-PARAMETERS : goal.returns-then-parameters-ne-PARAMETERS
returns-then-parameters-ne-PARAMETERS c =
    elim c.then-parameters-ne-PARAMETERS.branch [
      | then-parameters-ne-PARAMETERS-via-then-parameters-ne-PARAMETERS w ↦ shows _ _ _ _ nothing _ (wrong-parameters _ _ _ _ w.if-parameters-ne-PARAMETERS.true) (search rules)
      | then-parameters-ne-PARAMETERS-via-else-parameters-ne-PARAMETERS+then-memory-ne-MEMORY w ↦
          shows _ _ _ _ nothing _ (wrong-memory _ _ _ _ w.if-parameters-ne-PARAMETERS.false w.if-memory-ne-MEMORY.true) (search rules)
      | then-parameters-ne-PARAMETERS-via-else-parameters-ne-PARAMETERS+else-memory-ne-MEMORY+then-q-p w ↦
          shows _ _ _ _ nothing _ (reversed _ _ _ _ w.if-parameters-ne-PARAMETERS.false w.if-memory-ne-MEMORY.false w.if-q-p.true) (search rules)
    ]

pub returns-then-q-le-PARAMETERS : goal.returns-then-q-le-PARAMETERS
returns-then-q-le-PARAMETERS c =
    shows _ _ _ _ (parameters _ _) _
    (low _ _ _ _ c.if-parameters-ne-PARAMETERS.false c.if-memory-ne-MEMORY.false c.if-q-p.false c.if-q-le-PARAMETERS.true)
    (search rules)

pub returns-then-p-lt-PARAMETERS : goal.returns-then-p-lt-PARAMETERS
returns-then-p-lt-PARAMETERS c =
    elim c.then-p-lt-PARAMETERS.branch [
      | then-p-lt-PARAMETERS-via-then-p-lt-PARAMETERS w ↦
          shows _ _ _ _ nothing _
          (crossing _ _ _ _ c.if-parameters-ne-PARAMETERS.false c.if-memory-ne-MEMORY.false c.if-q-p.false c.if-q-le-PARAMETERS.false w.if-p-lt-PARAMETERS.true) (search rules)
      | then-p-lt-PARAMETERS-via-else-p-lt-PARAMETERS+then-q w ↦
          shows _ _ _ _ nothing _
          (past _ _ _ _ c.if-parameters-ne-PARAMETERS.false c.if-memory-ne-MEMORY.false c.if-q-p.false c.if-q-le-PARAMETERS.false w.if-p-lt-PARAMETERS.false w.if-q.true)
          (search rules)
    ]

pub returns : goal.returns
returns c =
    shows _ _ _ _ (memory _ _) _
    (high _ _ _ _ c.if-parameters-ne-PARAMETERS.false c.if-memory-ne-MEMORY.false c.if-q-p.false c.if-q-le-PARAMETERS.false
    c.if-p-lt-PARAMETERS.false c.if-q.false)
    (search rules)
