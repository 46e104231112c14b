-- `search::on_core` meets its contract. Assumes nothing.
use mathlib.Core.Path.{refl, sym}
use Rattle.tables.proofs.Meaning.{core-none}
use Rattle.tables.proofs.Changes.{core-seen}
use Rattle.search.proofs.on_core.Goals as goal

pub returns-then-c-ge4 : goal.returns-then-c-ge4
returns-then-c-ge4 c =
    let args' = c.args in
    record { means = λ l words memory. sym (core-none args'.tables.now words memory args'.c c.if-c-ge4.true); other = λ n. refl }

pub returns : goal.returns
returns c =
    record { means = λ l words memory. core-seen l words memory _ _ c.if-c-ge4.false c.core_at.ensures; other = c.core_at.ensures.other }
