-- `tables::marks::standing` meets its contract. Assumes nothing.
use Rattle.tables.proofs.Changes.{read}
use Rattle.tables.proofs.Stores.{standing-is}
use Rattle.tables.specs.Cells.{two_at}
use Rattle.tables.specs.Meaning.{meaning}
use Rattle.rules.specs.State.{going, finished, faulted}
use Rattle.std.proofs.Common.{◌≡◌, ℕ, arith, get_or, sym, ap, ◌∙◌}
use Rattle.tables.proofs.marks.standing.Goals as goal

pub returns-in-0 : goal.returns-in-0
unfolding meaning
returns-in-0 c =
    let args' = c.args in
    read args'.tables.now (λ s. s.outcome) going _ c.if-tables-ne-SIZE.false (λ words memory. sym ((standing-is args'.tables.now).0 c.in-0.is))

pub returns-in-1 : goal.returns-in-1
unfolding meaning
returns-in-1 c =
    let args' = c.args in
    read args'.tables.now (λ s. s.outcome) going _ c.if-tables-ne-SIZE.false (λ words memory. ap finished c.four_at.ensures ∙ sym ((standing-is args'.tables.now).1 (λ e. omega (arith, e, c.in-1.is)) c.in-1.is))

pub returns-in_default : goal.returns-in_default
unfolding meaning
returns-in_default c =
    let args' = c.args in
    let number : c.from_le_bytes.result ≡ two_at args'.tables.now 780 = omega (arith, c.from_le_bytes.ensures) in
    read args'.tables.now (λ s. s.outcome) going _ c.if-tables-ne-SIZE.false (λ words memory. ap (λ (o : ℕ). faulted (get_or args'.tables.now 778 0) (get_or args'.tables.now 779 0) o) number ∙ sym ((standing-is args'.tables.now).2 (λ e. omega (arith, e)) (λ e. omega (arith, e))))
