-- `command::read` meets its contract. Assumes nothing.
use borrow.Author.Tests.{le-leb, lt-leb, eq-eqb, ne_eqb, lt-ltb, le-ltb, ltb-true, ltb-false}
use mathlib.Core.Path.{sym, ◌∙◌, ap}
use native.Mathlib.Omega.{arith}
use Rattle.std.proofs.lemmas.List.{get_or_read}
use Rattle.command.specs.Command.{command_at, width_of}
use Rattle.command.proofs.RoundTrip.{read_as}
use Rattle.command.proofs.read.Goals as goal

pub returns-in_default : goal.returns-in_default
unfolding command_at
returns-in_default c =
    read_as _ (λ i. omega (arith, c.type_inv.bytes i)) _ _
    (simp (le-leb _ _ (ltb-false _ _ (sym c.in_default.ensures.lookup.0))))

pub returns-then-width-eq0 : goal.returns-then-width-eq0
unfolding command_at
returns-then-width-eq0 c =
    let inside = ltb-true _ _ (sym c.in-Some.ensures.lookup.0) in
    let width = c.width-width.ensures ∙ ap width_of (get_or_read _ _ _ inside c.in-Some.ensures.lookup.1 0) in
    read_as _ (λ i. omega (arith, c.type_inv.bytes i)) _ _
    (simp (lt-leb _ _ inside, rw width at (eq-eqb _ _ c.if-width-eq0.true)))

pub returns-then-bytes-at : goal.returns-then-bytes-at
unfolding command_at
returns-then-bytes-at c =
    let inside = ltb-true _ _ (sym c.in-Some.ensures.lookup.0) in
    let width = c.width-width.ensures ∙ ap width_of (get_or_read _ _ _ inside c.in-Some.ensures.lookup.1 0) in
    read_as _ (λ i. omega (arith, c.type_inv.bytes i)) _ _
    (simp (lt-leb _ _ inside, rw width at (ne_eqb _ _ c.if-width-eq0.false), rw (c.from.ensures, width) at (lt-ltb _ _ c.if-bytes-at.true)))

pub returns : goal.returns
unfolding command_at
returns c =
    let inside = ltb-true _ _ (sym c.in-Some.ensures.lookup.0) in
    let width = c.width-width.ensures ∙ ap width_of (get_or_read _ _ _ inside c.in-Some.ensures.lookup.1 0) in
    let found = rw c.five_at.ensures at c.command_of.ensures in
    read_as _ (λ i. omega (arith, c.type_inv.bytes i)) _ _
    (simp (lt-leb _ _ inside, rw width at (ne_eqb _ _ c.if-width-eq0.false), rw (c.from.ensures, width) at (le-ltb _ _ c.if-bytes-at.false), found, width))
