-- `image::verdict_of` meets its contract. Assumes nothing.
use borrow.Author.Rules.{rules}
use borrow.Author.Tests.{eq-eqb, ne_eqb, lt-ltb, le-ltb}
use mathlib.Core.Path.{sym, ◌∙◌}
use Rattle.image.specs.Image.{image_verdict}
use Rattle.image.proofs.Parts.{zeros}
use Rattle.image.proofs.verdict_of.Goals as goal
use Rattle.image.proofs.verdict_of.Goals.{then-n-eq0-via-then-n-eq0, then-n-eq0-via-else-n-eq0+then-n-gt4096, then-count-eq0-via-then-count-eq0, then-count-eq0-via-else-count-eq0+then-count-gt32, then-n-count-via-then-n-count, then-n-count-via-else-n-count+then-n-codes_end}

pub returns-then-n-eq0 : goal.returns-then-n-eq0
unfolding image_verdict
returns-then-n-eq0 c =
    elim c.then-n-eq0.branch [
      | then-n-eq0-via-then-n-eq0 v ↦ simp (eq-eqb _ _ v.if-n-eq0.true)
      | then-n-eq0-via-else-n-eq0+then-n-gt4096 v ↦ simp (ne_eqb _ _ v.if-n-eq0.false, lt-ltb _ _ v.if-n-gt4096.true)
    ]

pub returns-then-count-eq0 : goal.returns-then-count-eq0
unfolding image_verdict
returns-then-count-eq0 c =
    let count = c.from-count.ensures ∙ c.byte_at.ensures in
    let some = ne_eqb _ _ c.if-n-eq0.false in
    let few = le-ltb _ _ c.if-n-gt4096.false in
    elim c.then-count-eq0.branch [
      | then-count-eq0-via-then-count-eq0 v ↦ simp (some, few, rw count at (eq-eqb _ _ v.if-count-eq0.true))
      | then-count-eq0-via-else-count-eq0+then-count-gt32 v ↦ simp (some, few, rw count at (ne_eqb _ _ v.if-count-eq0.false), rw count at (lt-ltb _ _ v.if-count-gt32.true))
    ]

pub returns-then-n-count : goal.returns-then-n-count
unfolding image_verdict
returns-then-n-count c =
    let count = c.from-count.ensures ∙ c.byte_at.ensures in
    let some = ne_eqb _ _ c.if-n-eq0.false in
    let few = le-ltb _ _ c.if-n-gt4096.false in
    let least = rw count at (ne_eqb _ _ c.if-count-eq0.false) in
    let most = rw count at (le-ltb _ _ c.if-count-gt32.false) in
    elim c.then-n-count.branch [
      | then-n-count-via-then-n-count v ↦ simp (some, few, least, most, rw count at (lt-ltb _ _ v.if-n-count.true))
      | then-n-count-via-else-n-count+then-n-codes_end v ↦
          simp (some, few, least, most, rw count at (le-ltb _ _ v.if-n-count.false), rw (v.codes_end.ensures, count) at (ne_eqb _ _ v.if-n-codes_end.true))
    ]

pub returns-then-not-rows_good : goal.returns-then-not-rows_good
unfolding image_verdict
returns-then-not-rows_good c =
    let count = c.from-count.ensures ∙ c.byte_at.ensures in
    simp (
      ne_eqb _ _ c.if-n-eq0.false,
      le-ltb _ _ c.if-n-gt4096.false,
      rw count at (ne_eqb _ _ c.if-count-eq0.false),
      rw count at (le-ltb _ _ c.if-count-gt32.false),
      rw count at (le-ltb _ _ c.if-n-count.false),
      rw (c.codes_end.ensures, count) at (eq-eqb _ _ c.if-n-codes_end.false),
      rw count at (sym c.rows_good.ensures ∙ c.if-not-rows_good.true),
    )

pub routines_verdict-requires : goal.routines_verdict-requires
routines_verdict-requires c = (search rules, search rules, search rules, search rules, zeros 4096)

pub returns : goal.returns
unfolding image_verdict
returns c =
    let count = c.from-count.ensures ∙ c.byte_at.ensures in
    simp (
      c.routines_verdict.ensures,
      count,
      ne_eqb _ _ c.if-n-eq0.false,
      le-ltb _ _ c.if-n-gt4096.false,
      rw count at (ne_eqb _ _ c.if-count-eq0.false),
      rw count at (le-ltb _ _ c.if-count-gt32.false),
      rw count at (le-ltb _ _ c.if-n-count.false),
      rw (c.codes_end.ensures, count) at (eq-eqb _ _ c.if-n-codes_end.false),
      rw count at (sym c.rows_good.ensures ∙ c.if-not-rows_good.false),
    )
