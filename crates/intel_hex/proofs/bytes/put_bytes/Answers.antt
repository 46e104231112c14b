-- `intel_hex::bytes::put_bytes` meets its contract: each turn stores one record's data. Assumes nothing.
use Rattle.std.proofs.Common.{refl, sym, ◌∙◌, arith}
use Rattle.intel_hex.proofs.LineLaws.{end-told, end-is}
use Rattle.intel_hex.proofs.Said.{next_of, kept-size, fits, stored, all-stored}
use Rattle.intel_hex.proofs.bytes.put_bytes.Goals as goal

pub count_at-n-requires : goal.count_at-n-requires
count_at-n-requires c = omega (arith, (next_of c.loop-at.invariant _ refl (omega (arith, c.requires.1, c.loop-at-test.true))).inside)

pub put_data-requires : goal.put_data-requires
put_data-requires c =
    let r = next_of c.loop-at.invariant _ c.count_at-n.ensures.0 (omega (arith, c.requires.1, c.loop-at-test.true)) in
    (r.digits, omega (arith, r.inside), omega (arith, fits c.loop-at.invariant _ r, kept-size c.loop-at.invariant, c.requires.1, c.requires.2))

pub line_end-requires : goal.line_end-requires
line_end-requires c = (next_of c.loop-at.invariant _ c.count_at-n.ensures.0 (omega (arith, c.requires.1, c.loop-at-test.true))).inside

pub unwrap-requires : goal.unwrap-requires
unwrap-requires c =
    let r = next_of c.loop-at.invariant _ c.count_at-n.ensures.0 (omega (arith, c.requires.1, c.loop-at-test.true)) in
    rw (c.line_end.ensures ∙ end-is _ _ r.ended)

pub overflow_add-from-in-loop-at : goal.overflow_add-from-in-loop-at
overflow_add-from-in-loop-at c = omega (arith, (end-told _ _ _ (sym c.line_end.ensures ∙ c.unwrap.ensures)).0, (next_of c.loop-at.invariant _ c.count_at-n.ensures.0 (omega (arith, c.requires.1, c.loop-at-test.true))).next)

pub loop-at-smaller : goal.loop-at-smaller
loop-at-smaller c = omega (arith, (next_of c.loop-at.invariant _ c.count_at-n.ensures.0 (omega (arith, c.requires.1, c.loop-at-test.true))).some, c.loop-at-test.true)

pub loop-at-preserved : goal.loop-at-preserved
loop-at-preserved c =
    let r = next_of c.loop-at.invariant _ c.count_at-n.ensures.0 (omega (arith, c.requires.1, c.loop-at-test.true)) in
    stored c.loop-at.invariant _ _ r (rw (← (end-told _ _ _ (sym c.line_end.ensures ∙ c.unwrap.ensures)).0)) c.put_data.ensures

pub returns : goal.returns
returns c =
    let n = c.requires.1 in
    rw n (all-stored c.loop-at.invariant (omega (arith, n, c.loop-at.invariant.most)) (omega (arith, n)))
