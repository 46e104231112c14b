-- `intel_hex::scan::scan` meets its contract: each turn tests one line more. Assumes nothing.
use Rattle.std.proofs.Common.{◌∙◌}
use Rattle.std.proofs.lemmas.Result.{err_from_is_err_and}
use Rattle.intel_hex.proofs.Scanning.{refused, found, not_found, end-of-more, end-elsewhere, text-after, no-data, ended, more, all_lines}
use Rattle.intel_hex.proofs.scan.scan.Goals as goal
use Rattle.intel_hex.proofs.scan.scan.Goals.{then-found-ne0-via-then-found-ne0, then-found-ne0-via-else-found-ne0+then-found-ne0-2, then-found-ne0-via-else-found-ne0+else-found-ne0-2+then-found-text}

pub returns-in_err-found : goal.returns-in_err-found
returns-in_err-found c =
    let p = err_from_is_err_and c.from_residual.result c.from_residual.ensures.1 in
    rw (p.1, p.2) (not_found c.loop-at.invariant c.line_at.ensures c.in_err-found.ensures.ok_part c.in_err-found.ensures.value)

pub returns-then-found-eq0 : goal.returns-then-found-eq0
returns-then-found-eq0 c = refused c.loop-at.invariant (no-data c.args.text.now c.loop-at.at _ (found _ c.line_at.ensures c.in_ok-found.ensures.ok_part) c.in-Data.is c.if-found-eq0.true)

pub loop-at-preserved : goal.loop-at-preserved
loop-at-preserved c = more _ _ _ (found _ c.line_at.ensures c.in_ok-found.ensures.ok_part) c.in-Data.is c.if-found-eq0.false _ _ _ c.loop-at.invariant

pub returns-then-found-ne0 : goal.returns-then-found-ne0
returns-then-found-ne0 c =
    let stands = found _ c.line_at.ensures c.in_ok-found.ensures.ok_part in
    elim c.then-found-ne0.branch [
      | then-found-ne0-via-then-found-ne0 w ↦ refused c.loop-at.invariant (end-of-more c.args.text.now c.loop-at.at _ stands c.in-End.is w.if-found-ne0.true)
      | then-found-ne0-via-else-found-ne0+then-found-ne0-2 w ↦ refused c.loop-at.invariant (end-elsewhere c.args.text.now c.loop-at.at _ stands c.in-End.is w.if-found-ne0.false w.if-found-ne0-2.true)
      | then-found-ne0-via-else-found-ne0+else-found-ne0-2+then-found-text w ↦ refused c.loop-at.invariant (text-after c.args.text.now c.loop-at.at _ stands c.in-End.is w.if-found-ne0.false w.if-found-ne0-2.false w.if-found-text.true)
    ]

pub returns-in-End : goal.returns-in-End
returns-in-End c =
    c.tested.ensures ∙ ended _ _ _ (found _ c.line_at.ensures c.in_ok-found.ensures.ok_part) c.in-End.is c.if-found-ne0.false c.if-found-ne0-2.false c.if-found-text.false _ _ _ c.loop-at.invariant

pub returns : goal.returns
returns c = c.tested-2.ensures ∙ all_lines c.loop-at.invariant c.loop-at-test.false
