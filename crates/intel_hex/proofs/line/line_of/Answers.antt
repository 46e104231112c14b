-- `intel_hex::line::line_of` meets its contract: by positions alone it finds the line's record, or what no line of a record can have. Assumes nothing.
use Rattle.std.proofs.Common.{sym, ◌∙◌, arith}
use Rattle.intel_hex.proofs.LineLaws.{end-told, no-end}
use Rattle.intel_hex.proofs.Standing.{stands, not-whole, never-heavy, never-open}
use Rattle.intel_hex.proofs.line.line_of.Goals as goal

pub returns-then-sum-gt8191 : goal.returns-then-sum-gt8191
returns-then-sum-gt8191 c =
    not-whole c.args.text.now c.args.at (omega (arith, c.requires.inside)) (λ w. never-heavy _ _ _ (sym c.requires.count) w _ c.requires.weighs (omega (arith, c.byte-high.ensures.0, c.byte-low.ensures.0, c.byte.ensures.0, c.number.ensures, c.requires.count, c.requires.type)))

pub returns-in_err-next : goal.returns-in_err-next
returns-in_err-next c = rw c.from_residual.ensures (not-whole c.args.text.now c.args.at (omega (arith, c.requires.inside)) (λ w. never-open _ _ _ (sym c.requires.count) w (no-end _ _ (sym c.line_end.ensures ∙ c.in_err-next.was))))

pub overflow_add-next : goal.overflow_add-next
overflow_add-next c = omega (arith, (end-told _ _ _ (sym c.line_end.ensures ∙ c.in_ok-next.was)).1, c.requires.inside)

pub returns : goal.returns
returns c =
    let e = end-told _ _ _ (sym c.line_end.ensures ∙ c.in_ok-next.was) in
    stands _ _ _ _ _ c.requires.inside c.requires.colon c.requires.count c.requires.few c.requires.weighs (omega (arith, c.byte-high.ensures.0, c.byte-low.ensures.0, c.byte.ensures.0, c.number.ensures, c.requires.count, c.requires.type)) (omega arith) (sym e.0) e.1
    (omega (arith, c.byte-high.ensures.0, c.byte-low.ensures.0)) (sym c.requires.type)
