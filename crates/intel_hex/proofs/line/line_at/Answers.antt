-- `intel_hex::line::line_at` meets its contract. Assumes nothing.
use Rattle.std.proofs.Common.{sym, ◌∙◌, arith}
use Rattle.intel_hex.proofs.Standing.{weighs-itself, not-whole, full-told}
use Rattle.intel_hex.proofs.line.line_at.Goals as goal
use Rattle.intel_hex.proofs.line.line_at.Goals.{then-left-lt11-via-then-left-lt11, then-left-lt11-via-else-left-lt11+then-text-at-ne58, then-count-gt16-via-then-count-gt16, then-count-gt16-via-else-count-gt16+then-left-count, in-0, in-1}

pub returns-then-left-lt11 : goal.returns-then-left-lt11
returns-then-left-lt11 c =
    not-whole _ _ c.requires (λ v. elim c.then-left-lt11.branch [
      | then-left-lt11-via-then-left-lt11 w ↦ omega (arith, v.inside)
      | then-left-lt11-via-else-left-lt11+then-text-at-ne58 w ↦ w.if-text-at-ne58.true v.colon
    ])

pub line_of-requires : goal.line_of-requires
line_of-requires c =
    let f = c.is_full.ensures c.if-is_full.true in
    let t = full-told c.args.text.now c.args.at f in
    record { colon = c.if-text-at-ne58.false; count = t.0; few = omega arith; type = t.1; inside = omega (arith, f.enough); weighs = c.full_sum.ensures }

pub returns-then-count-gt16 : goal.returns-then-count-gt16
returns-then-count-gt16 c =
    not-whole _ _ c.requires (λ v. elim c.then-count-gt16.branch [
      | then-count-gt16-via-then-count-gt16 w ↦ omega (arith, c.byte-count.ensures.0, v.count, v.few)
      | then-count-gt16-via-else-count-gt16+then-left-count w ↦ omega (arith, c.byte-count.ensures.0, v.count, v.inside)
    ])

pub returns-in_default : goal.returns-in_default
returns-in_default c = not-whole _ _ c.requires (λ v. omega (arith, c.byte.ensures.0, v.type))

pub line_of-requires-2 : goal.line_of-requires-2
line_of-requires-2 c =
    record {
      colon = c.if-text-at-ne58.false;
      count = sym c.byte-count.ensures.0;
      few = omega arith;
      type = elim c.match-byte.branch [ in-0 w ↦ rw w.kind-is (sym c.byte.ensures.0 ∙ w.in-0.is) | in-1 w ↦ rw w.kind-is (sym c.byte.ensures.0 ∙ w.in-1.is) ];
      inside = omega arith;
      weighs = weighs-itself _ _ _ _ (omega arith) c.sum.ensures;
    }
