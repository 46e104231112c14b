-- `intel_hex::writing::put_full` meets its contract: one character more each turn, and then one byte more. Assumes nothing.
use Rattle.std.proofs.Common.{refl, ◌∙◌, arith, take_all}
use Rattle.hex_format.specs.Text.{pairs_of, total}
use Rattle.intel_hex.proofs.Storing.{puts_none, puts-same, one-more-stored}
use Rattle.intel_hex.proofs.TextLaws.{pairs-length, one-more-summed, all-summed}
use Rattle.intel_hex.proofs.FullText.{character-at}
use Rattle.intel_hex.proofs.writing.put_full.Goals as goal

pub loop-i-init : goal.loop-i-init
loop-i-init c = puts_none _ _

pub loop-i-preserved : goal.loop-i-preserved
loop-i-preserved c =
    let e = c.capital.ensures ∙ character-at c.args.bytes.now c.loop-i.i _ _ (omega (arith, c.requires.0)) (c.doubled-twice.ensures c.loop-i.i (omega arith)) c.digit.ensures.0 in
    rw e (one-more-stored _ _ (omega (arith, pairs-length c.args.bytes.now, c.requires.0)) c.loop-i.invariant)

pub loop-k-init : goal.loop-k-init
unfolding total
loop-k-init c = refl

pub loop-k-preserved : goal.loop-k-preserved
loop-k-preserved c = one-more-summed _ _ _ (omega (arith, c.requires.0)) c.loop-k.invariant

pub returns : goal.returns
returns c =
    (puts-same c.loop-i.invariant (take_all c.loop-i.i (pairs_of c.args.bytes.now) (omega (arith, pairs-length c.args.bytes.now, c.requires.0))), all-summed _ _ _ (omega (arith, c.requires.0)) c.loop-k.invariant)
