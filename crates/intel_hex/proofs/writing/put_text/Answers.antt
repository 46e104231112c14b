-- `intel_hex::writing::put_text` meets its contract: each turn writes a full record. Assumes nothing.
use Rattle.std.proofs.Common.{◌≡◌, ◌*◌, ◌/◌, length, refl, add-one, arith}
use Rattle.hex_format.specs.Text.{data_lines}
use Rattle.intel_hex.proofs.Storing.{puts_none}
use Rattle.intel_hex.proofs.Written.{part-full, part-rest, next-lines, even-text, puts-line, rest-text}
use Rattle.intel_hex.proofs.writing.put_text.Goals as goal

pub loop-k-init : goal.loop-k-init
unfolding data_lines
loop-k-init c = puts_none _ _

pub loop-k-preserved : goal.loop-k-preserved
loop-k-preserved c = rw (add-one c.loop-k.k) (next-lines c.args.image.now c.loop-k.k (omega arith) c.loop-k.invariant _ (part-full c.args.image.now (16 * c.loop-k.k)) c.put_line.ensures)

pub returns-then-from-image : goal.returns-then-from-image
returns-then-from-image c =
    let n : c.loop-k.k ≡ length c.args.image.now / 16 = omega arith in
    rest-text c.args.image.now (length c.args.image.now / 16) (omega arith) (rw n at c.loop-k.invariant) (omega arith) (omega arith) _ refl (puts-line _ _ _ (part-rest c.args.image.now (16 * (length c.args.image.now / 16))) c.put_line-then-from-image.ensures) c.put_end.ensures

pub returns-else-from-image : goal.returns-else-from-image
returns-else-from-image c =
    let n : c.loop-k.k ≡ length c.args.image.now / 16 = omega arith in
    even-text c.args.image.now (length c.args.image.now / 16) (omega arith) (rw n at c.loop-k.invariant) (omega arith) c.put_end-else-from-image.ensures
