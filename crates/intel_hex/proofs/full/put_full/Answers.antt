-- `intel_hex::full::put_full` meets its contract. Assumes nothing.
use Rattle.std.proofs.Common.{◌∙◌, arith}
use Rattle.intel_hex.proofs.Storing.{sets-mid}
use Rattle.intel_hex.proofs.Said.{pairs-size}
use Rattle.intel_hex.proofs.full.put_full.Goals as goal

pub returns : goal.returns
returns c =
    let size = pairs-size c.args.text.now c.args.from 16 in
    sets-mid _ _ _ _ _ (c.copy_from_slice.ensures.after ∙ c.decode.ensures) (omega (arith, size)) (omega (arith, size, c.requires.2))
