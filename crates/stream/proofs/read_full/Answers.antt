use Rattle.std.proofs.Common.{rules, length, ◌-◌, subst}
use Rattle.std.specs.Io.KnownBytes.{Consumes}
use Rattle.std.proofs.KnownBytes.{Consumes-trans}
use Rattle.stream.proofs.Parts.{take-put_mid}
use Rattle.stream.proofs.read_full.Goals as goal

pub loop-n-preserved : goal.loop-n-preserved
loop-n-preserved g c =
    let n = c.loop-n.n in
    let kept = c.loop-n.invariant in
    let joined = take-put_mid n (length c.loop-n.buffer - n) c.in_ok-got.got c.loop-n.buffer c.read.new.buf kept.in_range c.in_ok-got.ensures.bound.0 in
    record {
      in_range = search rules;
      same_length = search rules;
      given = subst (Consumes _ _) joined (Consumes-trans _ _ _ _ _ kept.given c.in_ok-got.ensures.bytes.0);
    }
