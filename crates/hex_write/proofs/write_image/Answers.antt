-- Assumes nothing.
use Rattle.std.proofs.Common.{ℕ, ◌≡◌, ◌∙◌, ap, List, length, take, arith}
use Rattle.stream.proofs.Known.{appends-known}
use Rattle.hex_write.specs.Written.{written_of}
use Rattle.hex_write.proofs.Whole.{written}
use Rattle.hex_write.proofs.write_image.Goals as goal

pub returns : goal.returns
returns g c =
    let size : length c.read_full.new.buffer ≡ 4097 = omega arith in
    let says = λ (xs : List ℕ) (is : take c.in_ok-got.got c.read_full.new.buffer ≡ take (length c.read_full.new.buffer) xs).
    let front-of : take c.in_ok-got.got c.read_full.new.buffer ≡ take 4097 xs = is ∙ ap (λ (m : ℕ). take m xs) size in
    written xs _ _ _ _ (omega arith) front-of c.write_output-n.ensures in
    appends-known written_of _ _ _ _ _ _ _ c.in_ok-got.ensures.front says c.write_all.ensures.bytes
