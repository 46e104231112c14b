-- Assumes nothing.
use Rattle.std.proofs.Common.{ℕ, ◌≡◌, ◌∙◌, ap, List, length, take, arith}
use Rattle.stream.proofs.Known.{appends-known}
use Rattle.hex_read.specs.Given.{given_by}
use Rattle.hex_read.proofs.Whole.{given}
use Rattle.hex_read.proofs.read_text.Goals as goal

pub returns : goal.returns
returns g c =
    let size : length c.read_full.new.buffer ≡ 983054 = omega arith in
    let says = λ (xs : List ℕ) (is : take c.in_ok-got.got c.read_full.new.buffer ≡ take (length c.read_full.new.buffer) xs).
    let front-of : take c.in_ok-got.got c.read_full.new.buffer ≡ take 983054 xs = is ∙ ap (λ (m : ℕ). take m xs) size in
    given _ _ _ _ (omega arith) c.read_output-n.ensures ∙ ap given_by front-of in
    appends-known (λ (xs : List ℕ). given_by (take 983054 xs)) _ _ _ _ _ _ _ c.in_ok-got.ensures.front says c.write_all.ensures.bytes
