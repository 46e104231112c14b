-- Assumes nothing.
use Rattle.std.proofs.Common.{ℕ, ◌≡◌, ◌∙◌, ap, List, length, take, arith}
use Rattle.stream.proofs.Known.{appends-known}
use Rattle.transcript.specs.Transcript.{text_of}
use Rattle.print.proofs.Whole.{printed, whole-known}
use Rattle.print.proofs.print_job.Goals as goal

pub returns : goal.returns
returns g c =
    let size : length c.read_full.new.buffer ≡ 99332 = omega arith in
    let says = λ (xs : List ℕ) (is : take c.in_ok-got.got c.read_full.new.buffer ≡ take (length c.read_full.new.buffer) xs).
    let front-of : take c.in_ok-got.got c.read_full.new.buffer ≡ take 99332 xs = is ∙ ap (λ (m : ℕ). take m xs) size in
    printed _ _ _ _ (omega arith) c.print-n.ensures ∙ ap text_of front-of in
    whole-known _ _ _ _ (appends-known (λ (xs : List ℕ). text_of (take 99332 xs)) _ _ _ _ _ _ _ c.in_ok-got.ensures.front says c.write_all.ensures.bytes)
