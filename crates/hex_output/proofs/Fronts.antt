-- Laws of an output's front: what an accepted call has written there, and the line of a refused one. Assumes nothing.
use mathlib.Core.List.{List, ◌++◌}
use mathlib.Core.Path.{◌≡◌, refl, sym, ap, ◌∙◌}
use Prim.Native.Nat.{ℕ, zero, suc, ◌+◌, ◌≤◌}
use native.Mathlib.Nat.{zero-add}
use native.Mathlib.Omega.{arith}
use lib.ListN.{length, take, drop}
use lib.Seq.{sets, sets-eq, take_at}
use Rattle.text.specs.Text.{ascii}
use Rattle.text.specs.Buffer.{Put}
use Rattle.text.proofs.LineLaws.{few-spaced, one_number}
use Rattle.hex_output.specs.Output.{refused_line, output_for}

-- bytes over the front of an output that has room for them
pub laid : {before after : List ℕ} (given : List ℕ) (n : ℕ) → n ≡ length given → n ≤ length before → after ≡ given ++ drop n before → Put given before 0 n after
laid {before} {after} given n e h is =
    let front : sets before 0 given ≡ given ++ drop n before = sets-eq given before 0 (omega arith) ∙ rw (zero-add (length given), e) in
    record { bytes = is ∙ sym front; position = e ∙ sym (zero-add (length given)) }

-- the line of a number that is not 0
pub refused-for : (number : ℕ) (given : List ℕ) → (number ≡ 0 → ⊥) → output_for number given ≡ refused_line number
refused-for zero given some = absurd (some refl)
refused-for (suc n) given some = refl

-- a number of two digits: `refused 25` and LF have 11 characters
pub few-refused : (number : ℕ) → number ≤ 99 → length (refused_line number) ≤ 11
few-refused number h = omega (arith, one_number (ascii "refused") number, few-spaced 1 number (omega arith))

-- a text that a buffer has room for is what stands at its front then
pub front-put : (text before after : List ℕ) (n : ℕ) → Put text before 0 n after → n ≤ length before → take n after ≡ text
front-put text before after n p h =
    let size : length text ≡ n = omega (arith, p.position) in
    let front : after ≡ text ++ drop (0 + length text) before = p.bytes ∙ sets-eq text before 0 (omega arith) in
    ap (take n) front ∙ take_at text (drop (0 + length text) before) n size
