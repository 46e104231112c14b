-- What is put of the front of an image is what is to be written of the whole image. Assumes nothing.
use Rattle.std.specs.Prelude.{Ok, Err}
use Rattle.std.proofs.Common.{◌≡◌, ℕ, ◌<◌, ◌≤◌, List, length, take, Bool, true, false, cond, sym, ap, ◌∙◌, arith, refl, length-take-le}
use Rattle.std.proofs.Math.Seq.{take_all}
use native.Mathlib.Decide.{dec_le}
use borrow.Author.Tests.{lt-ltb, ne_eqb}
use Rattle.image.specs.Code.{Verdict}
use Rattle.image.specs.Image.{image_verdict, number_in}
use Rattle.hex_format.specs.Text.{hex_of}
use Rattle.std.specs.Prelude.{Ok, Err}
use Rattle.intel_hex.specs.declared.WriteError.TheVariants.{NoRoom}
use Rattle.intel_hex.specs.Answers.{hex_written, number_of_hex_written, written_for}
use Rattle.hex_output.specs.Output.{WritesOutput, refused_line, write_output, output_for}
use Rattle.hex_output.proofs.Fronts.{front-put}
use Rattle.hex_write.specs.Written.{written_of}

accepted : (b : Bool) (n : ℕ) (text : List ℕ) → (number_of_hex_written (cond b (Ok n) (Err NoRoom)) ≡ 25 → ⊥)
    → output_for (number_of_hex_written (cond b (Ok n) (Err NoRoom))) text ≡ text
accepted true n text h = refl
accepted false n text h = absurd (h refl)

for_verdict : (v : Verdict) (n room : ℕ) (text : List ℕ) → (number_of_hex_written (written_for v n room) ≡ 25 → ⊥)
    → output_for (number_of_hex_written (written_for v n room)) text ≡ output_for (number_in v) text
for_verdict (Err refusal) n room text h = refl
for_verdict (Ok tt) n room text h = accepted _ n text h

-- where there is room for the text, the number is the verdict's
with_room : (image output : List ℕ) → (number_of_hex_written (hex_written image output) ≡ 25 → ⊥) → write_output image output ≡ written_of image
unfolding hex_written written_of
with_room image output h = for_verdict (image_verdict image) (length (hex_of image)) (length output) (hex_of image) h

-- an image of more than 4,096 bytes is refused by 1
too_long : (image : List ℕ) → 4096 < length image → written_of image ≡ refused_line 1
unfolding image_verdict written_of
too_long image h = rw (ne_eqb (length image) 0 (λ e. omega arith), lt-ltb 4096 (length image) h)

-- and so is its front
of_front : (image : List ℕ) → Dec (length image ≤ 4097) → written_of (take 4097 image) ≡ written_of image
of_front image (yes h) = ap written_of (take_all 4097 image h)
of_front image (no h) =
    let size : length (take 4097 image) ≡ 4097 = length-take-le 4097 image (omega arith) in
    too_long (take 4097 image) (omega arith) ∙ sym (too_long image (omega arith))

pub written : (image front output after : List ℕ) (n : ℕ) → length output ≡ 11276 → front ≡ take 4097 image → WritesOutput front output after n → take n after ≡ written_of image
written image front output after n size is w =
    front-put (write_output front output) output after n w.put (omega (arith, w.most))
    ∙ with_room front output (w.room (omega arith))
    ∙ ap written_of is
    ∙ of_front image (dec_le (length image) 4097)
