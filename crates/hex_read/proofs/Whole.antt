-- What is put of a text is what is to be written of it. Assumes nothing.
use Rattle.std.proofs.Common.{◌≡◌, ℕ, List, length, take, Bool, true, false, cond, ◌∙◌, arith, refl}
use Rattle.hex_format.specs.Lines.{text_lines}
use Rattle.hex_format.specs.Reading.{said_by}
use Rattle.std.specs.Prelude.{Result, Ok, Err}
use Rattle.intel_hex.specs.declared.ReadError.{ReadError}
use Rattle.intel_hex.specs.declared.ReadError.TheVariants.{NoRoom}
use Rattle.intel_hex.specs.Answers.{hex_read, number_of_hex_read, verdict_of, within}
use Rattle.hex_output.specs.Output.{ReadsOutput, read_output, output_for}
use Rattle.hex_output.proofs.Fronts.{front-put}
use Rattle.hex_read.specs.Given.{given_by}

held : (b : Bool) (n : ℕ) (bytes : List ℕ) → (number_of_hex_read (cond b (Ok n) (Err NoRoom)) ≡ 25 → ⊥)
    → output_for (number_of_hex_read (cond b (Ok n) (Err NoRoom))) bytes ≡ bytes
held true n bytes h = refl
held false n bytes h = absurd (h refl)

for_verdict : (v : Result ℕ ReadError) (room : ℕ) (bytes : List ℕ) → (number_of_hex_read (within room v) ≡ 25 → ⊥)
    → output_for (number_of_hex_read (within room v)) bytes ≡ output_for (number_of_hex_read v) bytes
for_verdict (Ok n) room bytes h = held _ n bytes h
for_verdict (Err error) room bytes h = refl

-- where there is room for the bytes, the number is the text's
with_room : (text output : List ℕ) → (number_of_hex_read (hex_read text output) ≡ 25 → ⊥) → read_output text output ≡ given_by text
unfolding hex_read given_by
with_room text output h = for_verdict (verdict_of (text_lines text)) (length output) (said_by (text_lines text)) h

pub given : (text output after : List ℕ) (n : ℕ) → length output ≡ 65536 → ReadsOutput text output after n → take n after ≡ given_by text
given text output after n size r =
    front-put (read_output text output) output after n r.put (omega (arith, r.most)) ∙ with_room text output (r.room (omega arith))
