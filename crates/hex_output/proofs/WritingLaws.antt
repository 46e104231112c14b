-- What `write_output` puts, by the answer of `intel_hex::write`. Assumes nothing.
use mathlib.Core.Bool.{Bool, true, false, cond}
use mathlib.Core.List.{List}
use mathlib.Core.Path.{◌≡◌, refl, ap, sym, ◌∙◌}
use Prim.Native.Nat.{ℕ, ◌+◌, ◌*◌, ◌/◌, ◌%◌, ◌≤◌}
use native.Mathlib.Omega.{arith}
use borrow.Author.Tests.{leb-true, eqb-false}
use lib.Dec.{eqb, leb}
use lib.ListN.{length}
use Rattle.image.specs.Code.{Verdict}
use Rattle.image.specs.Image.{image_verdict}
use Rattle.image.proofs.Accepted.{accepted}
use Rattle.text.specs.Buffer.{Put}
use Rattle.std.specs.Prelude.{Ok, Err}
use Rattle.intel_hex.specs.declared.WriteError.{WriteError}
use Rattle.intel_hex.specs.declared.WriteError.TheVariants.{BadImage, NoRoom as NoTextRoom}
use Rattle.hex_format.specs.Text.{hex_of}
use Rattle.intel_hex.specs.Answers.{number_of_write_error, number_of_hex_written, characters_of, written_for, hex_written, text_length, HexWrites}
use Rattle.intel_hex.proofs.Answered.{numbers}
use Rattle.hex_output.specs.Output.{refused_line, WritesOutput}
use Rattle.hex_output.proofs.Fronts.{laid, refused-for, few-refused}

two_digits : (error : WriteError) → (1 ≤ number_of_write_error error) × (number_of_write_error error ≤ 99)
two_digits (BadImage refusal) = let n = numbers refusal in (omega arith, omega arith)
two_digits NoTextRoom = (omega arith, omega arith)

-- a text that is written is an accepted image's, has its own length, and fits
written-fits : (v : Verdict) (size room n : ℕ) → written_for v size room ≡ Ok n → (v ≡ Ok tt) × (n ≡ size) × (size ≤ room)
written-fits (Err r) size room n e = cc
written-fits (Ok tt) size room n e = go (leb size room) refl e
  where
    go : (b : Bool) → leb size room ≡ b → cond b (Ok size) (Err NoTextRoom) ≡ Ok n → ◌≡◌ {A = Verdict} (Ok tt) (Ok tt) × (n ≡ size) × (size ≤ room)
    go true t h = (refl, ap characters_of (sym h), leb-true size room t)
    go false t h = cc

-- the longest image's text
longest : (n : ℕ) → n ≤ 4096 → text_length n ≤ 11276
longest n h = go (eqb (n % 16) 0) refl
  where
    go : (b : Bool) → eqb (n % 16) 0 ≡ b → 44 * (n / 16) + cond b 0 (12 + 2 * (n % 16)) + 12 ≤ 11276
    go true e = omega arith
    go false e = let some = eqb-false (n % 16) 0 e in omega arith

module _ {image before mid : List ℕ} where
  pub writes-text : {count : ℕ} → HexWrites image before mid (Ok count) → WritesOutput image before mid count
  unfolding hex_written
  writes-text {count} w =
      let told : number_of_hex_written (hex_written image before) ≡ 0 = sym (ap number_of_hex_written w.answered) in
      let size : count ≡ text_length (length image) = ap characters_of (w.number0.0 refl) in
      let fit = written-fits (image_verdict image) (length (hex_of image)) (length before) count (sym w.answered) in
      record {
        put = rw told (laid (hex_of image) count fit.1 (omega arith) w.text);
        most = omega (arith, longest (length image) (accepted image fit.0).size);
        room = λ h p. omega (arith, told);
      }

  pub writes-refused : {error : WriteError} {after : List ℕ} {count : ℕ} → HexWrites image before mid (Err error) → Put (refused_line (number_of_write_error error)) mid 0 count after → WritesOutput image before after count
  writes-refused {error} {after} {count} w p =
      let told : number_of_hex_written (hex_written image before) ≡ number_of_write_error error = sym (ap number_of_hex_written w.answered) in
      let same : mid ≡ before = w.text in
      let n = two_digits error in
      record {
        put = rw (told, refused-for (number_of_write_error error) (hex_of image) (λ z. omega arith), ← same) p;
        most = omega (arith, p.position, few-refused (number_of_write_error error) n.1);
        room = λ h q.
            let t = w.number25.0 (sym told ∙ q) in
            omega (arith, t.1, longest (length image) (accepted image t.0).size);
      }
