-- What `read_output` puts, by the answer of `intel_hex::read`. Assumes nothing.
use mathlib.Core.Bool.{Bool, true, false, cond}
use mathlib.Core.List.{List}
use mathlib.Core.Path.{◌≡◌, refl, ap, sym, ◌∙◌}
use Prim.Native.Nat.{ℕ, ◌≤◌}
use native.Mathlib.Omega.{arith}
use borrow.Author.Tests.{leb-true}
use lib.Dec.{leb}
use lib.ListN.{length}
use Rattle.text.specs.Buffer.{Put}
use Rattle.std.specs.Prelude.{Result, Ok, Err}
use Rattle.intel_hex.specs.declared.ReadError.{ReadError}
use Rattle.intel_hex.specs.declared.ReadError.TheVariants.{Malformed, BadChecksum, BadSpan, NoRoom as NoByteRoom}
use Rattle.hex_format.specs.Lines.{text_lines}
use Rattle.hex_format.specs.Reading.{said_by}
use Rattle.intel_hex.specs.Answers.{number_of_read_error, number_of_hex_read, bytes_in, verdict_of, within, hex_read, HexReads}
use Rattle.intel_hex.proofs.Canonical.{below-64k}
use Rattle.hex_output.specs.Output.{refused_line, ReadsOutput}
use Rattle.hex_output.proofs.Fronts.{laid, refused-for, few-refused}

two_digits : (error : ReadError) → (1 ≤ number_of_read_error error) × (number_of_read_error error ≤ 99)
two_digits Malformed = (omega arith, omega arith)
two_digits BadChecksum = (omega arith, omega arith)
two_digits BadSpan = (omega arith, omega arith)
two_digits NoByteRoom = (omega arith, omega arith)

-- bytes that are read fit
read_fits : (v : Result ℕ ReadError) (room n : ℕ) → within room v ≡ Ok n → n ≤ room
read_fits (Ok m) room n e = go (leb m room) refl e
  where
    go : (b : Bool) → leb m room ≡ b → cond b (Ok m) (Err NoByteRoom) ≡ Ok n → n ≤ room
    go true t h = let same : m ≡ n = ap bytes_in h in omega (arith, leb-true m room t)
    go false t h = cc
read_fits (Err error) room n e = cc

module _ {text before mid : List ℕ} where
  pub reads_bytes : {count : ℕ} → HexReads text before mid (Ok count) → ReadsOutput text before mid count
  unfolding hex_read
  reads_bytes {count} w =
      let told : number_of_hex_read (hex_read text before) ≡ 0 = sym (ap number_of_hex_read w.answered) in
      let size : count ≡ length (said_by (text_lines text)) = ap bytes_in (w.number0.0 refl) in
      let fit = read_fits (verdict_of (text_lines text)) (length before) count (sym w.answered) in
      record {
        put = rw told (laid (said_by (text_lines text)) count size (omega arith) w.bytes);
        most = let t = w.reads count refl in omega (arith, below-64k (text_lines text) 0 t.lines t.span (omega arith));
        room = λ h p. omega (arith, told);
      }

  pub reads-refused : {error : ReadError} {after : List ℕ} {count : ℕ} → HexReads text before mid (Err error) → Put (refused_line (number_of_read_error error)) mid 0 count after → ReadsOutput text before after count
  reads-refused {error} {after} {count} w p =
      let told : number_of_hex_read (hex_read text before) ≡ number_of_read_error error = sym (ap number_of_hex_read w.answered) in
      let same : mid ≡ before = w.bytes in
      let n = two_digits error in
      record {
        put = rw (told, refused-for (number_of_read_error error) (said_by (text_lines text)) (λ z. omega arith), ← same) p;
        most = omega (arith, p.position, few-refused (number_of_read_error error) n.1);
        room = λ h q.
            let t = w.number25.0 (sym told ∙ q) in
            omega (arith, t.1, below-64k (text_lines text) 0 t.0.lines t.0.span (omega arith));
      }
