-- A command whose bytes are put into a buffer is written, and reads back as itself. Assumes nothing.
use borrow.Author.Tests.{le-leb, lt-leb}
use mathlib.Core.Bool.{true, false}
use mathlib.Core.List.{List}
use mathlib.Core.Path.{◌≡◌, refl, ◌∙◌, ap}
use Prim.Native.Nat.{ℕ, ◌≤◌}
use native.Mathlib.Decide.{dec_le}
use native.Mathlib.Omega.{arith}
use lib.Dec.{leb}
use lib.ListN.{length, drop}
use Rattle.std.specs.Prelude.{Result, Ok}
use Rattle.command.specs.declared.Command.{Command}
use Rattle.command.specs.declared.TooShort.{TooShort}
use Rattle.command.specs.Command.{bytes_of_command, OperandsFit}
use Rattle.command.specs.Write.{put_answer, put_to, written_answer, written_to, number_of_command_written, Wrote}
use Rattle.command.proofs.RoundTrip.{reads-back}

-- the bytes fit, or the buffer stays as it was
written : (command : Command) (before : List ℕ) → OperandsFit command
    → Wrote command before (put_to (bytes_of_command command) before) (put_answer (bytes_of_command command) before)
unfolding written_answer written_to
written command before fits = go (dec_le (length bytes) (length before))
  where
    bytes : List ℕ
    bytes = bytes_of_command command

    go : Dec (length bytes ≤ length before) → Wrote command before (put_to bytes before) (put_answer bytes before)
    go (yes room) =
        let test : leb (length bytes) (length before) ≡ true = le-leb _ _ room in
        rw test
        (record {
          answered = rw test refl;
          number25 = (λ e. absurd (omega arith), λ l. absurd (omega arith));
          number0 = (λ e. refl, λ e. refl);
          written = rw test refl;
          back = λ n same. let size : length bytes ≡ n = cc in reads-back command (drop (length bytes) before) fits ∙ ap (λ m. Ok (command, m)) size;
        })
    go (no small) =
        let test : leb (length bytes) (length before) ≡ false = lt-leb _ _ (omega arith) in
        rw test
        (record {
          answered = rw test refl;
          number25 = (λ e. omega arith, λ l. refl);
          number0 = (λ e. absurd (omega arith), ap number_of_command_written);
          written = rw test refl;
          back = λ n same. let z : ◌≡◌ {A = ℕ} 0 1 = cc in absurd (omega arith);
        })

-- the same of what was put, in other words
pub put_written : {command known : Command} {bytes before after : List ℕ} {answer : Result ℕ TooShort} → command ≡ known → OperandsFit known
    → answer ≡ put_answer bytes before → after ≡ put_to bytes before → bytes ≡ bytes_of_command known → Wrote command before after answer
put_written {before = before} same fits answered put bytes = rw (same, answered, put, bytes) (written _ before fits)
