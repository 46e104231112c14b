-- Laws of the last line: how long it is, and how it is written. Assumes nothing.
use mathlib.Core.List.{List, ◌++◌}
use mathlib.Core.Path.{◌≡◌, ap, sym}
use Prim.Native.Nat.{ℕ, ◌+◌, ◌≤◌, ◌<◌}
use native.Mathlib.Omega.{arith}
use lib.ListN.{length}
use Rattle.demands.specs.Input.{number_of_run_refusal}
use Rattle.demands.specs.declared.RunRefusal.{RunRefusal}
use Rattle.demands.specs.declared.RunAnswer.{RunAnswer}
use Rattle.demands.specs.declared.RunAnswer.TheVariants.{Refused, Finished, Faulted, Open}
use Rattle.text.specs.Text.{ascii, spaced}
use Rattle.text.specs.Buffer.{Put}
use Rattle.text.proofs.Writing.{same_text}
use Rattle.text.proofs.LineLaws.{few-spaced, one_number, two-numbers, three-numbers}
use Rattle.transcript.specs.LastLine.{refused_line, last_line}

pub few-refused : (n : ℕ) → n < 256 → length (refused_line n) ≤ 31
few-refused n h = omega (arith, one_number (ascii "refused") n, few-spaced 2 n (omega arith))

pub few-finished : (v u : ℕ) → v < 4294967296 → u < 4294967296 → length (last_line (Finished v u)) ≤ 31
few-finished v u h l = omega (arith, two-numbers (ascii "finished") v u, few-spaced 9 v (omega arith), few-spaced 9 u (omega arith))

pub few-faulted : (n t o : ℕ) → n < 256 → t < 256 → o < 65536 → length (last_line (Faulted n t o)) ≤ 31
few-faulted n t o h l m = omega (arith, three-numbers (ascii "faulted") n t o, few-spaced 2 n (omega arith), few-spaced 2 t (omega arith), few-spaced 4 o (omega arith))

pub few-open : (u : ℕ) → u < 4294967296 → length (last_line (Open u)) ≤ 31
few-open u h = omega (arith, one_number (ascii "open") u, few-spaced 9 u (omega arith))

-- the last line, by the answer
module _ {answer : RunAnswer} {b e : List ℕ} {at end : ℕ} where
  last : (a : RunAnswer) → answer ≡ a → length (last_line a) ≤ 31 → Put (last_line a) b at end e → Put (last_line answer) b at end e × (end ≤ at + 31)
  last a h l p = (same_text (ap last_line (sym h)) p, omega (arith, p.position))

  pub written-refused : {why : RunRefusal} {x : ℕ} → answer ≡ Refused why → x < 256 → x ≡ number_of_run_refusal why → Put (refused_line x) b at end e
      → Put (last_line answer) b at end e × (end ≤ at + 31)
  written-refused {why} h l q p = last (Refused why) h (few-refused (number_of_run_refusal why) (omega arith)) (rw q at p)

  pub written-finished : {v u : ℕ} → answer ≡ Finished v u → v < 4294967296 → u < 4294967296 → Put (ascii "finished" ++ spaced v ++ spaced u ++ ascii "\n") b at end e
      → Put (last_line answer) b at end e × (end ≤ at + 31)
  written-finished {v} {u} h l m p = last (Finished v u) h (few-finished v u l m) p

  pub written-faulted : {n t o x y z : ℕ} → answer ≡ Faulted n t o → n < 256 → t < 256 → o < 65536 → x ≡ n → y ≡ t → z ≡ o
      → Put (ascii "faulted" ++ spaced x ++ spaced y ++ spaced z ++ ascii "\n") b at end e → Put (last_line answer) b at end e × (end ≤ at + 31)
  written-faulted {n} {t} {o} h l m k q r s p = last (Faulted n t o) h (few-faulted n t o l m k) (rw (q, r, s) at p)

  pub written-open : {u : ℕ} → answer ≡ Open u → u < 4294967296 → Put (ascii "open" ++ spaced u ++ ascii "\n") b at end e
      → Put (last_line answer) b at end e × (end ≤ at + 31)
  written-open {u} h l p = last (Open u) h (few-open u l) p
