-- Laws of lines: how long they are, and one line after another. Assumes nothing.
use mathlib.Core.List.{List, [], ◌∷◌, ◌++◌, append_assoc, append-nil}
use mathlib.Core.Path.{◌≡◌, ap, sym, ◌∙◌}
use Prim.Native.Nat.{ℕ, suc, min, ◌+◌, ◌*◌, ◌≤◌, ◌<◌}
use native.Mathlib.Nat.{add-zero}
use native.Mathlib.Numerals.{add-one}
use native.Mathlib.Omega.{arith}
use lib.ListN.{length, get_or, take, length-append}
use lib.Seq.{take-suc, take_all, length-take-le}
use Rattle.text.proofs.Digits.{power, few-digits}
use Rattle.text.proofs.Writing.{followed, silent, same_text}
use Rattle.std.specs.Prelude.{flat_map}
use Rattle.std.proofs.lemmas.List.{take_min}
use Rattle.text.specs.Text.{ascii, decimal_of, spaced, line, entry_line, entry_lines}
use Rattle.text.specs.Buffer.{Put, Fills}

-- a blank and at most k + 1 digits
pub few-spaced : (k n : ℕ) → n < power (suc k) → length (spaced n) ≤ k + 2
few-spaced k n h = omega (arith, few-digits k n h)

-- numbers, each after a blank
abbrev pub all_spaced : List ℕ → List ℕ
all_spaced = flat_map spaced

line-end : (text numbers : List ℕ) → line text numbers ≡ text ++ all_spaced numbers ++ ascii "\n"
line-end text [] = rw (append-nil text)
line-end text (x ∷ xs) = line-end (text ++ spaced x) xs ∙ ap (λ (l : List ℕ). l ++ ascii "\n") (append_assoc text (spaced x) (all_spaced xs))

spaced_snoc : (xs : List ℕ) (x : ℕ) → all_spaced (xs ++ (x ∷ [])) ≡ all_spaced xs ++ spaced x
spaced_snoc [] x = rw append-nil
spaced_snoc (y ∷ xs) x = rw (spaced_snoc xs x) (sym (append_assoc (spaced y) (all_spaced xs) (spaced x)))

-- a line's word, one more number, and the whole line
pub word_alone : {word b e : List ℕ} {at next : ℕ} → Put word b at next e → Put (word ++ all_spaced []) b at next e
word_alone {word} p = same_text (sym (append-nil word)) p

module _ (word numbers : List ℕ) (i : ℕ) where
  pub one-more-number : i < length numbers → {b m e : List ℕ} {at next end : ℕ} → Put (word ++ all_spaced (take i numbers)) b at next m
      → Put (spaced (get_or numbers i 0)) m next end e → Put (word ++ all_spaced (take (i + 1) numbers)) b at end e
  one-more-number h p q =
      let e : all_spaced (take (i + 1) numbers) ≡ all_spaced (take i numbers) ++ spaced (get_or numbers i 0) =
      rw (add-one i, take-suc numbers i 0 h, spaced_snoc (take i numbers) (get_or numbers i 0)) in
      same_text (rw (e) (append_assoc word (all_spaced (take i numbers)) (spaced (get_or numbers i 0)))) (followed p q)

  pub whole_line : length numbers ≤ i → {b m e : List ℕ} {at next end : ℕ} → Put (word ++ all_spaced (take i numbers)) b at next m → Put (ascii "\n") m next end e
      → Put (line word numbers) b at end e
  whole_line h p q =
      let all : take i numbers ≡ numbers = take_all i numbers h in
      same_text (sym (line-end word numbers)) (followed (rw all at p) q)

-- the first `most` of a list, where it is cut by the shorter of the two lengths
pub cut-short : (most count : ℕ) (numbers : List ℕ) → count ≡ min (length numbers) most → take count numbers ≡ take most numbers
cut-short most count numbers h =
    let least : count ≡ min most (length numbers) = omega arith in
    rw least (take_min most numbers)

pub one_number : (word : List ℕ) (x : ℕ) → length (word ++ spaced x ++ ascii "\n") ≡ length word + length (spaced x) + 1
one_number word x = simp length-append

pub two-numbers : (word : List ℕ) (x y : ℕ) → length (word ++ spaced x ++ spaced y ++ ascii "\n") ≡ length word + length (spaced x) + length (spaced y) + 1
two-numbers word x y = simp length-append

pub three-numbers : (word : List ℕ) (x y z : ℕ) → length (word ++ spaced x ++ spaced y ++ spaced z ++ ascii "\n") ≡ length word + length (spaced x) + length (spaced y) + length (spaced z) + 1
three-numbers word x y z = simp length-append

pub few-entry : (number log : ℕ) → number < 16384 → log < 256 → length (entry_line number log) ≤ 10
few-entry number log h l =
    let e : length (entry_line number log) ≡ length (decimal_of number) + length (spaced log) + 1 = simp length-append in
    omega (arith, few-digits 4 number (omega arith), few-spaced 2 log (omega arith))

-- entry lines, with one more at the end
lines_snoc : (k : ℕ) (xs : List ℕ) (x : ℕ) → entry_lines k (xs ++ (x ∷ [])) ≡ entry_lines k xs ++ entry_line (k + length xs) x
unfolding entry_lines
lines_snoc k [] x = rw (append-nil, add-zero k)
lines_snoc k (y ∷ xs) x =
    let e : k + suc (length xs) ≡ k + 1 + length xs = omega arith in
    rw (lines_snoc (k + 1) xs x, e) (sym (append_assoc (entry_line k y) (entry_lines (k + 1) xs) (entry_line (k + 1 + length xs) x)))

-- the lines of the first log bytes
pub one-more-line : (log : List ℕ) (i : ℕ) → i < length log → {b m e : List ℕ} {at next end : ℕ} → Put (entry_lines 0 (take i log)) b at next m
    → Put (entry_line i (get_or log i 0)) m next end e → Put (entry_lines 0 (take (i + 1) log)) b at end e
one-more-line log i h p q =
    let n : 0 + length (take i log) ≡ i = omega (arith, length-take-le i log (omega arith)) in
    let e : entry_lines 0 (take (i + 1) log) ≡ entry_lines 0 (take i log) ++ entry_line i (get_or log i 0) =
    rw (add-one i, take-suc log i 0 h, lines_snoc 0 (take i log) (get_or log i 0), n) in
    same_text (sym e) (followed p q)

pub no_lines : (b : List ℕ) → Put (entry_lines 0 []) b 0 0 b
unfolding entry_lines
no_lines b = silent b 0

-- an entry's line, part by part
pub written_entry : (number log : ℕ) → number < 16384 → log < 256 → {wide : ℕ} → wide ≡ log → {b m n e : List ℕ} {at next more end : ℕ} → Put (decimal_of number) b at next m
    → Put (spaced wide) m next more n → Put (ascii "\n") n more end e → Put (entry_line number log) b at end e × (end ≤ at + 10)
written_entry number log h l w p q r =
    let z = same_text (ap (λ (x : ℕ). decimal_of number ++ spaced x ++ ascii "\n") w) (followed (followed p q) r) in
    (z, omega (arith, z.position, few-entry number log h l))

-- all lines of a log, of which the first so many bytes get lines
pub all_lines : (log : List ℕ) (count i : ℕ) → count ≡ min (length log) 16384 → length (take count log) ≤ i → i ≤ 16384 → {b e : List ℕ} {end : ℕ} → end ≤ 10 * i
    → Put (entry_lines 0 (take i (take count log))) b 0 end e → Fills (entry_lines 0 (take 16384 log)) b 163840 end e
all_lines log count i h k m l p =
    record { put = same_text (ap (entry_lines 0) (take_all i (take count log) k ∙ cut-short 16384 count log h)) p; few = omega arith }
