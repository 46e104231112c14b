-- Laws of words read one after another. Assumes nothing.
use mathlib.Core.List.{List, [], ◌∷◌, ◌++◌, append-nil}
use mathlib.Core.Path.{◌≡◌, refl}
use Prim.Native.Nat.{ℕ, zero, suc, ◌+◌, ◌*◌, ◌<◌, ◌≤◌}
use native.Mathlib.Nat.{add-zero}
use native.Mathlib.Numerals.{add-one}
use native.Mathlib.Omega.{arith}
use lib.ListN.{length, get_or, set, drop}
use lib.Seq.{drop-length, drop-cons, set_at, append_snoc}
use Rattle.reading.specs.Reading.{four_bytes_at, words_from, read_over}

words_snoc : (s : List ℕ) (at n : ℕ) → words_from s at (suc n) ≡ words_from s at n ++ (four_bytes_at s (at + 4 * n) ∷ [])
unfolding words_from
words_snoc s at zero = rw (add-zero at)
words_snoc s at (suc n) =
    let e : at + 4 * suc n ≡ at + 4 + 4 * n = omega arith in
    rw (words_snoc s (at + 4) n, e)

words-many : (s : List ℕ) (at n : ℕ) → length (words_from s at n) ≡ n
unfolding words_from
words-many s at zero = refl
words-many s at (suc n) = rw (words-many s (at + 4) n)

-- no word is read yet
pub no_words : (s : List ℕ) (at : ℕ) (before : List ℕ) → before ≡ read_over s at 0 before
unfolding words_from
no_words s at before = refl

-- one more word, stored after those read
pub one-more-word : (s : List ℕ) (at i : ℕ) (before words : List ℕ) (w : ℕ) → i < length before → words ≡ read_over s at i before
    → w ≡ four_bytes_at s (at + 4 * i) → set words i w ≡ read_over s at (i + 1) before
one-more-word s at i before words w h p q =
    rw (
      p,
      q,
      add-one i,
      words_snoc s at i,
      drop-cons before i 0 h,
      set_at (words_from s at i) (get_or before i 0) (drop (suc i) before) (four_bytes_at s (at + 4 * i)) i (words-many s at i),
      append_snoc,
    )

-- each word is read
pub all_words : (s : List ℕ) (at i : ℕ) (before words : List ℕ) → length before ≤ i → i ≤ length before → words ≡ read_over s at i before → words ≡ words_from s at (length before)
all_words s at i before words h k p =
    let e : i ≡ length before = omega arith in
    rw (p, e, drop-length before, append-nil (words_from s at (length before)))
