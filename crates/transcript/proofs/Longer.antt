-- Bytes past the first 99,332 of an input have no part in its text, which is why the print program reads no more. Assumes nothing.
use mathlib.Core.List.{List, [], ◌∷◌}
use mathlib.Core.Path.{◌≡◌, refl, ap, sym, ◌∙◌}
use Prim.Native.Nat.{ℕ, zero, suc, ◌+◌, ◌*◌, ◌-◌, ◌≤◌, ◌<◌}
use native.Mathlib.Nat.{sub-zero}
use native.Mathlib.Decide.{dec_le}
use native.Mathlib.Omega.{arith}
use borrow.Author.Tests.{lt-ltb, le-ltb}
use lib.ListN.{length, get_or, take, drop, replicate, length-drop}
use lib.Seq.{get_or-take, take_all, take-nil, take-take, length-take-le}
use Rattle.schedule.specs.Meaning.{schedule_of}
use Rattle.demands.specs.Input.{Input, entry_count, tests_of, refusal_of}
use Rattle.reading.specs.Reading.{pair_at, four_bytes_at, words_from, argument_count, allowance_at, length_at, image_at, schedule_at, schedule_in}
use Rattle.transcript.specs.Job.{input_in}
use Rattle.transcript.specs.Transcript.{number_of_run, run_text, text_of}
use Rattle.std.proofs.Common.{Err}

-- a schedule of more than 32,768 bytes is malformed, and all such have one text
over-long : (s : List ℕ) → 32768 < length s → schedule_of s ≡ Err (record {})
unfolding schedule_of
over-long s h = rw (lt-ltb 32768 (length s) h)

same-refusal : (i : Input) (s t log : List ℕ) → schedule_of s ≡ schedule_of t → refusal_of i s log ≡ refusal_of i t log
unfolding refusal_of tests_of
same-refusal i s t log h = rw h

same_number : (i : Input) (s t : List ℕ) → schedule_of s ≡ schedule_of t → number_of_run i s ≡ number_of_run i t
unfolding number_of_run
same_number i s t h = rw (same-refusal i s t (replicate (entry_count (schedule_of s)) 0) h, h)

same-run : (i : Input) (s t : List ℕ) → schedule_of s ≡ schedule_of t → run_text i s ≡ run_text i t
unfolding run_text
same-run i s t h = rw (same_number i s t h, h)

-- a part of the first bytes
drop-take : (a m : ℕ) (s : List ℕ) → drop a (take m s) ≡ take (m - a) (drop a s)
drop-take zero m s = rw (sub-zero m)
drop-take (suc a) zero s = let e : 0 - suc a ≡ 0 = omega arith in rw e
drop-take (suc a) (suc m) [] = rw (take-nil (suc m - suc a))
drop-take (suc a) (suc m) (x ∷ s) = let e : suc m - suc a ≡ m - a = omega arith in rw e (drop-take a m s)

same-part : (a n m : ℕ) (s : List ℕ) → a + n ≤ m → take n (drop a (take m s)) ≡ take n (drop a s)
same-part a n m s h = rw (drop-take a m s) (take-take n (m - a) (drop a s) (omega arith))

same_word : (m : ℕ) (s : List ℕ) (at : ℕ) → at + 4 ≤ m → four_bytes_at (take m s) at ≡ four_bytes_at s at
same_word m s at h =
    rw (get_or-take m s at 0 (omega arith), get_or-take m s (at + 1) 0 (omega arith), get_or-take m s (at + 2) 0 (omega arith), get_or-take m s (at + 3) 0 (omega arith))

same-words : (m : ℕ) (s : List ℕ) (at n : ℕ) → at + 4 * n ≤ m → words_from (take m s) at n ≡ words_from s at n
unfolding words_from
same-words m s at zero h = refl
same-words m s at (suc n) h = rw (same_word m s at (omega arith), same-words m s (at + 4) n (omega arith))

module _ (s : List ℕ) (bytes : (k : ℕ) → get_or s k 0 < 256) (long : 99332 < length s) where
  same_count : argument_count (take 99332 s) ≡ argument_count s
  same_count = get_or-take 99332 s 1 0 (omega arith)

  length-early : length_at s ≤ 1026
  length-early = omega (arith, bytes 1)

  same-pair : pair_at (take 99332 s) (length_at s) ≡ pair_at s (length_at s)
  same-pair = rw (get_or-take 99332 s (length_at s) 0 (omega (arith, length-early)), get_or-take 99332 s (length_at s + 1) 0 (omega (arith, length-early)))

  early : schedule_at s ≤ 66563
  early = omega (arith, bytes 1, bytes (length_at s), bytes (length_at s + 1))

  same_place : schedule_at (take 99332 s) ≡ schedule_at s
  same_place = rw (same_count, same-pair)

  same-image : take (pair_at (take 99332 s) (length_at (take 99332 s))) (drop (image_at (take 99332 s)) (take 99332 s)) ≡ take (pair_at s (length_at s)) (drop (image_at s) s)
  same-image = rw (same_count, same-pair) (same-part (image_at s) (pair_at s (length_at s)) 99332 s (omega (arith, early)))

  same-arguments : words_from (take 99332 s) 2 (argument_count (take 99332 s)) ≡ words_from s 2 (argument_count s)
  same-arguments = rw same_count (same-words 99332 s 2 (argument_count s) (omega (arith, bytes 1)))

  same-allowance : four_bytes_at (take 99332 s) (allowance_at (take 99332 s)) ≡ four_bytes_at s (allowance_at s)
  same-allowance =
      ap (λ (n : ℕ). four_bytes_at (take 99332 s) (2 + 4 * n)) same_count
      ∙ same_word 99332 s (allowance_at s) (omega (arith, bytes 1))

  same-input : input_in (take 99332 s) ≡ input_in s
  same-input = rw (same-image, same-arguments, same-allowance, get_or-take 99332 s 0 0 (omega arith))

  all_there : length (take 99332 s) ≡ 99332
  all_there = length-take-le 99332 s (omega arith)

  runs-first : text_of (take 99332 s) ≡ run_text (input_in (take 99332 s)) (schedule_in (take 99332 s))
  unfolding text_of
  runs-first =
      let l : schedule_at (take 99332 s) ≤ length (take 99332 s) = omega (arith, all_there, early, same_place) in
      rw (le-ltb (length (take 99332 s)) (schedule_at (take 99332 s)) l)

  runs-all : text_of s ≡ run_text (input_in s) (schedule_in s)
  unfolding text_of
  runs-all =
      let l : schedule_at s ≤ length s = omega (arith, early) in
      rw (le-ltb (length s) (schedule_at s) l)

  long-first : schedule_of (schedule_in (take 99332 s)) ≡ Err (record {})
  long-first = over-long (schedule_in (take 99332 s)) (omega (arith, length-drop (schedule_at (take 99332 s)) (take 99332 s), all_there, early, same_place))

  long-all : schedule_of (schedule_in s) ≡ Err (record {})
  long-all = over-long (schedule_in s) (omega (arith, length-drop (schedule_at s) s, early))

  cut : text_of (take 99332 s) ≡ text_of s
  cut =
      runs-first
      ∙ ap (λ (i : Input). run_text i (schedule_in (take 99332 s))) same-input
      ∙ same-run (input_in s) (schedule_in (take 99332 s)) (schedule_in s) (long-first ∙ sym long-all)
      ∙ sym runs-all

by_length : (s : List ℕ) → ((k : ℕ) → get_or s k 0 < 256) → Dec (length s ≤ 99332) → text_of (take 99332 s) ≡ text_of s
by_length s bytes (yes h) = ap text_of (take_all 99332 s h)
by_length s bytes (no h) = cut s bytes (omega arith)

-- the first 99,332 bytes of an input have the whole input's text
pub rest-ignored : (s : List ℕ) → ((k : ℕ) → get_or s k 0 < 256) → text_of (take 99332 s) ≡ text_of s
rest-ignored s bytes = by_length s bytes (dec_le (length s) 99332)
