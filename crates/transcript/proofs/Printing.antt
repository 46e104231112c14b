-- From the bytes of an input to the run that it asks for, and from the text that is put to the buffer. Assumes nothing.
use mathlib.Core.List.{List, [], ◌∷◌}
use mathlib.Core.Path.{◌≡◌, refl, ap, ◌∙◌}
use Prim.Native.Nat.{ℕ, suc, ◌+◌, ◌-◌, ◌≤◌, ◌<◌}
use native.Mathlib.Nat.{sub-zero}
use native.Mathlib.Omega.{arith}
use borrow.Author.Tests.{lt-ltb, le-ltb}
use lib.ListN.{length, set, take, drop, length-drop}
use lib.Seq.{sets, take-nil, take-length}
use Rattle.reading.specs.Reading.{pair_at, four_bytes_at, words_from, core_count, argument_count, allowance_at, length_at, image_at, schedule_at, schedule_in}
use Rattle.text.specs.Buffer.{Put, Fills}
use Rattle.transcript.specs.LastLine.{refused_line}
use Rattle.transcript.specs.Job.{starting_with, input_in}
use Rattle.transcript.specs.Transcript.{run_text, text_of}
use Rattle.transcript.specs.Writing.{overlaid, Prints}

-- stores past the first byte leave it
sets-past : (y : ℕ) (b : List ℕ) (at : ℕ) (text : List ℕ) → sets (y ∷ b) (suc at) text ≡ y ∷ sets b at text
sets-past y b at [] = refl
sets-past y b at (x ∷ text) = sets-past y (set b at x) (suc at) text

sets-none : (at : ℕ) (text : List ℕ) → sets [] at text ≡ []
sets-none at [] = refl
sets-none at (x ∷ text) = sets-none (suc at) text

-- a text stored from the front on lies over the buffer
laid : (text b : List ℕ) → sets b 0 text ≡ overlaid text b
laid [] b = rw (take-nil (length b))
laid (x ∷ text) [] = sets-none 1 text
laid (x ∷ text) (y ∷ b) = sets-past x b 0 text ∙ ap (λ (l : List ℕ). x ∷ l) (laid text b)

rest_of : (s : List ℕ) (at : ℕ) → take (length s - at) (drop at s) ≡ drop at s
rest_of s at = rw (← length-drop at s) (take-length (drop at s))

prints : (input text b e : List ℕ) (r : ℕ) → text_of input ≡ text → Put text b 0 r e → r ≤ 163871 → Prints input b e r
prints input text b e r h p l =
    let q : Put (text_of input) b 0 r e = rw h p in
    record { text = q.bytes ∙ laid (text_of input) b; all = omega (arith, q.position); most = l }

pub prints-early : (input : List ℕ) (end : ℕ) → end ≡ schedule_at input → length input < end → {before after : List ℕ} {r : ℕ} → Put (refused_line 25) before 0 r after × (r ≤ 0 + 31)
    → Prints input before after r
unfolding text_of
prints-early input end w h {before} {after} {r} q =
    prints input (refused_line 25) before after r (rw (lt-ltb (length input) (schedule_at input) (rw w at h))) q.0 (omega (arith, q.1))

-- what the code lends to the run is what the input says
module _ (input : List ℕ) (start end : ℕ) (v : start ≡ image_at input) (w : end ≡ schedule_at input)
    (cores allowance count : ℕ) (words : List ℕ) (d : cores ≡ core_count input) (a : allowance ≡ four_bytes_at input (allowance_at input)) (c : count ≡ argument_count input)
    (l : take (argument_count input) words ≡ words_from input 2 (argument_count input)) where
  given : starting_with (take (end - start) (drop start input)) cores (take count words) allowance ≡ input_in input
  given =
      let s : end - start ≡ pair_at input (length_at input) = omega arith in
      rw (s, v, d, c, l, a)

  pub prints-run : end ≤ length input → {before after : List ℕ} {r : ℕ}
      → Fills (run_text (starting_with (take (end - start) (drop start input)) cores (take (count - 0) words) allowance) (take (length input - end) (drop end input))) before 163871 r after
      → Prints input before after r
  unfolding text_of
  prints-run h {before} {after} {r} q =
      let t : text_of input ≡ run_text (input_in input) (schedule_in input) = rw (le-ltb (length input) (schedule_at input) (rw w at h)) in
      prints input (run_text (input_in input) (schedule_in input)) before after r t (rw (sub-zero count, given, rest_of input end, w) at q.put) q.few
