-- Counting entry by entry gives the count of the whole: what is left, with the entries counted so far, counts as the schedule does. Assumes nothing.
use mathlib.Core.Path.{◌≡◌, refl, ap, sym, ◌∙◌}
use mathlib.Core.Bool.{true, true≢false}
use mathlib.Core.List.{List, []}
use mathlib.Core.Logic.{◌↔◌}
use Prim.Native.Nat.{ℕ, ◌+◌, ◌≤◌, ◌<◌}
use native.Mathlib.Nat.{zero-add, add-zero}
use native.Mathlib.Omega.{arith}
use borrow.Author.Tests.{lt-ltb, le-ltb}
use lib.ListN.{length, drop}
use Rattle.schedule.proofs.Standing.{FoundAt, found}
use Rattle.schedule.proofs.Following.{follow, follows}
use Rattle.schedule.proofs.Forming.{means, malforms}
use Rattle.schedule.proofs.Four.{Steps, steps}
use Rattle.schedule.specs.Format.{entry_at}
use Rattle.schedule.specs.Four.{four_steps}
use Rattle.schedule.specs.Meaning.{Schedule, prepend, entries_of, schedule_of, number_of_schedule, counted_of, number_of_counted, WellFormed, Counts}
use Rattle.schedule.specs.declared.Entry.{Entry}
use Rattle.std.proofs.Common.{Some, None, Result, Ok, Err, IsErr}
use Rattle.schedule.specs.declared.Malformed.{Malformed}
use Rattle.std.proofs.Common.{Some, None, Result, Ok, Err, IsErr}

-- n entries before those counted
abbrev more : ℕ → Result ℕ Malformed → Result ℕ Malformed
more n (Ok m) = Ok (n + m)
more n (Err _) = Err (record {})

more-none : (r : Result ℕ Malformed) → more 0 r ≡ r
more-none (Ok m) = ap Ok (zero-add m)
more-none (Err _) = refl

more-one : (n : ℕ) (e : Entry) (x : Schedule) → more (n + 1) (counted_of x) ≡ more n (counted_of (prepend e x))
more-one n e (Ok es) = ap Ok (omega arith)
more-one n e (Err _) = refl

-- n entries end at a position
pub record Sofar (s : List ℕ) (at n : ℕ) : Type 0 where
  pub within : at ≤ length s
  pub few : n ≤ at
  pub same : more n (counted_of (entries_of (drop at s))) ≡ counted_of (entries_of s)

pub starts : (s : List ℕ) → Sofar s 0 0
starts s = record { within = omega arith; few = omega arith; same = more-none (counted_of (entries_of s)) }

module _ (s : List ℕ) (at n : ℕ) (so : Sofar s at n) where
  pub goes_on : (e : Entry) (next : ℕ) → entry_at s at ≡ Ok (Some (e, next)) → Sofar s next (n + 1)
  goes_on e next h =
      let f : FoundAt s at e next = found s at e next h in
      let k : entries_of (drop at s) ≡ prepend e (entries_of (drop next s)) = follows s at ∙ ap (follow s) h in
      record {
        within = f.within;
        few = omega (arith, f.wide, so.few);
        same = more-one n e (entries_of (drop next s)) ∙ ap (λ (x : Schedule). more n (counted_of x)) (sym k) ∙ so.same;
      }

  pub stops : entry_at s at ≡ Ok None → Ok n ≡ counted_of (entries_of s)
  stops h =
      let k : entries_of (drop at s) ≡ Ok [] = follows s at ∙ ap (follow s) h in
      ap Ok (sym (add-zero n)) ∙ ap (λ (x : Schedule). more n (counted_of x)) (sym k) ∙ so.same

  pub spoils : entry_at s at ≡ Err (record {}) → Err (record {}) ≡ counted_of (entries_of s)
  spoils h =
      let k : entries_of (drop at s) ≡ (Err (record {})) = follows s at ∙ ap (follow s) h in
      ap (λ (x : Schedule). more n (counted_of x)) (sym k) ∙ so.same

-- there is one error
pub is-malformed : (r : Result ℕ Malformed) → IsErr r → r ≡ Err (record {})
is-malformed (Ok n) h = absurd (true≢false (sym h))
is-malformed (Err m) h = refl

-- four steps are four entries
pub goes-on-four : (s : List ℕ) (at n : ℕ) → Sofar s at n → four_steps s at ≡ true → Sofar s (at + 8) (n + 4)
goes-on-four s at n so h =
    let f : Steps s at = steps s at h in
    let one : Sofar s (at + 2) (n + 1) = goes_on s at n so _ _ f.first in
    let two : Sofar s (at + 4) (n + 1 + 1) = goes_on s (at + 2) _ one _ _ f.second in
    let three : Sofar s (at + 6) (n + 1 + 1 + 1) = goes_on s (at + 4) _ two _ _ f.third in
    let all : n + 4 ≡ n + 1 + 1 + 1 + 1 = omega arith in
    rw all (goes_on s (at + 6) _ three _ _ f.fourth)

numbers : (x : Schedule) → number_of_counted (counted_of x) ≡ number_of_schedule x
numbers (Ok es) = refl
numbers (Err _) = refl

-- the numbers of what a schedule is read as
counts-13 : (s : List ℕ) (x : Schedule) → schedule_of s ≡ x → (number_of_counted (counted_of x) ≡ 13) ↔ (¬ (WellFormed s))
counts-13 s (Ok es) h = (λ p. absurd (omega arith), λ n. absurd (n (es, (means s es).0 h)))
counts-13 s (Err _) h = (λ p. (malforms s).0 h, λ n. refl)

counts-0 : (s : List ℕ) (x : Schedule) → schedule_of s ≡ x → (number_of_counted (counted_of x) ≡ 0) ↔ WellFormed s
counts-0 s (Ok es) h = (λ p. (es, (means s es).0 h), λ w. refl)
counts-0 s (Err _) h = (λ p. absurd (omega arith), λ w. absurd ((malforms s).0 h w))

counts-as : (s : List ℕ) (r : Result ℕ Malformed) → r ≡ counted_of (schedule_of s) → Counts s r
counts-as s r h = record {
  is = h;
  number = ap number_of_counted h ∙ numbers (schedule_of s);
  number13 = rw h (counts-13 s (schedule_of s) refl);
  number0 = rw h (counts-0 s (schedule_of s) refl);
  many = λ es w. h ∙ ap counted_of ((means s es).1 w);
}

-- a schedule of at most 32,768 bytes
pub counts : (s : List ℕ) (r : Result ℕ Malformed) → length s ≤ 32768 → r ≡ counted_of (entries_of s) → Counts s r
unfolding schedule_of
counts s r l h = counts-as s r (h ∙ rw (le-ltb 32768 (length s) l))

-- a longer one
pub too_long : (s : List ℕ) → 32768 < length s → Counts s (Err (record {}))
unfolding schedule_of
too_long s l = counts-as s (Err (record {})) (rw (lt-ltb 32768 (length s) l))

-- what a count of n says: the schedule is accepted, and its entries are n
pub record CountedAs (s : List ℕ) (n : ℕ) : Type 0 where
  pub all : List Entry
  pub means : schedule_of s ≡ Ok all
  pub many : length all ≡ n

counted-by : (s : List ℕ) (n : ℕ) (x : Schedule) → schedule_of s ≡ x → Ok n ≡ counted_of x → CountedAs s n
counted-by s n (Ok es) h k = record { all = es; means = h; many = cc }
counted-by s n (Err _) h k = let z : ◌≡◌ {A = ℕ} 0 1 = cc in absurd (omega arith)

pub counted : (s : List ℕ) (n : ℕ) → Counts s (Ok n) → CountedAs s n
counted s n h = counted-by s n (schedule_of s) refl h.is
