-- Counts of records in a state. Setting one record moves the count by that record and the one before it (`in-set`). A count lists
-- different threads whose records are counted (`listed_in`, and `listed-used` for the records that are not free). Assumes nothing.
use mathlib.Core.Bool.{Bool, true, false, not}
use mathlib.Core.List.{List, [], ◌∷◌}
use mathlib.Core.Path.{◌≡◌, refl, ap, subst}
use Prim.Native.Nat.{ℕ, zero, suc, ◌+◌, ◌<◌}
use native.Mathlib.Omega.{arith}
use lib.Dec.{eqb}
use lib.ListN.{get_or, set, length}
use borrow.Author.Tests.{eqb-true}
use Rattle.thread.specs.declared.Status.{Status}
use Rattle.thread.specs.declared.Status.TheVariants.{Free}
use Rattle.thread.specs.declared.Thread.{Thread}
use Rattle.thread.specs.Thread.{blank_thread, status_number, ◌is◌}
use Rattle.census.specs.Counted.{one_if, is_in, records_in}
use Rattle.soundness.proofs.Changes.{standing}

-- one record is set
pub in-set : (x : Status) (threads : List Thread) (t : ℕ) (h : Thread) → t < length threads
    → records_in x (set threads t h) + is_in x (get_or threads t blank_thread) ≡ records_in x threads + is_in x h
unfolding records_in
in-set x [] t h l = absurd (omega arith)
in-set x (y ∷ threads) zero h l = omega arith
in-set x (y ∷ threads) (suc t) h l = let z = in-set x threads t h (omega arith) in omega arith

-- the records of a list that pass a test
passing : (Thread → Bool) → List Thread → ℕ
passing test [] = 0
passing test (h ∷ threads) = one_if (test h) + passing test threads

-- n different threads of a list whose records have a property
pub record Listed (P : Thread → Type 0) (threads : List Thread) (n : ℕ) : Type 0 where
  pub thread : ℕ → ℕ
  pub low : (i : ℕ) → i < n → thread i < length threads
  pub there : (i : ℕ) → i < n → P (get_or threads (thread i) blank_thread)
  pub once : (i k : ℕ) → i < n → k < n → thread i ≡ thread k → i ≡ k

module _ (test : Thread → Bool) where
  abbrev Passes : Thread → Type 0
  Passes h = test h ≡ true

  -- a list with one record more in front, which passes
  one_more : (h : Thread) (threads : List Thread) (n : ℕ) → Passes h → Listed Passes threads n → Listed Passes (h ∷ threads) (suc n)
  one_more h threads n e rest = record { thread = at; low = low; there = there; once = once }
    where
      at : ℕ → ℕ
      at zero = 0
      at (suc i) = suc (rest.thread i)

      low : (i : ℕ) → i < suc n → at i < suc (length threads)
      low zero l = omega arith
      low (suc i) l = let z = rest.low i (omega arith) in omega arith

      there : (i : ℕ) → i < suc n → Passes (get_or (h ∷ threads) (at i) blank_thread)
      there zero l = e
      there (suc i) l = rest.there i (omega arith)

      once : (i k : ℕ) → i < suc n → k < suc n → at i ≡ at k → i ≡ k
      once zero zero l m q = refl
      once zero (suc k) l m q = absurd (omega arith)
      once (suc i) zero l m q = absurd (omega arith)
      once (suc i) (suc k) l m q = ap suc (rest.once i k (omega arith) (omega arith) (omega arith))

  -- and one that is not listed
  one-other : (h : Thread) (threads : List Thread) (n : ℕ) → Listed Passes threads n → Listed Passes (h ∷ threads) n
  one-other h threads n rest = record {
    thread = λ i. suc (rest.thread i);
    low = λ i l. let z = rest.low i l in omega arith;
    there = λ i l. rest.there i l;
    once = λ i k l m q. rest.once i k l m (omega arith);
  }

  listed : (threads : List Thread) → Listed Passes threads (passing test threads)
  unfolding passing
  listed [] = record {
    thread = λ i. i;
    low = λ i l. l;
    there = λ i l. absurd (omega arith);
    once = λ i k l m q. q;
  }
  listed (h ∷ threads) = go (test h) refl (listed threads)
    where
      go : (b : Bool) → test h ≡ b → Listed Passes threads (passing test threads) → Listed Passes (h ∷ threads) (one_if b + passing test threads)
      go true e rest = subst (Listed Passes (h ∷ threads)) (omega arith) (one_more h threads (passing test threads) e rest)
      go false e rest = subst (Listed Passes (h ∷ threads)) (omega arith) (one-other h threads (passing test threads) rest)

-- THE RECORDS IN A STATE
in-passing : (x : Status) (threads : List Thread) → passing (λ h. h.status is x) threads ≡ records_in x threads
unfolding passing records_in
in-passing x [] = refl
in-passing x (h ∷ threads) = let z = in-passing x threads in omega arith

pub listed_in : (x : Status) (threads : List Thread) → Listed (λ h. standing h ≡ status_number x) threads (records_in x threads)
listed_in x threads =
    let all = listed (λ h. h.status is x) threads in
    let many = in-passing x threads in
    record {
      thread = all.thread;
      low = λ i l. all.low i (omega arith);
      there = λ i l. eqb-true _ _ (all.there i (omega arith));
      once = λ i k l m q. all.once i k (omega arith) (omega arith) q;
    }

-- THE OTHERS THAN THE FREE ONES
pub records_used : List Thread → ℕ
records_used threads = passing (λ h. not (h.status is Free)) threads

pub used-and-free : (threads : List Thread) → records_used threads + records_in Free threads ≡ length threads
unfolding records_used passing records_in
used-and-free [] = refl
used-and-free (h ∷ threads) = let z = used-and-free threads in let y = either (h.status is Free) in omega arith
  where
    either : (b : Bool) → one_if (not b) + one_if b ≡ 1
    either true = refl
    either false = refl

pub listed-used : (threads : List Thread) → Listed (λ h. 0 < standing h) threads (records_used threads)
unfolding records_used
listed-used threads =
    let all = listed (λ h. not (h.status is Free)) threads in
    record {
      thread = all.thread;
      low = all.low;
      there = λ i l. in_use (get_or threads (all.thread i) blank_thread) (all.there i l);
      once = all.once;
    }
  where
    in_use : (h : Thread) → not (h.status is Free) ≡ true → 0 < standing h
    in_use h e = go (standing h) e
      where
        go : (n : ℕ) → not (eqb n 0) ≡ true → 0 < n
        go zero q = let z : ◌≡◌ {A = ℕ} 0 1 = cc in absurd (omega arith)
        go (suc n) q = omega arith
