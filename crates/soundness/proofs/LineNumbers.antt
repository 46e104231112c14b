-- The ready queue and the free-thread queue: each holds exactly the numbers below 32 whose threads have one status (2 or 0), each once.
-- Said once of a status k and a queue; `Turns` and `FreeThreads` follow. A change leaves the queue alone, takes its head, or adds at
-- its tail, where there is room by `appended-new`. Assumes nothing.
use mathlib.Core.List.{List, [], ◌∷◌, ◌++◌}
use mathlib.Core.Logic.{⊎_elim}
use mathlib.Core.Path.{◌≡◌, sym, ◌∙◌, ap, subst}
use Prim.Native.Nat.{ℕ, ◌<◌}
use native.Mathlib.Decide.{ℕ_discrete}
use native.Mathlib.Omega.{arith}
use lib.ListN.{length}
use Rattle.queue.specs.Contents.{appended, capacity}
use Rattle.rules.specs.Lists.{Every, Member, Distinct}
use Rattle.rules.specs.State.{State, thread_at}
use Rattle.rules.specs.Sound.{status_at, Turns, FreeThreads}
use Rattle.soundness.proofs.Queues.{every_map, every-member, member-every, every-last, member-left, member-last, distinct-last, appended-new}
use Rattle.soundness.proofs.Changes.{used_low}
use Rattle.soundness.proofs.CoreSeats.{Same}

-- the queue xs holds the numbers below 32 of threads of status k, each once
pub record Lined (k : ℕ) (s : State) (xs : List ℕ) : Type 0 where
  pub only : Every (λ t. (t < 32) × (status_at s t ≡ k)) xs
  pub once : Distinct xs
  pub stands : (t : ℕ) → t < 32 → status_at s t ≡ k → Member t xs

-- the queue stays
pub lined-same : (k : ℕ) (s s' : State) (xs : List ℕ) → Lined k s xs → ((u : ℕ) → Same k (thread_at s u) (thread_at s' u)) → Lined k s' xs
lined-same k s s' xs ok view = record {
  only = every_map (λ u h. (h.0, (view u).to h.1)) xs ok.only;
  once = ok.once;
  stands = λ t l e. ok.stands t l ((view t).from e);
}

-- its head is taken
pub lined-took : (k : ℕ) (s s' : State) (t : ℕ) (ts : List ℕ) → Lined k s (t ∷ ts) → ¬ (status_at s' t ≡ k)
    → ((u : ℕ) → ¬ (u ≡ t) → Same k (thread_at s u) (thread_at s' u)) → Lined k s' ts
lined-took k s s' t ts ok gone view = record {
  only = member-every ts (λ u m. let h = every-member (λ v. (v < 32) × (status_at s v ≡ k)) ts ok.only.1 u m in
      (h.0, (view u (other u m)).to h.1));
  once = ok.once.1;
  stands = λ u l e. let n : ¬ (u ≡ t) = λ f. gone (sym (ap (status_at s') f) ∙ e) in
      ⊎_elim (λ z. absurd (n z)) (λ z. z) (ok.stands u l ((view u n).from e));
}
  where
    other : (u : ℕ) → Member u ts → ¬ (u ≡ t)
    other u m e = ok.once.0 (rw e at m)

-- a number of another status is not in it, and is not refused
lined-absent : (k : ℕ) (s : State) (n : ℕ) (xs : List ℕ) → Lined k s xs → ¬ (status_at s n ≡ k) → Member n xs → ⊥
lined-absent k s n xs ok was m = was (every-member (λ t. (t < 32) × (status_at s t ≡ k)) xs ok.only n m).1

pub lined-room : (k : ℕ) (s : State) (n : ℕ) (xs : List ℕ) → Lined k s xs → n < 32 → ¬ (status_at s n ≡ k) → appended capacity xs n ≡ xs ++ (n ∷ [])
lined-room k s n xs ok low was = appended-new xs n ok.once (every_map (λ u h. h.0) xs ok.only) low (lined-absent k s n xs ok was)

-- one number more at its tail
pub lined-gave : (k : ℕ) (s s' : State) (n : ℕ) (xs : List ℕ) → Lined k s xs → n < 32 → ¬ (status_at s n ≡ k) → status_at s' n ≡ k
    → ((u : ℕ) → ¬ (u ≡ n) → Same k (thread_at s u) (thread_at s' u)) → Lined k s' (appended capacity xs n)
lined-gave k s s' n xs ok low was is view = subst (λ ys. Lined k s' ys) (sym (lined-room k s n xs ok low was)) (record {
  only = every-last (λ t. (t < 32) × (status_at s' t ≡ k)) xs n (every_map (λ u h. (h.0, (view u (other u h.1)).to h.1)) xs ok.only)
      (low, is);
  once = distinct-last xs n ok.once (lined-absent k s n xs ok was);
  stands = λ u l e. stands u l e (ℕ_discrete u n);
})
  where
    other : (u : ℕ) → status_at s u ≡ k → ¬ (u ≡ n)
    other u e f = was (sym (ap (status_at s) f) ∙ e)

    stands : (u : ℕ) → u < 32 → status_at s' u ≡ k → Dec (u ≡ n) → Member u (xs ++ (n ∷ []))
    stands u l e (yes f) = rw f (member-last n xs)
    stands u l e (no m) = member-left u xs (n ∷ []) (ok.stands u l ((view u m).from e))

-- TURNS: the ready queue, status 2
pub turns-lined : (s : State) → length s.threads ≡ 32 → Turns s → Lined 2 s s.queues.ready
turns-lined s many ok = record {
  only = every_map (λ t e. (used_low s many t (omega arith), e)) s.queues.ready ok.ready;
  once = ok.once;
  stands = λ t l e. ok.stands t e;
}

pub lined-turns : (s : State) → length s.threads ≡ 32 → (xs : List ℕ) → s.queues.ready ≡ xs → Lined 2 s xs → Turns s
lined-turns s many xs e ok = record {
  ready = rw e (every_map (λ t h. h.1) xs ok.only);
  once = rw e ok.once;
  stands = λ t h. rw e (ok.stands t (used_low s many t (omega arith)) h);
}

-- FREE THREADS: the free-thread queue, status 0
pub free-lined : (s : State) → FreeThreads s → Lined 0 s s.queues.free_threads
free-lined s ok = record { only = ok.free; once = ok.once; stands = ok.stands }

pub lined-free : (s : State) (xs : List ℕ) → s.queues.free_threads ≡ xs → Lined 0 s xs → FreeThreads s
lined-free s xs e ok = record { free = rw e ok.only; once = rw e ok.once; stands = rw e ok.stands }

-- NO QUEUE REFUSES A NUMBER: a thread that is not ready has room in the ready queue, one in use has room in the free-thread queue
pub ready-room : (s : State) → length s.threads ≡ 32 → Turns s → (t : ℕ) → t < 32 → ¬ (status_at s t ≡ 2)
    → appended capacity s.queues.ready t ≡ s.queues.ready ++ (t ∷ [])
ready-room s many ok t l n = lined-room 2 s t s.queues.ready (turns-lined s many ok) l n

pub free-room : (s : State) → FreeThreads s → (t : ℕ) → t < 32 → ¬ (status_at s t ≡ 0)
    → appended capacity s.queues.free_threads t ≡ s.queues.free_threads ++ (t ∷ [])
free-room s ok t l n = lined-room 0 s t s.queues.free_threads (free-lined s ok) l n
