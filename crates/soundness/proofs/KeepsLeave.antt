-- A thread that waits, suspends or yields leaves its core, and keeps the threads, cores and queues sound: "A connected thread .. is
-- disconnected and its parent runs on this core; an unconnected one leaves the core idle". Assumes nothing.
use mathlib.Core.Bool.{Bool, true, false, cond}
use mathlib.Core.List.{List}
use mathlib.Core.Logic.{◌⊎◌, inl, inr, ⊎_elim}
use mathlib.Core.Path.{◌≡◌, refl, sym, ◌∙◌, ap}
use Prim.Native.Nat.{ℕ, ◌<◌, ◌≤◌}
use native.Mathlib.Decide.{ℕ_discrete}
use native.Mathlib.Omega.{arith}
use lib.ListN.{length, get_or, set, length-set}
use lib.Seq.{get_or-set_other}
use Rattle.queue.specs.Contents.{appended, capacity}
use Rattle.thread.specs.declared.Status.{Status}
use Rattle.thread.specs.declared.Status.TheVariants.{Running}
use Rattle.thread.specs.Thread.{blank_thread, with_status, disconnected, status_number, none}
use Rattle.rules.specs.State.{State, thread_at, on_core}
use Rattle.rules.specs.Update.{set_thread, set_core, enqueue_ready}
use Rattle.rules.specs.Leave.{runs, leaves}
use Rattle.rules.specs.Sound.{status_at, parent_at}
use Rattle.soundness.proofs.Changes.{standing, connected_at, children_at, one-changed, two-changed, used-below}
use Rattle.soundness.proofs.CoreSeats.{Same, same_refl, neither, Seat, came, went, sits, seats-move}
use Rattle.soundness.proofs.LentThreads.{Bound, bound-refl, not-both, links-same, Cut, off, again, stays, links-cut}
use Rattle.soundness.proofs.LineNumbers.{Lined, lined-same, lined-gave, turns-lined}
use Rattle.soundness.proofs.ForkTree.{Unfinished, Stays}
use Rattle.soundness.proofs.Held.{Held, Lives, lives-refl, held-living}

-- the ready queue once thread t has the status k: a ready thread has joined its tail
abbrev pub JoinsLine : State → State → ℕ → ℕ → Type 0
JoinsLine s s' t k = ((k ≡ 2 → ⊥) × (s'.queues.ready ≡ s.queues.ready)) ⊎ ((k ≡ 2) × (s'.queues.ready ≡ appended capacity s.queues.ready t))

module _ (s s' : State) (ok : Held s) (c t : ℕ) (status : Status) (l : c < s.count) (seat : on_core s c ≡ t) (low : t < 32)
    (from2 : 2 ≤ status_number status) (to4 : status_number status ≤ 4) (wait : status_number status ≡ 4 → 0 < children_at s t)
    (count : s'.count ≡ s.count) (free : s'.queues.free_threads ≡ s.queues.free_threads) (ready : JoinsLine s s' t (status_number status))
    (over : Unfinished s) (over' : Unfinished s') where
  was-running : status_at s t ≡ 1
  was-running = rw seat at (ok.seats.runs c l (rw seat low))

  below : t < length s.threads
  below = let m = ok.many in omega arith

  -- the thread itself stays what it was in the tree
  left : Stays (thread_at s t) (disconnected status (thread_at s t))
  left = let y = was-running in record { parent = refl; result = refl; to = λ h. omega arith; from = λ h. omega arith; waits = wait }

  line : ((u : ℕ) → ¬ (u ≡ t) → Same 2 (thread_at s u) (thread_at s' u)) → status_at s' t ≡ status_number status
      → (xs : List ℕ) × (s'.queues.ready ≡ xs) × Lined 2 s' xs
  line others own = ⊎_elim stay join ready
    where
      before : Lined 2 s s.queues.ready
      before = turns-lined s ok.many ok.turns

      stay : (status_number status ≡ 2 → ⊥) × (s'.queues.ready ≡ s.queues.ready) → (xs : List ℕ) × (s'.queues.ready ≡ xs) × Lined 2 s' xs
      stay z = (s.queues.ready, z.1, lined-same 2 s s' s.queues.ready before (λ u. go u (ℕ_discrete u t)))
        where
          go : (u : ℕ) → Dec (u ≡ t) → Same 2 (thread_at s u) (thread_at s' u)
          go u (yes e) = let y = was-running in let f = ap (status_at s) e in let g = ap (status_at s') e in
              neither 2 (thread_at s u) (thread_at s' u) (λ q. omega arith) (λ q. z.0 (sym own ∙ sym g ∙ q))
          go u (no n) = others u n

      join : (status_number status ≡ 2) × (s'.queues.ready ≡ appended capacity s.queues.ready t) → (xs : List ℕ) × (s'.queues.ready ≡ xs) × Lined 2 s' xs
      join z = (
        appended capacity s.queues.ready t,
        z.1,
        lined-gave 2 s s' t s.queues.ready before low (λ e. let y = was-running in omega arith) (own ∙ z.0) others,
      )

  -- an unconnected thread leaves the core idle
  module _ (loose : connected_at s t ≡ false) (threads : s'.threads ≡ set s.threads t (disconnected status (thread_at s t)))
      (cores : s'.cores ≡ set s.cores c none) where
    pub held-idle : Held s'
    held-idle = held-living s s' ok (rw (threads, length-set) ok.many) (rw (count, cores, length-set) ok.wide) free over over'
        (seats-move s s' ok.seats ok.wide c none l cores count
        (one-changed s s' (λ u h h'. Seat (on_core s c) none u h h') t _ below threads
        (λ u n. sits (λ e f. n (f ∙ seat)) (same_refl 1 (thread_at s u))) (went (sym seat) (λ e. omega arith)))
        (λ m. absurd (omega arith)) (λ m. absurd (omega arith)))
        (links-same s s' ok.links (one-changed s s' (λ u h h'. Bound h h') t _ below threads (λ u n. bound-refl s ok.links u) bound))
        queue.0 queue.1 queue.2
        (one-changed s s' (Lives s) t _ below threads (λ u n. lives-refl s ok u) (record { stays = left; children = refl; pends = inr (λ k e. e) }))
      where
        queue : (xs : List ℕ) × (s'.queues.ready ≡ xs) × Lined 2 s' xs
        queue = line (one-changed s s' (λ u h h'. ¬ (u ≡ t) → Same 2 h h') t _ below threads (λ u n m. same_refl 2 (thread_at s u))
            (λ m. absurd (m refl)))
            (one-changed s s' (λ u h h'. u ≡ t → standing h' ≡ status_number status) t _ below threads (λ u n e. absurd (n e)) (λ e. refl) t refl)

        bound : Bound (thread_at s t) (disconnected status (thread_at s t))
        bound = let y = was-running in record {
          tied = sym loose;
          parent = λ e. refl;
          lent = neither 5 (thread_at s t) _ (λ e. omega arith) (λ e. omega arith);
          active = λ e. absurd (not-both _ e loose);
        }

  -- a connected one's parent p runs on the core
  module _ (p : ℕ) (parent : parent_at s t ≡ p) (tied : connected_at s t ≡ true)
      (threads : s'.threads ≡ set (set s.threads t (disconnected status (thread_at s t))) p (with_status Running (thread_at s p)))
      (cores : s'.cores ≡ set s.cores c p) where
    p-lent : status_at s p ≡ 5
    p-lent = rw parent at (ok.links.linked t tied).1

    apart : ¬ (t ≡ p)
    apart e = let y = p-lent in let z = was-running in let x = ap (status_at s) e in omega arith

    p-below : p < length s.threads
    p-below = used-below s p (let y = p-lent in omega arith)

    pub held-handed : Held s'
    held-handed = held-living s s' ok (rw (threads, length-set, length-set) ok.many) (rw (count, cores, length-set) ok.wide) free over over'
        (seats-move s s' ok.seats ok.wide c p l cores count
        (two-changed s s' (λ u h h'. Seat (on_core s c) p u h h') t _ p _ below p-below apart threads
        (λ u n m. sits (λ e f. n (f ∙ seat)) (same_refl 1 (thread_at s u))) (went (sym seat) (λ e. omega arith)) (came refl))
        (λ m. two-changed s s' (λ u h h'. u ≡ p → standing h' ≡ 1) t _ p _ below p-below apart threads (λ u n m e. absurd (m e))
        (λ e. absurd (apart e)) (λ e. refl) p refl)
        (λ m e. let y = p-lent in omega arith))
        (links-cut s s' ok.links t p was-running tied parent
        (two-changed s s' (λ u h h'. Cut t p u h h') t _ p _ below p-below apart threads
        (λ u n m. stays n m (bound-refl s ok.links u)) (off refl refl (λ e. omega arith)) (again refl refl refl refl)))
        queue.0 queue.1 queue.2
        (two-changed s s' (Lives s) t _ p _ below p-below apart threads (λ u n m. lives-refl s ok u)
        (record { stays = left; children = refl; pends = inr (λ k e. e) }) (record { stays = back; children = refl; pends = inr (λ k e. e) }))
      where
        queue : (xs : List ℕ) × (s'.queues.ready ≡ xs) × Lined 2 s' xs
        queue = line (two-changed s s' (λ u h h'. ¬ (u ≡ t) → Same 2 h h') t _ p _ below p-below apart threads
            (λ u n m k. same_refl 2 (thread_at s u)) (λ m. absurd (m refl))
            (λ m. let y = p-lent in neither 2 (thread_at s p) _ (λ e. omega arith) (λ e. omega arith)))
            (two-changed s s' (λ u h h'. u ≡ t → standing h' ≡ status_number status) t _ p _ below p-below apart threads
            (λ u n m e. absurd (n e)) (λ e. refl) (λ e. absurd (apart (sym e))) t refl)

        back : Stays (thread_at s p) (with_status Running (thread_at s p))
        back = let y = p-lent in record {
          parent = refl;
          result = refl;
          to = λ h. omega arith;
          from = λ h. omega arith;
          waits =
              λ e. absurd (omega arith);
        }

-- the two rules of leaving: with waits and suspends the ready queue stays; with a yield the thread joins its tail
module _ (s : State) (ok : Held s) (c t : ℕ) (status : Status) (l : c < s.count) (seat : on_core s c ≡ t) (low : t < 32) (over : Unfinished s) where
  -- the parent's record, looked up once t's has changed
  other-record : connected_at s t ≡ true → get_or (set s.threads t (disconnected status (thread_at s t))) (parent_at s t) blank_thread ≡ thread_at s
      (parent_at s t)
  other-record e = get_or-set_other s.threads t (parent_at s t) _ blank_thread
      (λ q.
      let z : status_at s t ≡ 1 = rw seat at (ok.seats.runs c l (rw seat low)) in
      let y = (ok.links.linked t e).1 in
      let x = ap (status_at s) q in
      omega arith)

  pub held-leaves : 3 ≤ status_number status → status_number status ≤ 4 → (status_number status ≡ 4 → 0 < children_at s t) → Held (leaves c t status s)
  unfolding leaves
  held-leaves k3 k4 wait = go (connected_at s t) refl
    where
      go : (b : Bool) → connected_at s t ≡ b → Held (cond b (runs c (parent_at s t) (set_thread t (disconnected status (thread_at s t)) s))
          (set_core c none (set_thread t (disconnected status (thread_at s t)) s)))
      go true e = held-handed s _ ok c t status l seat low (omega arith) k4 wait refl refl (inl ((λ q. omega arith), refl)) over over
          (parent_at s t) refl e (rw (other-record e)) refl
      go false e = held-idle s _ ok c t status l seat low (omega arith) k4 wait refl refl (inl ((λ q. omega arith), refl)) over over e refl refl

  pub held-yields : status_number status ≡ 2 → Held (enqueue_ready t (leaves c t status s))
  unfolding leaves
  held-yields k2 = go (connected_at s t) refl
    where
      go : (b : Bool) → connected_at s t ≡ b
          → Held (enqueue_ready t (cond b (runs c (parent_at s t) (set_thread t (disconnected status (thread_at s t)) s))
          (set_core c none (set_thread t (disconnected status (thread_at s t)) s))))
      go true e = held-handed s _ ok c t status l seat low (omega arith) (omega arith) (λ q. absurd (omega arith)) refl refl
          (inr (k2, refl)) over over
          (parent_at s t) refl e (rw (other-record e)) refl
      go false e = held-idle s _ ok c t status l seat low (omega arith) (omega arith) (λ q. absurd (omega arith)) refl refl
          (inr (k2, refl)) over over e refl refl
