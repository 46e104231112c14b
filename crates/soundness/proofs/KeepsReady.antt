-- A take, by which the ready queue's head runs on an idle core, and an enable, by which a suspended thread becomes ready, keep the
-- threads, cores and queues sound. Assumes nothing.
use mathlib.Core.Bool.{false}
use mathlib.Core.List.{List, ◌∷◌}
use mathlib.Core.Logic.{inl, inr}
use mathlib.Core.Path.{◌≡◌, refl, subst}
use Prim.Native.Nat.{ℕ, ◌<◌, ◌≤◌}
use native.Mathlib.Omega.{arith}
use lib.ListN.{length, set, length-set}
use Rattle.queue.specs.Contents.{appended, capacity}
use Rattle.thread.specs.declared.Status.TheVariants.{Running, Ready}
use Rattle.thread.specs.Thread.{with_status, none}
use Rattle.rules.specs.State.{State, thread_at, on_core}
use Rattle.rules.specs.Sound.{status_at}
use Rattle.soundness.proofs.Changes.{standing, connected_at, one-changed, used_low}
use Rattle.soundness.proofs.CoreSeats.{Same, same_refl, neither, Seat, came, sits, seats-move, seats-same}
use Rattle.soundness.proofs.LentThreads.{Bound, bound-refl, untied, not-both, links-same}
use Rattle.soundness.proofs.LineNumbers.{Lined, lined-took, lined-gave, turns-lined}
use Rattle.soundness.proofs.ForkTree.{Unfinished, Stays}
use Rattle.soundness.proofs.Held.{Held, Lives, lives-refl, held-living}

-- TAKE
module _ (s s' : State) (ok : Held s) (c t : ℕ) (ts : List ℕ) (l : c < s.count) (idle : none ≤ on_core s c) (head : s.queues.ready ≡ t ∷ ts)
    (threads : s'.threads ≡ set s.threads t (with_status Running (thread_at s t))) (cores : s'.cores ≡ set s.cores c t)
    (count : s'.count ≡ s.count)
    (ready : s'.queues.ready ≡ ts) (free : s'.queues.free_threads ≡ s.queues.free_threads) (over : Unfinished s) (over' : Unfinished s') where
  lined : Lined 2 s (t ∷ ts)
  lined = subst (λ xs. Lined 2 s xs) head (turns-lined s ok.many ok.turns)

  was-ready : status_at s t ≡ 2
  was-ready = lined.only.0.1

  below : t < length s.threads
  below = let m = ok.many in let z = lined.only.0.0 in omega arith

  runs : status_at s' t ≡ 1
  runs = one-changed s s' (λ u h h'. u ≡ t → standing h' ≡ 1) t _ below threads (λ u n e. absurd (n e)) (λ e. refl) t refl

  pub held-took : Held s'
  held-took = held-living s s' ok (rw (threads, length-set) ok.many) (rw (count, cores, length-set) ok.wide) free over over'
      (seats-move s s' ok.seats ok.wide c t l cores count
      (one-changed s s' (λ u h h'. Seat (on_core s c) t u h h') t _ below threads
      (λ u n. sits (λ e f. not-idle u e f) (same_refl 1 (thread_at s u))) (came refl))
      (λ m. runs) (λ m e. let y = was-ready in omega arith))
      (links-same s s' ok.links (one-changed s s' (λ u h h'. Bound h h') t _ below threads (λ u n. bound-refl s ok.links u) bound))
      ts ready
      (lined-took 2 s s' t ts lined (λ e. let y = runs in omega arith)
      (one-changed s s' (λ u h h'. ¬ (u ≡ t) → Same 2 h h') t _ below threads (λ u n m. same_refl 2 (thread_at s u)) (λ m. absurd (m refl))))
      (one-changed s s' (Lives s) t _ below threads (λ u n. lives-refl s ok u) (record { stays = stays; children = refl; pends = inr (λ k e. e) }))
    where
      not-idle : (u : ℕ) → status_at s u ≡ 1 → ¬ (u ≡ on_core s c)
      not-idle u e f = let z = used_low s ok.many u (omega arith) in omega arith

      bound : Bound (thread_at s t) (with_status Running (thread_at s t))
      bound = let y = was-ready in record {
        tied = refl;
        parent = λ e. refl;
        lent = record { to = λ e. absurd (omega arith); from = λ e. absurd (omega arith) };
        active = λ e. inl refl;
      }

      stays : Stays (thread_at s t) (with_status Running (thread_at s t))
      stays = let y = was-ready in record {
        parent = refl;
        result = refl;
        to = λ h. omega arith;
        from = λ h. omega arith;
        waits =
            λ e. absurd (omega arith);
      }

-- ENABLE
module _ (s s' : State) (ok : Held s) (t : ℕ) (suspended : status_at s t ≡ 3)
    (threads : s'.threads ≡ set s.threads t (with_status Ready (thread_at s t))) (cores : s'.cores ≡ s.cores) (count : s'.count ≡ s.count)
    (ready : s'.queues.ready ≡ appended capacity s.queues.ready t) (free : s'.queues.free_threads ≡ s.queues.free_threads) (over : Unfinished s)
    (over' : Unfinished s') where
  low : t < 32
  low = used_low s ok.many t (omega arith)

  inside : t < length s.threads
  inside = let m = ok.many in let z = low in omega arith

  stands : status_at s' t ≡ 2
  stands = one-changed s s' (λ u h h'. u ≡ t → standing h' ≡ 2) t _ inside threads (λ u n e. absurd (n e)) (λ e. refl) t refl

  pub held-enabled : Held s'
  held-enabled = held-living s s' ok (rw (threads, length-set) ok.many) (rw (count, cores) ok.wide) free over over'
      (seats-same s s' ok.seats cores count
      (one-changed s s' (λ u h h'. Same 1 h h') t _ inside threads (λ u n. same_refl 1 (thread_at s u))
      (neither 1 (thread_at s t) _ (λ e. omega arith) (λ e. omega arith))))
      (links-same s s' ok.links (one-changed s s' (λ u h h'. Bound h h') t _ inside threads (λ u n. bound-refl s ok.links u) bound))
      (appended capacity s.queues.ready t) ready
      (lined-gave 2 s s' t s.queues.ready (turns-lined s ok.many ok.turns) low (λ e. omega arith) stands
      (one-changed s s' (λ u h h'. ¬ (u ≡ t) → Same 2 h h') t _ inside threads (λ u n m. same_refl 2 (thread_at s u)) (λ m. absurd (m refl))))
      (one-changed s s' (Lives s) t _ inside threads (λ u n. lives-refl s ok u) (record { stays = stays; children = refl; pends = inr (λ k e. e) }))
    where
      loose : connected_at s t ≡ false
      loose = untied s ok.links t (λ e. omega arith) (λ e. omega arith)

      bound : Bound (thread_at s t) (with_status Ready (thread_at s t))
      bound = record {
        tied = refl;
        parent = λ e. refl;
        lent = neither 5 (thread_at s t) _ (λ e. omega arith) (λ e. omega arith);
        active = λ e. absurd (not-both _ e loose);
      }

      stays : Stays (thread_at s t) (with_status Ready (thread_at s t))
      stays = record { parent = refl; result = refl; to = λ h. omega arith; from = λ h. omega arith; waits = λ e. absurd (omega arith) }
