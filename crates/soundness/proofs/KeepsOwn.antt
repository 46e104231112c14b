-- Commands that change only their own thread's position, window and pending slots keep the threads, cores and queues sound; so does a
-- fault. Assumes nothing.
use mathlib.Core.Logic.{◌⊎◌, inl, inr, ⊎_elim}
use mathlib.Core.Path.{◌≡◌, sym, ◌∙◌}
use Prim.Native.Nat.{ℕ, ◌<◌}
use native.Mathlib.Omega.{arith}
use lib.ListN.{length, set, length-set}
use Rattle.thread.specs.declared.Thread.{Thread}
use Rattle.rules.specs.State.{State, thread_at}
use Rattle.rules.specs.Sound.{status_at}
use Rattle.soundness.proofs.Changes.{standing, none-changed, one-changed}
use Rattle.soundness.proofs.CoreSeats.{Same, same_refl, seats-same}
use Rattle.soundness.proofs.LentThreads.{Bound, bound-refl, links-same}
use Rattle.soundness.proofs.LineNumbers.{lined-same, turns-lined}
use Rattle.soundness.proofs.ForkTree.{Unfinished, Childless, Stays}
use Rattle.soundness.proofs.ResultSlots.{Pends}
use Rattle.soundness.proofs.Held.{Held, Lives, lives-refl, held-living}

-- no record, core or queue changes
pub held_same : (s s' : State) → Held s → s'.threads ≡ s.threads → s'.cores ≡ s.cores → s'.count ≡ s.count → s'.queues.ready ≡ s.queues.ready
    → s'.queues.free_threads ≡ s.queues.free_threads → Unfinished s → Unfinished s' → Held s'
held_same s s' ok threads cores count ready free over over' =
    held-living s s' ok (rw threads ok.many) (rw (count, cores) ok.wide) free over over'
    (seats-same s s' ok.seats cores count (none-changed s s' (λ u h h'. Same 1 h h') threads (λ u. same_refl 1 (thread_at s u))))
    (links-same s s' ok.links (none-changed s s' (λ u h h'. Bound h h') threads (λ u. bound-refl s ok.links u)))
    s.queues.ready ready
    (lined-same 2 s s' s.queues.ready (turns-lined s ok.many ok.turns)
    (none-changed s s' (λ u h h'. Same 2 h h') threads (λ u. same_refl 2 (thread_at s u))))
    (none-changed s s' (Lives s) threads (lives-refl s ok))

-- thread t's record becomes H, which is about the same as before
module _ (s s' : State) (ok : Held s) (t : ℕ) (H : Thread) (low : t < 32) (threads : s'.threads ≡ set s.threads t H)
    (cores : s'.cores ≡ s.cores)
    (count : s'.count ≡ s.count) (ready : s'.queues.ready ≡ s.queues.ready) (free : s'.queues.free_threads ≡ s.queues.free_threads) (over : Unfinished s)
    (over' : Unfinished s')
    (status : standing H ≡ status_at s t) (connected : H.connected ≡ (thread_at s t).connected) (parent : H.origin.parent ≡ (thread_at s t).origin.parent)
    (result : H.origin.result ≡ (thread_at s t).origin.result) (children : H.family.children ≡ (thread_at s t).family.children)
    (pends : Childless s t ⊎ Pends (thread_at s t) H) where
  below : t < length s.threads
  below = let m = ok.many in omega arith

  same : (k : ℕ) (u : ℕ) → Same k (thread_at s u) (thread_at s' u)
  same k = one-changed s s' (λ u h h'. Same k h h') t H below threads (λ u n. same_refl k (thread_at s u))
      (record { to = λ e. status ∙ e; from = λ e. sym status ∙ e })

  pub held-own : Held s'
  held-own = held-living s s' ok (rw (threads, length-set) ok.many) (rw (count, cores) ok.wide) free over over'
      (seats-same s s' ok.seats cores count (same 1))
      (links-same s s' ok.links (one-changed s s' (λ u h h'. Bound h h') t H below threads (λ u n. bound-refl s ok.links u) bound))
      s.queues.ready ready
      (lined-same 2 s s' s.queues.ready (turns-lined s ok.many ok.turns) (same 2))
      (one-changed s s' (Lives s) t H below threads (λ u n. lives-refl s ok u) (record { stays = stays; children = children; pends = pends }))
    where
      bound : Bound (thread_at s t) H
      bound = record {
        tied = connected;
        parent = λ e. parent;
        lent = record { to = λ e. status ∙ e; from = λ e. sym status ∙ e };
        active = λ e. ⊎_elim (λ z. inl (status ∙ z)) (λ z. inr (status ∙ z)) (ok.links.linked t e).0;
      }

      stays : Stays (thread_at s t) H
      stays = record {
        parent = parent;
        result = result;
        to = λ h. (omega arith);
        from = λ h. (omega arith);
        waits =
            λ e. rw children (ok.tree.waits t (sym status ∙ e));
      }
