-- Every entry keeps the six parts of soundness that are about threads, cores and queues, whatever its log byte. Assumes nothing but
-- that the state before is sound.
use mathlib.Core.Bool.{false}
use mathlib.Core.Logic.{inl, inr, ⊎_elim}
use mathlib.Core.Path.{◌≡◌, refl, ◌∙◌}
use Prim.Native.Nat.{ℕ, ◌<◌}
use native.Mathlib.Omega.{arith}
use lib.Dec.{ltb}
use lib.ListN.{set}
use borrow.Author.Tests.{eq-eqb, ltb-false}
use Rattle.schedule.specs.declared.Entry.{Entry}
use Rattle.thread.specs.declared.Effect.TheVariants.{Joins, Returns}
use Rattle.thread.specs.declared.Status.TheVariants.{Ready, Suspended, Waiting}
use Rattle.thread.specs.Thread.{joined_at, shared_at, moved_to}
use Rattle.rules.specs.State.{Job, State, going, thread_at, on_core}
use Rattle.rules.specs.Turn.{turn_at, byte_of, effect_at, goes_on}
use Rattle.rules.specs.Rules.{entry_of}
use Rattle.rules.specs.Sound.{status_at, Seats, Links, Turns, Tree, Results, FreeThreads, Sound}
use Rattle.soundness.proofs.Entries.{Stepped, Kept, entry-by}
use Rattle.soundness.proofs.Changes.{children_at}
use Rattle.soundness.proofs.ForkTree.{Unfinished, Childless, none-counted}
use Rattle.soundness.proofs.ResultSlots.{clear-childless}
use Rattle.soundness.proofs.Tested.{lfork-tested, fork-tested, join-tested, return-tested}
use Rattle.soundness.proofs.Held.{Held, sound-held}
use Rattle.soundness.proofs.KeepsOwn.{held_same, held-own}
use Rattle.soundness.proofs.KeepsReady.{held-took, held-enabled}
use Rattle.soundness.proofs.KeepsLeave.{held-leaves, held-yields}
use Rattle.soundness.proofs.KeepsFork.{held-lforks, held-steals, held-forks}
use Rattle.soundness.proofs.KeepsReturn.{held-returns}

-- a machine that goes on has not finished
pub going-unfinished : (s : State) → s.outcome ≡ going → Unfinished s
going-unfinished s e v f = let z : ◌≡◌ {A = ℕ} 0 1 = cc in omega arith

module _ (j : Job) (s : State) (sound : Sound j s) where
  held : Held s
  held = sound-held j s sound

  -- the thread of a busy core runs
  pub runs : (c t : ℕ) → c < s.count → on_core s c ≡ t → t < 32 → status_at s t ≡ 1
  runs c t l e low = rw e at (sound.seats.runs c l (rw e low))

  -- a thread whose return passes has no children
  pub return-childless : (c t v : ℕ) → Stepped j s c t → effect_at j s (thread_at s t) ≡ Returns v → Childless s t
  return-childless c t v k q =
      let z = runs c t k.core k.seat k.low in
      clear-childless s sound.sized.threads sound.tree sound.results sound.placed.result t (omega arith) (return-tested j s t v q)

  -- a thread whose join passes has none either
  pub join-childless : (c t : ℕ) → Stepped j s c t → effect_at j s (thread_at s t) ≡ Joins → Childless s t
  join-childless c t k q = none-counted s sound.sized.threads sound.tree t
      (let z = runs c t k.core k.seat k.low in omega arith) none_left
    where
      none_left : children_at s t ≡ 0
      none_left =
          let e : ltb 0 (children_at s t) ≡ false = rw (eq-eqb (byte_of j (thread_at s t)) 10 (join-tested j s t q)) at k.passes in
          let z = ltb-false 0 (children_at s t) e in
          omega arith

  -- a command after which the thread goes to p
  moved : (c t p : ℕ) → Stepped j s c t → (s' : State) → s'.threads ≡ set s.threads t (moved_to p (thread_at s t)) → s'.cores ≡ s.cores
      → s'.count ≡ s.count
      → s'.queues.ready ≡ s.queues.ready → s'.queues.free_threads ≡ s.queues.free_threads → s'.outcome ≡ s.outcome → Held s'
  moved c t p k s' threads cores count ready free outcome =
      held-own s s' held t (moved_to p (thread_at s t)) k.low threads cores count ready free (going-unfinished s k.ongoing)
      (going-unfinished s' (outcome ∙ k.ongoing))
      refl refl refl refl refl (inr (λ i e. e))

  kept : Kept Held j s
  kept = record {
    unchanged = held;
    fault = λ t n o low q. held_same s _ held refl refl refl refl refl (going-unfinished s o) (λ v e. let z : ◌≡◌ {A = ℕ} 0 1 = cc in omega arith);
    waiting = λ c t k. held-leaves s held c t Waiting k.core k.seat k.low (going-unfinished s k.ongoing) (omega arith) (omega arith)
        (λ e. k.children);
    sets = λ c t k d v q. moved c t _ k _ refl refl refl refl refl refl;
    loads = λ c t k d a q. moved c t _ k _ refl refl refl refl refl refl;
    stores = λ c t k a v q. moved c t _ k _ refl refl refl refl refl refl;
    goes = λ c t k p q. moved c t p k _ refl refl refl refl refl refl;
    continues = λ c t k q. moved c t _ k _ refl refl refl refl refl refl;
    lforks = λ c t k r d a e q n ns x xs f.
        held-lforks j s held c t r d a e n ns x xs (going-unfinished s k.ongoing) f.number (lfork-tested j s t r d a e q) k.core
        k.seat (runs c t k.core k.seat k.low);
    forks = λ c t k r d a e q n ns x xs f.
        held-forks j s held c t r d a e n ns x xs (going-unfinished s k.ongoing) f.number (fork-tested j s t r d a e q)
        (runs c t k.core k.seat k.low);
    joins = λ c t k q.
        held-own s _ held t (joined_at (turn_at j s c t).next (thread_at s t)) k.low refl refl refl refl refl (going-unfinished s k.ongoing)
        (going-unfinished s k.ongoing)
        refl refl refl refl refl (inl (join-childless c t k q));
    suspends = λ c t k q.
        held-leaves (goes_on (turn_at j s c t) s) (moved c t _ k _ refl refl refl refl refl refl) c t Suspended k.core k.seat k.low
        (going-unfinished s k.ongoing)
        (omega arith) (omega arith) (λ e. absurd (omega arith));
    yields = λ c t k q.
        held-yields (goes_on (turn_at j s c t) s) (moved c t _ k _ refl refl refl refl refl refl) c t Ready k.core k.seat k.low
        (going-unfinished s k.ongoing) refl;
    returns = λ c t k v q. held-returns j s held c t v k.core k.seat k.low (going-unfinished s k.ongoing) (return-childless c t v k q);
    shares = λ c t k x q.
        held-own s _ held t (shared_at (turn_at j s c t).next x (thread_at s t)) k.low refl refl refl refl refl (going-unfinished s k.ongoing)
        (going-unfinished s k.ongoing)
        refl refl refl refl refl (inr (λ i e. e));
    takes = λ c t ts k.
        held-took s _ held c t ts k.core k.idle k.head refl refl refl refl refl (going-unfinished s k.ongoing)
        (going-unfinished s k.ongoing);
    steals = λ c t k r d a e q n ns x xs f.
        held-steals j s held c t r d a e n ns x xs (going-unfinished s k.ongoing) f.number
        (⊎_elim (lfork-tested j s t r d a e) (fork-tested j s t r d a e) q) k.core k.idle k.lent;
    enables = λ t k. held-enabled s _ held t k.suspended refl refl refl refl refl (going-unfinished s k.ongoing)
        (going-unfinished s k.ongoing);
  }

  -- EVERY ENTRY keeps them
  entry-held : (e : Entry) → Held (entry_of j s e).state
  entry-held = entry-by Held j s kept

  pub seats-kept : (e : Entry) → Seats (entry_of j s e).state
  seats-kept e = (entry-held e).seats

  pub links-kept : (e : Entry) → Links (entry_of j s e).state
  links-kept e = (entry-held e).links

  pub turns-kept : (e : Entry) → Turns (entry_of j s e).state
  turns-kept e = (entry-held e).turns

  pub tree-kept : (e : Entry) → Tree (entry_of j s e).state
  tree-kept e = (entry-held e).tree

  pub results-kept : (e : Entry) → Results (entry_of j s e).state
  results-kept e = (entry-held e).results

  pub free_threads-kept : (e : Entry) → FreeThreads (entry_of j s e).state
  free_threads-kept e = (entry-held e).free_threads
