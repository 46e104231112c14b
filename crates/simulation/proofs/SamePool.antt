-- Changes that the pool does not see: a thread leaves its core or comes to one, is enabled or taken. Assumes nothing but that the threads
-- are in use.
use mathlib.Core.Bool.{Bool, true, false, cond}
use mathlib.Core.Path.{◌≡◌, refl, sym, ◌∙◌, ap, subst}
use Prim.Native.Nat.{ℕ, ◌<◌}
use native.Mathlib.Decide.{ℕ_discrete}
use native.Mathlib.Omega.{arith}
use lib.ListN.{get_or, set, length}
use lib.Seq.{get_or-set_same, get_or-set_other}
use Rattle.forkjoin.proofs.Arrays.{words-from}
use Rattle.thread.specs.declared.Status.{Status}
use Rattle.thread.specs.declared.Status.TheVariants.{Running, Ready}
use Rattle.thread.specs.declared.Thread.{Thread}
use Rattle.thread.specs.Thread.{status_number, none, blank_thread, with_status, disconnected}
use Rattle.rules.specs.State.{Job, State, thread_at}
use Rattle.rules.specs.Update.{set_thread, set_core, enqueue_ready}
use Rattle.rules.specs.Leave.{runs, leaves}
use Rattle.rules.specs.Sound.{Used}
use Rattle.simulation.proofs.StatePool.{pool_of, InUse, Alike, used-below, cells-alike}

alike-status : (x : Status) (h : Thread) → InUse h → 0 < status_number x → Alike h (with_status x h)
alike-status x h u k = record {
  routine = refl;
  position = refl;
  base = refl;
  pending = refl;
  window = refl;
  parent = refl;
  result = refl;
  used = u;
  still = k;
}

alike-disconnected : (x : Status) (h : Thread) → InUse h → 0 < status_number x → Alike h (disconnected x h)
alike-disconnected x h u k = record {
  routine = refl;
  position = refl;
  base = refl;
  pending = refl;
  window = refl;
  parent = refl;
  result = refl;
  used = u;
  still = k;
}

set-pool : (j : Job) (t : ℕ) (h : Thread) (s : State) → Alike (thread_at s t) h → pool_of j (set_thread t h s) ≡ pool_of j s
set-pool j t h s a = λ ι. record { cell = cells-alike j s.store.words s.threads t h a ι; words = words-from 32 s.store.memory; units = s.units }

-- a thread in use stays so when a record in use is put in
pub used-set : (s : State) (t : ℕ) (h : Thread) → t < length s.threads → InUse h → (u : ℕ) → Used s u → Used (set_thread t h s) u
used-set s t h l k u used = go (ℕ_discrete u t)
  where
    go : Dec (u ≡ t) → Used (set_thread t h s) u
    go (yes e) = subst InUse (sym (ap (λ z. get_or (set s.threads t h) z blank_thread) e ∙ get_or-set_same s.threads t h blank_thread l)) k
    go (no n) = subst InUse (sym (get_or-set_other s.threads t u h blank_thread n)) used

-- thread p comes to a core
pub runs-pool : (j : Job) (c p : ℕ) (s : State) → Used s p → pool_of j (runs c p s) ≡ pool_of j s
runs-pool j c p s u = set-pool j p (with_status Running (thread_at s p)) s (alike-status Running (thread_at s p) u (omega arith))

-- thread t leaves its core, and its parent, if it is connected, runs on
pub leaves-pool : (j : Job) (c t : ℕ) (x : Status) (s : State) → Used s t → 0 < status_number x
    → ((thread_at s t).connected ≡ true → Used s (thread_at s t).origin.parent) → pool_of j (leaves c t x s) ≡ pool_of j s
unfolding leaves
leaves-pool j c t x s u k p = go (thread_at s t).connected p
  where
    gone : pool_of j (set_thread t (disconnected x (thread_at s t)) s) ≡ pool_of j s
    gone = set-pool j t (disconnected x (thread_at s t)) s (alike-disconnected x (thread_at s t) u k)

    go : (b : Bool) → (b ≡ true → Used s (thread_at s t).origin.parent)
        → pool_of j (cond b (runs c (thread_at s t).origin.parent (set_thread t (disconnected x (thread_at s t)) s))
        (set_core c none (set_thread t (disconnected x (thread_at s t)) s))) ≡ pool_of j s
    go true f = runs-pool j c (thread_at s t).origin.parent (set_thread t (disconnected x (thread_at s t)) s)
        (used-set s t (disconnected x (thread_at s t)) (used-below s.threads t u) k (thread_at s t).origin.parent (f refl)) ∙ gone
    go false f = gone

-- suspended t joins the ready queue
pub enable-pool : (j : Job) (t : ℕ) (s : State) → Used s t → pool_of j (enqueue_ready t (set_thread t (with_status Ready (thread_at s t)) s)) ≡ pool_of j s
enable-pool j t s u = set-pool j t (with_status Ready (thread_at s t)) s (alike-status Ready (thread_at s t) u (omega arith))
