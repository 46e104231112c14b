-- The entry lemma: what each entry of a schedule is to the theory (`Moves`). Assumes a sound state whose result slots lie in the parents'
-- frames.
use mathlib.Core.Bool.{Bool, true, false, cond}
use mathlib.Core.List.{List}
use mathlib.Core.Logic.{⊎_elim}
use mathlib.Core.Path.{◌≡◌, refl, sym, ◌∙◌, subst}
use Prim.Native.Nat.{ℕ, ◌+◌, ◌<◌}
use native.Mathlib.Omega.{arith}
use Rattle.image.specs.Layout.{routine_count}
use Rattle.schedule.specs.declared.Entry.{Entry}
use Rattle.window.proofs.Instance.{windows}
use Rattle.thread.specs.declared.Fault.{Fault}
use Rattle.thread.specs.Effect.{number_of_fault}
use Rattle.thread.specs.declared.Effect.TheVariants.{Faults, Lforks, Forks, Returns}
use Rattle.thread.specs.declared.Status.{Status}
use Rattle.thread.specs.declared.Status.TheVariants.{Ready, Suspended, Waiting}
use Rattle.thread.specs.declared.Thread.{Thread}
use Rattle.thread.specs.Thread.{status_number, is_root, disconnected, none}
use Rattle.thread.proofs.MarkedWindows.{window-tests}
use Rattle.thread.proofs.ThreadSteps.{ThreadStep, does-fault}
use Rattle.rules.specs.declared.ForkKind.{ForkKind}
use Rattle.rules.specs.declared.ForkKind.TheVariants.{Called, Queued, Stolen}
use Rattle.rules.specs.State.{Job, State, going, thread_at}
use Rattle.rules.specs.Update.{accepted, set_thread, set_core, set_ready}
use Rattle.rules.specs.Turn.{Turn, turn_at, effect_at, goes_on, faults, offset_of}
use Rattle.rules.specs.Leave.{leaves, runs}
use Rattle.rules.specs.Fork.{Asked, asked, born, handed}
use Rattle.rules.specs.Return.{return_of, return_to_parent}
use Rattle.rules.specs.Rules.{entry_of}
use Rattle.rules.specs.Sound.{GoodJob, Sound, Used}
use Rattle.soundness.proofs.Tested.{fault-tested}
use Rattle.soundness.proofs.EntryCases.{Stepped, Chosen, above, on_free, Forked, StepCases, Cases, entry-by}
use Rattle.soundness.proofs.ThreadsMet.{runner, waiter-used, lent-used, linked-parent}
use Rattle.simulation.proofs.JobCode.{weight_in, code_of}
use Rattle.simulation.proofs.StatePool.{link_of, pool_of}
use Rattle.simulation.proofs.OwnSteps.{here, cell-here, units-here, effect-met, effect-slots, sets-goes, loads-goes, stores-goes, goes-goes, continues-goes, suspends-goes, yields-goes, shares-goes}
use Rattle.simulation.proofs.JoinStep.{joins-goes}
use Rattle.simulation.proofs.ForkStep.{Room, room-above, room-free, lforks-goes, forks-goes}
use Rattle.simulation.proofs.ReturnStep.{returns, root-cell, returns-goes}
use Rattle.simulation.proofs.SamePool.{runs-pool, leaves-pool, enable-pool}
use Rattle.simulation.proofs.UsedThreads.{ready-used, moved-used, moved-parent}
pub use Rattle.simulation.proofs.Moves.{Rests, Steps, Finishes, FaultsBy, Moves, refuses, rests, steps, finishes, faults-by, Accepted, resting, stepping, finishing, accepted-moves, faulted-moves, refused-moves}

-- who leaves a core, and where a child goes, are no part of the outcome
leaves-outcome : (c t : ℕ) (x : Status) (s : State) → (leaves c t x s).outcome ≡ s.outcome
unfolding leaves
leaves-outcome c t x s = go (thread_at s t).connected
  where
    go : (b : Bool) → (cond b (runs c (thread_at s t).origin.parent (set_thread t (disconnected x (thread_at s t)) s))
        (set_core c none (set_thread t (disconnected x (thread_at s t)) s))).outcome ≡ s.outcome
    go true = refl
    go false = refl

born-outcome : (j : Job) (s : State) (kind : ForkKind) (o : Turn) (f : Asked) (n : ℕ) (ns : List ℕ) (x : ℕ) (xs : List ℕ)
    → (born j s kind o f (handed n ns x xs)).outcome ≡ s.outcome
unfolding born
born-outcome j s Called o f n ns x xs = refl
born-outcome j s Queued o f n ns x xs = refl
born-outcome j s Stolen o f n ns x xs = refl

return-outcome : (j : Job) (s : State) (o : Turn) (v : ℕ) → is_root o.thread ≡ false → (return_of j s o v).outcome ≡ s.outcome
unfolding return_of return_to_parent
return-outcome j s o v h = rw h

module _ (j : Job) (good : GoodJob j) (s : State) (ok : Sound j s) where
  step_of : (t : ℕ) (s' : State) → s.outcome ≡ going → s'.outcome ≡ s.outcome
      → ThreadStep windows window-tests (code_of j good) t (pool_of j s) (pool_of j s') → Moves j good s (accepted s')
  step_of t s' o e step = steps o (record { log = refl; ongoing = e ∙ o; thread = t; step = step })

  rest_of : (s' : State) → s.outcome ≡ going → s'.outcome ≡ s.outcome → pool_of j s' ≡ pool_of j s → Moves j good s (accepted s')
  rest_of s' o e p = rests o (record { log = refl; ongoing = e ∙ o; pool = p })

  -- the thread leaves its core behind its command
  leaves-step : (c t : ℕ) (x : Status) (k : Stepped j s c t) → 0 < status_number x
      → ThreadStep windows window-tests (code_of j good) t (pool_of j s) (pool_of j (goes_on (turn_at j s c t) s))
      → ThreadStep windows window-tests (code_of j good) t (pool_of j s) (pool_of j (leaves c t x (goes_on (turn_at j s c t) s)))
  leaves-step c t x k l step = subst (ThreadStep windows window-tests (code_of j good) t (pool_of j s))
      (sym (leaves-pool j c t x (goes_on (turn_at j s c t) s) (moved-used j s ok c t k) l (moved-parent j s ok c t k))) step

  fault-moves : (c t : ℕ) → s.outcome ≡ going → Used s t → (n : Fault) → effect_at j s (thread_at s t) ≡ Faults n
      → Moves j good s (faults (turn_at j s c t) (number_of_fault n) s)
  fault-moves c t o u n met =
      let f = fault-tested j s t n met in
      faults-by o (record {
        number = number_of_fault n;
        fault = f;
        thread = t;
        offset = offset_of j (thread_at s t);
        halted = here j good s ok c t u;
        link = link_of (thread_at s t);
        there = cell-here j good s ok c t u;
        halts = does-fault windows window-tests (code_of j good) (here j good s ok c t u) n (effect-met j good s ok c t u (Faults n) met);
        log = refl;
        over = refl;
        pool = refl;
      })

  -- the child of a fork has room
  room : (kind : ForkKind) (h : Thread) (r n : ℕ) (ns : List ℕ) (x : ℕ) (xs : List ℕ) → Forked j s kind h r n ns x xs → r < routine_count j.image
      → Room j s r n x
  room kind h r n ns x xs f low = by f.place
    where
      by : Chosen j s kind h r x xs → Room j s r n x
      by (above g e q) = rw e (room-above j s ok kind h r n ns f.number g)
      by (on_free g q) = room-free j s good ok r n x ns xs f.number q low

  lfork-moves : (kind : ForkKind) (c t : ℕ) → s.outcome ≡ going → Used s t → (r d a e : ℕ) → effect_at j s (thread_at s t) ≡ Lforks r d a e
      → (n : ℕ) (ns : List ℕ) (x : ℕ) (xs : List ℕ) → Forked j s kind (thread_at s t) r n ns x xs
      → Moves j good s (accepted (born j s kind (turn_at j s c t) (asked r d a e) (handed n ns x xs)))
  lfork-moves kind c t o u r d a e met n ns x xs f =
      let range = (effect-slots j good s ok c t u (Lforks r d a e) met).0 in
      step_of t (born j s kind (turn_at j s c t) (asked r d a e) (handed n ns x xs)) o (born-outcome j s kind (turn_at j s c t) (asked r d a e) n ns x xs)
      (lforks-goes j good s ok c t u kind r d a e n ns x xs (room kind (thread_at s t) r n ns x xs f range.routine) range met)

  fork-moves : (kind : ForkKind) (c t : ℕ) → s.outcome ≡ going → Used s t → (r d a e : ℕ) → effect_at j s (thread_at s t) ≡ Forks r d a e
      → (n : ℕ) (ns : List ℕ) (x : ℕ) (xs : List ℕ) → Forked j s kind (thread_at s t) r n ns x xs
      → Moves j good s (accepted (born j s kind (turn_at j s c t) (asked r d a e) (handed n ns x xs)))
  fork-moves kind c t o u r d a e met n ns x xs f =
      let range = (effect-slots j good s ok c t u (Forks r d a e) met).0 in
      step_of t (born j s kind (turn_at j s c t) (asked r d a e) (handed n ns x xs)) o (born-outcome j s kind (turn_at j s c t) (asked r d a e) n ns x xs)
      (forks-goes j good s ok c t u kind r d a e n ns x xs (room kind (thread_at s t) r n ns x xs f range.routine) range met)

  return-moves : (c t : ℕ) → Stepped j s c t → (v : ℕ) → effect_at j s (thread_at s t) ≡ Returns v → Moves j good s (accepted (return_of j s (turn_at j s c t) v))
  unfolding return_of
  return-moves c t k v met = go (is_root (thread_at s t)) refl
    where
      u : Used s t
      u = runner j s ok c t k

      root-units : s.units + (turn_at j s c t).weight ≡ s.units + weight_in j (thread_at s t).origin.routine (thread_at s t).position
      root-units = sym (units-here j good s ok c t u)

      go : (b : Bool) → is_root (thread_at s t) ≡ b → Moves j good s (accepted (return_of j s (turn_at j s c t) v))
      go true is = rw is (finishes k.ongoing (record {
        log = refl;
        thread = t;
        result = v;
        over = refl;
        last = here j good s ok c t u;
        is-root = root-cell j good s ok c t u v met is;
        returns = returns j good s ok c t u v met;
        memory = refl;
        units = root-units;
        paid = let p = k.paid in let q = ok.sized.units in omega arith;
      }))
      go false is = step_of t (return_of j s (turn_at j s c t) v) k.ongoing (return-outcome j s (turn_at j s c t) v is)
          (returns-goes j good s ok c t u v met is)

  steps-move : StepCases (Moves j good s) j s
  steps-move = record {
    refuses = λ n l m. refuses n l m refl;
    fault = λ c t k n met. fault-moves c t k.ongoing (runner j s ok c t k) n met;
    waiting = λ c t k. rest_of (leaves c t Waiting s) k.ongoing (leaves-outcome c t Waiting s)
        (leaves-pool j c t Waiting s (waiter-used j s ok c t k) (omega arith) (linked-parent j s ok t));
    sets = λ c t k d v met. step_of t _ k.ongoing refl (sets-goes j good s ok c t (runner j s ok c t k) d v met);
    loads = λ c t k d a met. step_of t _ k.ongoing refl (loads-goes j good s ok c t (runner j s ok c t k) d a met);
    stores = λ c t k a v met. step_of t _ k.ongoing refl (stores-goes j good s ok c t (runner j s ok c t k) a v met);
    goes = λ c t k p met. step_of t _ k.ongoing refl (goes-goes j good s ok c t (runner j s ok c t k) p met);
    continues = λ c t k met. step_of t _ k.ongoing refl (continues-goes j good s ok c t (runner j s ok c t k) met);
    lforks = λ c t k r d a e met n ns x xs f. lfork-moves Called c t k.ongoing (runner j s ok c t k) r d a e met n ns x xs f;
    forks = λ c t k r d a e met n ns x xs f. fork-moves Queued c t k.ongoing (runner j s ok c t k) r d a e met n ns x xs f;
    joins = λ c t k met. step_of t _ k.ongoing refl (joins-goes j good s ok c t (runner j s ok c t k) k.passes met);
    suspends = λ c t k met. step_of t _ k.ongoing (leaves-outcome c t Suspended (goes_on (turn_at j s c t) s))
        (leaves-step c t Suspended k (omega arith) (suspends-goes j good s ok c t (runner j s ok c t k) met));
    yields = λ c t k met. step_of t _ k.ongoing (leaves-outcome c t Ready (goes_on (turn_at j s c t) s))
        (leaves-step c t Ready k (omega arith) (yields-goes j good s ok c t (runner j s ok c t k) met));
    returns = return-moves;
    shares = λ c t k x met. step_of t _ k.ongoing refl (shares-goes j good s ok c t (runner j s ok c t k) x met);
  }

  cases : Cases (Moves j good s) j s
  cases = record {
    steps = steps-move;
    takes = λ c t ts k. rest_of (runs c t (set_ready ts s)) k.ongoing refl (runs-pool j c t (set_ready ts s) (ready-used j s ok t ts k.head));
    seed_fault = λ c t k n met. fault-moves c t k.ongoing (lent-used j s ok c t k) n met;
    steals = λ c t k r d a e met n ns x xs f. ⊎_elim (λ m. lfork-moves Stolen c t k.ongoing (lent-used j s ok c t k) r d a e m n ns x xs f)
        (λ m. fork-moves Stolen c t k.ongoing (lent-used j s ok c t k) r d a e m n ns x xs f) met;
    enables = λ t k. rest_of _ k.ongoing refl (enable-pool j t s (let z = k.suspended in omega arith));
  }

  -- the entry lemma
  pub entry-moves : (e : Entry) → Moves j good s (entry_of j s e)
  entry-moves e = entry-by (Moves j good s) j s cases e
