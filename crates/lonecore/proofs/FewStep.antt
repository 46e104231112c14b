-- A step keeps a state `Few` while the machine goes on (`few-step`): it leaves the cores and the ready queue as they are, or its core gets
-- another thread, or its core is idle and at most one thread becomes ready. Assumes a sound state and an image without 09, 0B and 0C.
use mathlib.Core.Bool.{Bool, true, false, cond}
use mathlib.Core.List.{List}
use mathlib.Core.Path.{◌≡◌, refl, sym, ◌∙◌, ap}
use Prim.Native.Nat.{ℕ, ◌<◌}
use native.Mathlib.Omega.{arith}
use lib.ListN.{length, set}
use lib.Seq.{get_or-set_same}
use Rattle.thread.specs.declared.Effect.TheVariants.{Forks, Suspends, Yields}
use Rattle.thread.specs.declared.Status.TheVariants.{Waiting}
use Rattle.thread.specs.declared.Thread.{Thread}
use Rattle.thread.specs.Thread.{blank_thread, disconnected, without_child, is_root, none}
use Rattle.rules.specs.declared.ForkKind.TheVariants.{Called}
use Rattle.rules.specs.State.{Job, State, finished, thread_at, on_core}
use Rattle.rules.specs.Turn.{turn_at}
use Rattle.rules.specs.Update.{set_thread, set_core, set_ready, set_slot, set_outcome, accepted}
use Rattle.rules.specs.Leave.{runs, leaves}
use Rattle.rules.specs.Fork.{asked, born, handed}
use Rattle.rules.specs.Return.{freed, status_after, ready_after, return_to_parent, return_of}
use Rattle.rules.specs.Rules.{step_of}
use Rattle.rules.specs.Sound.{Sound, status_at}
use Rattle.soundness.proofs.Changes.{standing}
use Rattle.soundness.proofs.StepCases.{Stepped, Waits, StepCases, step_by}
use Rattle.lonecore.specs.LforksOnly.{LforksOnly}
use Rattle.lonecore.proofs.EffectsMet.{step-calls, no-fork, no-suspend, no-yield}
use Rattle.lonecore.proofs.FewRunning.{Few, StaysFew, busy-one, idle-zero, one-most}
use Rattle.lonecore.proofs.FewChanges.{Awake, awake-set, awake-after, ready-most, ready-same, few-same, few-changed}

module _ (j : Job) (s : State) (ok : Sound j s) (only : LforksOnly j.image) (few : Few s) where
  -- core c has thread x now
  seated : (s' : State) (c x : ℕ) → c < s.count → s'.cores ≡ set s.cores c x → on_core s' c ≡ x
  seated s' c x l cores = rw cores (get_or-set_same s.cores c x 0 (let y = ok.sized.cores in let z = ok.sized.most in omega arith))

  -- a command after which the thread's record is h
  own : (t : ℕ) (h : Thread) (s' : State) → standing h ≡ status_at s t → s'.threads ≡ set s.threads t h → s'.cores ≡ s.cores
      → s'.count ≡ s.count → s'.queues.ready ≡ s.queues.ready → Few s'
  own t h s' e threads cores count ready =
      few-same s s' few (rw threads (awake-set s.threads t h few.awake (λ f. few.awake t (sym e ∙ f)))) cores count ready

  -- a busy core is given another thread or none, and the ready queue stays
  moved : (s' : State) (c t x : ℕ) → Awake s'.threads → c < s.count → on_core s c ≡ t → t < 32 → s'.cores ≡ set s.cores c x
      → s'.count ≡ s.count → s'.queues.ready ≡ s.queues.ready → Few s'
  moved s' c t x awake l seat low cores count ready = few-changed s s' few awake c x l cores count (
      let a = busy-one s c (rw seat low) in
      let b = one-most s' c in
      let e = ap length ready in
      omega arith)

  -- a join that waits: its thread leaves the core, where a connected one's parent runs on
  waited : (c t : ℕ) → Waits j s c t → Few (leaves c t Waiting s)
  unfolding leaves
  waited c t k = go (thread_at s t).connected
    where
      left : State
      left = set_thread t (disconnected Waiting (thread_at s t)) s

      awake : Awake (set s.threads t (disconnected Waiting (thread_at s t)))
      awake = awake-set s.threads t (disconnected Waiting (thread_at s t)) few.awake (λ e. omega arith)

      go : (b : Bool) → Few (cond b (runs c (thread_at s t).origin.parent left) (set_core c none left))
      go true = moved _ c t (thread_at s t).origin.parent (awake-set left.threads (thread_at s t).origin.parent _ awake (λ e. omega arith))
          k.core k.seat k.low refl refl refl
      go false = moved _ c t none awake k.core k.seat k.low refl refl refl

  -- an lfork: its child runs where its parent did
  lforked : (c t r d a e n : ℕ) (ns : List ℕ) (x : ℕ) (xs : List ℕ) → Stepped j s c t
      → Few (born j s Called (turn_at j s c t) (asked r d a e) (handed n ns x xs))
  unfolding born
  lforked c t r d a e n ns x xs k = moved _ c t n
      (awake-set (set s.threads t _) n _ (awake-set s.threads t _ few.awake (λ q. omega arith)) (λ q. omega arith))
      k.core k.seat k.low refl refl refl

  -- a return: a connected child's parent runs in its place; another leaves the core idle and makes its parent ready at most
  returned-to : (c t v : ℕ) → Stepped j s c t
      → Few (return_to_parent j s (turn_at j s c t) (thread_at s t).origin.parent (thread_at s (thread_at s t).origin.parent) v)
  unfolding return_to_parent
  returned-to c t v k = go (thread_at s t).connected
    where
      p : ℕ
      p = (thread_at s t).origin.parent

      to : Bool → State
      to b = set_core c (cond b p none)
          (set_ready (ready_after b (thread_at s p) p s.queues.ready)
          (set_thread p (without_child (status_after b (thread_at s p)) (thread_at s p))
          (set_slot (thread_at s p) (thread_at s t).origin.result v (freed j (turn_at j s c t) s))))

      awake : (b : Bool) → Awake (to b).threads
      awake b = awake-set (set s.threads t blank_thread) p _ (awake-set s.threads t blank_thread few.awake (λ e. omega arith))
          (awake-after b (thread_at s p) (few.awake p))

      go : (b : Bool) → Few (to b)
      go true = moved _ c t p (awake true) k.core k.seat k.low refl refl (ready-same (thread_at s p) p s.queues.ready)
      go false = few-changed s (to false) few (awake false) c none k.core refl refl (
          let a = busy-one s c (rw k.seat k.low) in
          let b = idle-zero (to false) c (let q = seated (to false) c none k.core refl in omega arith) in
          let e = ready-most false (thread_at s p) p s.queues.ready in
          omega arith)

  returned : (c t v : ℕ) → Stepped j s c t → StaysFew (accepted (return_of j s (turn_at j s c t) v))
  unfolding return_of
  returned c t v k = go (is_root (thread_at s t))
    where
      go : (b : Bool) → StaysFew (accepted (cond b (set_outcome (finished v) (set_core c none (freed j (turn_at j s c t) s)))
          (return_to_parent j s (turn_at j s c t) (thread_at s t).origin.parent (thread_at s (thread_at s t).origin.parent) v)))
      go true e = absurd (let z : ◌≡◌ {A = ℕ} 0 1 = cc in omega arith)
      go false e = returned-to c t v k

  steps : StepCases StaysFew j s
  steps = record {
    refuses = λ n l m e. few;
    fault = λ c t k n q e. absurd (let z : ◌≡◌ {A = ℕ} 0 1 = cc in omega arith);
    waiting = λ c t k e. waited c t k;
    sets = λ c t k d v q e. own t _ _ refl refl refl refl refl;
    loads = λ c t k d a q e. own t _ _ refl refl refl refl refl;
    stores = λ c t k a v q e. own t _ _ refl refl refl refl refl;
    goes = λ c t k p q e. own t _ _ refl refl refl refl refl;
    continues = λ c t k q e. own t _ _ refl refl refl refl refl;
    lforks = λ c t k r d a w q n ns x xs f e. lforked c t r d a w n ns x xs k;
    forks = λ c t k r d a w q n ns x xs f e. absurd (no-fork r d a w (step-calls j s ok only c t k (Forks r d a w) q));
    joins = λ c t k q e. own t _ _ refl refl refl refl refl;
    suspends = λ c t k q e. absurd (no-suspend (step-calls j s ok only c t k Suspends q));
    yields = λ c t k q e. absurd (no-yield (step-calls j s ok only c t k Yields q));
    returns = λ c t k v q. returned c t v k;
    shares = λ c t k x q e. own t _ _ refl refl refl refl refl;
  }

  pub few-step : (c : ℕ) → StaysFew (step_of j s c)
  few-step c = step_by StaysFew j s steps c
