-- Why a step, take, steal or enable has its log byte: one of the reasons holds in every sound state (`step-log`, `take-log`, `steal-log`,
-- `enable-log`). `Refusals` reads off them what each number means. Assumes nothing but that the state is sound.
use mathlib.Core.Bool.{Bool, true, false, cond, ◌&&◌, not}
use mathlib.Core.List.{List, [], ◌∷◌}
use mathlib.Core.Logic.{inl, inr, ⊎_elim}
use mathlib.Core.Path.{◌≡◌, refl}
use Prim.Native.Nat.{ℕ, ◌-◌, ◌/◌, ◌<◌, ◌≤◌}
use native.Mathlib.Omega.{arith}
use lib.Dec.{ltb, leb}
use borrow.Author.Tests.{eq-eqb, ne_eqb, ltb-true, ltb-false, lt-ltb, leb-true, leb-false}
use Rattle.thread.specs.declared.Effect.{Effect}
use Rattle.thread.specs.declared.Fault.{Fault}
use Rattle.thread.specs.Effect.{number_of_fault}
use Rattle.thread.specs.declared.Effect.TheVariants.{Faults, Sets, Loads, Stores, Goes, Continues, Lforks, Forks, Joins, Suspends, Yields, Returns, Shares}
use Rattle.thread.specs.declared.Status.TheVariants.{Ready, Suspended, Waiting}
use Rattle.thread.specs.declared.Thread.{Thread}
use Rattle.thread.specs.Thread.{none, with_status, ◌is◌}
use Rattle.rules.specs.declared.ForkKind.{ForkKind}
use Rattle.rules.specs.declared.ForkKind.TheVariants.{Called, Queued, Stolen}
use Rattle.rules.specs.State.{Job, State, going, is_over, thread_at, on_core, is_busy}
use Rattle.rules.specs.Update.{accepted, refused, set_thread, enqueue_ready}
use Rattle.rules.specs.Turn.{Turn, turn_at, byte_of, effect_at, too_dear, waits}
use Rattle.rules.specs.Leave.{leaves}
use Rattle.rules.specs.Fork.{Asked, asked, goes_above, place_of, fork_on, fork_with, fork_of, born, handed}
use Rattle.rules.specs.Rules.{carried_of, turn_of, step_of, take_into, take_of, is_seed, stolen_of, steal_of, enable_of}
use Rattle.rules.specs.Sound.{status_at, Sound}
use Rattle.soundness.proofs.Entries.{Stepped, Seed, Seeded, seed-true, not-over}
use Rattle.soundness.proofs.LentThreads.{not-both}
pub use Rattle.soundness.specs.Numbers.{Dear, StepForks, is_lfork, is_fork, DearSeed, SeedForks}
use Rattle.soundness.proofs.Tested.{SeedEffect, seed-effect}

-- why a fork is logged n
pub data ForkLog (j : Job) (s : State) (kind : ForkKind) (h : Thread) (r n : ℕ) : Type 0 where
  few_threads : n ≡ 20 → s.queues.free_threads ≡ [] → ForkLog j s kind h r n
  few_stacklets : n ≡ 21 → ¬ (s.queues.free_threads ≡ []) → goes_above j s kind h r ≡ false → s.queues.free_stacklets ≡ [] → ForkLog j s kind h r n
  has_both : n ≡ 0 → ForkLog j s kind h r n

pub fork-log : (j : Job) (s : State) (kind : ForkKind) (o : Turn) (f : Asked) → ForkLog j s kind o.thread f.routine (fork_of j s kind o f).log
unfolding fork_of fork_with fork_on place_of
fork-log j s kind o f = with_number s.queues.free_threads refl
  where
    on-place : (n : ℕ) (ns : List ℕ) → s.queues.free_threads ≡ n ∷ ns → (b : Bool) → goes_above j s kind o.thread f.routine ≡ b
        → (ys : List ℕ) → s.queues.free_stacklets ≡ ys → ForkLog j s kind o.thread f.routine
        (fork_on s (λ x xs. born j s kind o f (handed n ns x xs)) (place_of b (o.thread.origin.base / 64) ys)).log
    on-place n ns e true g ys q = has_both refl
    on-place n ns e false g [] q = few_stacklets refl (λ z. let y : ◌≡◌ {A = ℕ} 0 1 = cc in omega arith) g q
    on-place n ns e false g (y ∷ ys) q = has_both refl

    with_number : (ns : List ℕ) → s.queues.free_threads ≡ ns → ForkLog j s kind o.thread f.routine (fork_with j s kind o f ns).log
    with_number [] e = few_threads refl e
    with_number (n ∷ ns) e = on-place n ns e (goes_above j s kind o.thread f.routine) refl s.queues.free_stacklets refl

-- STEP. Why a step of core c is logged n
pub data StepLog (j : Job) (s : State) (c n : ℕ) : Type 0 where
  step_over : n ≡ 19 → is_over s.outcome ≡ true → StepLog j s c n
  step_no_core : n ≡ 14 → s.outcome ≡ going → s.count ≤ c → StepLog j s c n
  step_idle : n ≡ 15 → s.outcome ≡ going → c < s.count → none ≤ on_core s c → StepLog j s c n
  step_dear : n ≡ 22 → Dear j s c (on_core s c) → StepLog j s c n
  step_faults : Stepped j s c (on_core s c) → (f : Fault) → effect_at j s (thread_at s (on_core s c)) ≡ Faults f → n ≡ number_of_fault f → StepLog j s c n
  step_few_threads : n ≡ 20 → Stepped j s c (on_core s c) → (kind : ForkKind) (r : ℕ) → StepForks j s (on_core s c) kind r → s.queues.free_threads ≡ []
      → StepLog j s c n
  step_few_stacklets : n ≡ 21 → Stepped j s c (on_core s c) → (kind : ForkKind) (r : ℕ) → StepForks j s (on_core s c) kind r → ¬ (s.queues.free_threads ≡ [])
      → goes_above j s kind (thread_at s (on_core s c)) r ≡ false → s.queues.free_stacklets ≡ [] → StepLog j s c n
  step_accepted : n ≡ 0 → StepLog j s c n

carried-log : (j : Job) (s : State) (c : ℕ) → Stepped j s c (on_core s c) → (e : Effect) → effect_at j s (thread_at s (on_core s c)) ≡ e
    → StepLog j s c (carried_of j s (turn_at j s c (on_core s c)) e).log
unfolding carried_of
carried-log j s c k (Faults f) q = step_faults k f q refl
carried-log j s c k (Sets d v) q = step_accepted refl
carried-log j s c k (Loads d a) q = step_accepted refl
carried-log j s c k (Stores a v) q = step_accepted refl
carried-log j s c k (Goes p) q = step_accepted refl
carried-log j s c k Continues q = step_accepted refl
carried-log j s c k (Lforks r d a e) q = go (fork-log j s Called (turn_at j s c (on_core s c)) (asked r d a e))
  where
    go : {n : ℕ} → ForkLog j s Called (thread_at s (on_core s c)) r n → StepLog j s c n
    go (few_threads x y) = step_few_threads x k Called r (is_lfork refl d a e q) y
    go (few_stacklets x y z w) = step_few_stacklets x k Called r (is_lfork refl d a e q) y z w
    go (has_both x) = step_accepted x
carried-log j s c k (Forks r d a e) q = go (fork-log j s Queued (turn_at j s c (on_core s c)) (asked r d a e))
  where
    go : {n : ℕ} → ForkLog j s Queued (thread_at s (on_core s c)) r n → StepLog j s c n
    go (few_threads x y) = step_few_threads x k Queued r (is_fork refl d a e q) y
    go (few_stacklets x y z w) = step_few_stacklets x k Queued r (is_fork refl d a e q) y z w
    go (has_both x) = step_accepted x
carried-log j s c k Joins q = step_accepted refl
carried-log j s c k Suspends q = step_accepted refl
carried-log j s c k Yields q = step_accepted refl
carried-log j s c k (Returns v) q = step_accepted refl
carried-log j s c k (Shares x) q = step_accepted refl

pub step-log : (j : Job) (s : State) → Sound j s → (c : ℕ) → StepLog j s c (step_of j s c).log
unfolding step_of turn_of
step-log j s sound c = go (is_over s.outcome) refl (leb s.count c) refl (is_busy s c) refl (waits j (thread_at s (on_core s c))) refl
    (too_dear j s (turn_at j s c (on_core s c))) refl
  where
    go : (x : Bool) → is_over s.outcome ≡ x → (y : Bool) → leb s.count c ≡ y → (z : Bool) → is_busy s c ≡ z
        → (v : Bool) → waits j (thread_at s (on_core s c)) ≡ v → (b : Bool) → too_dear j s (turn_at j s c (on_core s c)) ≡ b
        → StepLog j s c (cond x (refused 19 s) (cond y (refused 14 s) (cond (not z) (refused 15 s)
        (cond v (accepted (leaves c (on_core s c) Waiting s)) (cond b (refused 22 s)
        (carried_of j s (turn_at j s c (on_core s c)) (effect_at j s (thread_at s (on_core s c))))))))).log
    go true e y _ z _ v _ b _ = step_over refl e
    go false e true f z _ v _ b _ = step_no_core refl (not-over _ e) (leb-true _ _ f)
    go false e false f false g v _ b _ = step_idle refl (not-over _ e) (leb-false _ _ f) (ltb-false _ _ g)
    go false e false f true g true h b _ = step_accepted refl
    go false e false f true g false h true k = step_dear refl (record {
      ongoing = not-over _ e;
      core = leb-false _ _ f;
      seat = refl;
      low = ltb-true _ _ g;
      passes = h;
      dear = (let a = ltb-true (j.allowance - s.units) (turn_at j s c (on_core s c)).weight k in let b = sound.sized.units in omega arith);
    })
    go false e false f true g false h false k =
        carried-log j s c (record {
          ongoing = not-over _ e;
          core = leb-false _ _ f;
          seat = refl;
          low = ltb-true _ _ g;
          passes = h;
          paid =
              ltb-false _ _ k;
        }) _ refl

-- TAKE. Why a take for core c is logged n
pub data TakeLog (s : State) (c n : ℕ) : Type 0 where
  take_over : n ≡ 19 → is_over s.outcome ≡ true → TakeLog s c n
  take_no_core : n ≡ 14 → s.outcome ≡ going → s.count ≤ c → TakeLog s c n
  take_busy : n ≡ 15 → s.outcome ≡ going → c < s.count → on_core s c < none → TakeLog s c n
  take_empty : n ≡ 16 → s.outcome ≡ going → c < s.count → none ≤ on_core s c → s.queues.ready ≡ [] → TakeLog s c n
  take_accepted : n ≡ 0 → TakeLog s c n

pub take-log : (s : State) (c : ℕ) → TakeLog s c (take_of s c).log
unfolding take_of take_into
take-log s c = go (is_over s.outcome) refl (leb s.count c) refl (is_busy s c) refl
  where
    into : s.outcome ≡ going → c < s.count → none ≤ on_core s c → (ts : List ℕ) → s.queues.ready ≡ ts → TakeLog s c (take_into s c ts).log
    into o l i [] e = take_empty refl o l i e
    into o l i (t ∷ ts) e = take_accepted refl

    go : (x : Bool) → is_over s.outcome ≡ x → (y : Bool) → leb s.count c ≡ y → (z : Bool) → is_busy s c ≡ z
        → TakeLog s c (cond x (refused 19 s) (cond y (refused 14 s) (cond z (refused 15 s) (take_into s c s.queues.ready)))).log
    go true e y _ z _ = take_over refl e
    go false e true f z _ = take_no_core refl (not-over _ e) (leb-true _ _ f)
    go false e false f true g = take_busy refl (not-over _ e) (leb-false _ _ f) (ltb-true _ _ g)
    go false e false f false g = into (not-over _ e) (leb-false _ _ f) (ltb-false _ _ g) s.queues.ready refl

-- STEAL. Why a steal of thread t for core c is logged n
pub data StealLog (j : Job) (s : State) (c t n : ℕ) : Type 0 where
  steal_over : n ≡ 19 → is_over s.outcome ≡ true → StealLog j s c t n
  steal_no_core : n ≡ 14 → s.outcome ≡ going → s.count ≤ c → StealLog j s c t n
  steal_busy : n ≡ 15 → s.outcome ≡ going → c < s.count → on_core s c < none → StealLog j s c t n
  steal_no_seed : n ≡ 18 → s.outcome ≡ going → c < s.count → none ≤ on_core s c → ¬ (Seed j s t) → StealLog j s c t n
  steal_dear : n ≡ 22 → DearSeed j s c t → StealLog j s c t n
  steal_faults : Seeded j s c t → (f : Fault) → effect_at j s (thread_at s t) ≡ Faults f → n ≡ number_of_fault f → StealLog j s c t n
  steal_few_threads : n ≡ 20 → Seeded j s c t → (r : ℕ) → SeedForks j s t r → s.queues.free_threads ≡ [] → StealLog j s c t n
  steal_few_stacklets : n ≡ 21 → Seeded j s c t → (r : ℕ) → SeedForks j s t r → ¬ (s.queues.free_threads ≡ []) → s.queues.free_stacklets ≡ [] → StealLog j s c t n
  steal_accepted : n ≡ 0 → StealLog j s c t n

stolen-log : (j : Job) (s : State) (c t : ℕ) → Seeded j s c t → (e : Effect) → effect_at j s (thread_at s t) ≡ e → SeedEffect e
    → StealLog j s c t (stolen_of j s (turn_at j s c t) e).log
unfolding stolen_of
stolen-log j s c t k (Faults f) q i = steal_faults k f q refl
stolen-log j s c t k (Sets d v) q i = absurd i
stolen-log j s c t k (Loads d a) q i = absurd i
stolen-log j s c t k (Stores a v) q i = absurd i
stolen-log j s c t k (Goes p) q i = absurd i
stolen-log j s c t k Continues q i = absurd i
stolen-log j s c t k (Lforks r d a e) q i = go (fork-log j s Stolen (turn_at j s c t) (asked r d a e))
  where
    go : {n : ℕ} → ForkLog j s Stolen (thread_at s t) r n → StealLog j s c t n
    go (few_threads x y) = steal_few_threads x k r (d, a, e, inl q) y
    go (few_stacklets x y z w) = steal_few_stacklets x k r (d, a, e, inl q) y w
    go (has_both x) = steal_accepted x
stolen-log j s c t k (Forks r d a e) q i = go (fork-log j s Stolen (turn_at j s c t) (asked r d a e))
  where
    go : {n : ℕ} → ForkLog j s Stolen (thread_at s t) r n → StealLog j s c t n
    go (few_threads x y) = steal_few_threads x k r (d, a, e, inr q) y
    go (few_stacklets x y z w) = steal_few_stacklets x k r (d, a, e, inr q) y w
    go (has_both x) = steal_accepted x
stolen-log j s c t k Joins q i = absurd i
stolen-log j s c t k Suspends q i = absurd i
stolen-log j s c t k Yields q i = absurd i
stolen-log j s c t k (Returns v) q i = absurd i
stolen-log j s c t k (Shares x) q i = absurd i

-- the test of a seed
pub true-seed : (j : Job) (s : State) (t : ℕ) → Seed j s t → is_seed j s t ≡ true
unfolding is_seed
true-seed j s t (l, e, b) =
    rw (lt-ltb t 32 l, eq-eqb (status_at s t) 5 e)
    (⊎_elim (λ z. rw (eq-eqb (byte_of j (thread_at s t)) 8 z))
    (λ z. rw (ne_eqb (byte_of j (thread_at s t)) 8 (λ y. omega arith), eq-eqb (byte_of j (thread_at s t)) 9 z)) b)

pub seed-false : (j : Job) (s : State) (t : ℕ) → is_seed j s t ≡ false → ¬ (Seed j s t)
seed-false j s t h k = not-both (is_seed j s t) (true-seed j s t k) h

pub steal-log : (j : Job) (s : State) → Sound j s → (c t : ℕ) → StealLog j s c t (steal_of j s c t).log
unfolding steal_of
steal-log j s sound c t = go (is_over s.outcome) refl (leb s.count c) refl (is_busy s c) refl (is_seed j s t) refl
    (too_dear j s (turn_at j s c t)) refl
  where
    go : (x : Bool) → is_over s.outcome ≡ x → (y : Bool) → leb s.count c ≡ y → (z : Bool) → is_busy s c ≡ z
        → (v : Bool) → is_seed j s t ≡ v → (b : Bool) → too_dear j s (turn_at j s c t) ≡ b
        → StealLog j s c t (cond x (refused 19 s) (cond y (refused 14 s) (cond z (refused 15 s) (cond (not v) (refused 18 s) (cond b (refused 22 s)
        (stolen_of j s (turn_at j s c t) (effect_at j s (thread_at s t)))))))).log
    go true e y _ z _ v _ b _ = steal_over refl e
    go false e true f z _ v _ b _ = steal_no_core refl (not-over _ e) (leb-true _ _ f)
    go false e false f true g v _ b _ = steal_busy refl (not-over _ e) (leb-false _ _ f) (ltb-true _ _ g)
    go false e false f false g false h b _ = steal_no_seed refl (not-over _ e) (leb-false _ _ f) (ltb-false _ _ g) (seed-false j s t h)
    go false e false f false g true h true k = steal_dear refl (record {
      ongoing = not-over _ e;
      core = leb-false _ _ f;
      idle = ltb-false _ _ g;
      seed = seed-true j s t h;
      dear = (let a = ltb-true (j.allowance - s.units) (turn_at j s c t).weight k in let b = sound.sized.units in omega arith);
    })
    go false e false f false g true h false k =
        let w = seed-true j s t h in
        stolen-log j s c t (record {
          ongoing = not-over _ e;
          core = leb-false _ _ f;
          idle = ltb-false _ _ g;
          low = w.0;
          lent = w.1;
          byte = w.2;
          paid = ltb-false _ _ k;
        }) _ refl (seed-effect j s t w.2)

-- ENABLE. Why an enable of thread t is logged n
pub data EnableLog (s : State) (t n : ℕ) : Type 0 where
  enable_over : n ≡ 19 → is_over s.outcome ≡ true → EnableLog s t n
  enable_awake : n ≡ 17 → s.outcome ≡ going → ¬ ((t < 32) × (status_at s t ≡ 3)) → EnableLog s t n
  enable_accepted : n ≡ 0 → EnableLog s t n

pub enable-log : (s : State) (t : ℕ) → EnableLog s t (enable_of s t).log
unfolding enable_of
enable-log s t = go (is_over s.outcome) refl (ltb t 32 && (thread_at s t).status is Suspended) refl
  where
    go : (x : Bool) → is_over s.outcome ≡ x → (y : Bool) → (ltb t 32 && (thread_at s t).status is Suspended) ≡ y
        → EnableLog s t (cond x (refused 19 s) (cond (not y) (refused 17 s)
        (accepted (enqueue_ready t (set_thread t (with_status Ready (thread_at s t)) s))))).log
    go true e y _ = enable_over refl e
    go false e false f = enable_awake refl (not-over _ e)
        (λ k. not-both (ltb t 32 && (thread_at s t).status is Suspended) (rw (lt-ltb t 32 k.0, eq-eqb (status_at s t) 3 k.1)) f)
    go false e true f = enable_accepted refl
