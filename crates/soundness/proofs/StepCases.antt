-- What a step may give, once for every property P of what an entry gives, its state and log byte: where P holds of each of these
-- (`StepCases`), it holds of any step (`step_by`). Assumes nothing.
use mathlib.Core.Bool.{Bool, true, false, cond, not}
use mathlib.Core.List.{List, [], ◌∷◌}
use mathlib.Core.Path.{◌≡◌, refl, sym}
use Prim.Native.Nat.{ℕ, ◌/◌, ◌<◌, ◌≤◌}
use native.Mathlib.Omega.{arith}
use lib.Dec.{ltb, leb, eqb}
use borrow.Author.Tests.{eqb-true, ltb-true, ltb-false, leb-false}
use Rattle.command.proofs.Bools.{both}
use Rattle.thread.specs.declared.Effect.{Effect}
use Rattle.thread.specs.declared.Fault.{Fault}
use Rattle.thread.specs.Effect.{number_of_fault}
use Rattle.thread.specs.declared.Effect.TheVariants.{Faults, Sets, Loads, Stores, Goes, Continues, Lforks, Forks, Joins, Suspends, Yields, Returns, Shares}
use Rattle.thread.specs.declared.Status.TheVariants.{Ready, Suspended, Waiting}
use Rattle.thread.specs.declared.Thread.{Thread}
use Rattle.thread.specs.Thread.{moved_to, joined_at, shared_at}
use Rattle.thread.specs.Job.{word_at}
use Rattle.rules.specs.declared.ForkKind.{ForkKind}
use Rattle.rules.specs.declared.ForkKind.TheVariants.{Called, Queued}
use Rattle.rules.specs.State.{Job, State, After, Outcome, going, finished, faulted, is_over, thread_at, on_core, is_busy}
use Rattle.rules.specs.Update.{set_slot, set_memory, enqueue_ready, accepted, refused}
use Rattle.rules.specs.Turn.{Turn, turn_at, byte_of, effect_at, too_dear, waits, completed, goes_on, faults}
use Rattle.rules.specs.Leave.{leaves}
use Rattle.rules.specs.Fork.{Asked, asked, goes_above, place_of, born, fork_on, fork_with, fork_of, handed}
use Rattle.rules.specs.Return.{return_of}
use Rattle.rules.specs.Rules.{carried_of, turn_of, step_of}
pub use Rattle.soundness.specs.Numbers.{Stepped}

-- What is known where a change is met. Thread t on core c meets a join that waits
pub record Waits (j : Job) (s : State) (c t : ℕ) : Type 0 where
  pub ongoing : s.outcome ≡ going
  pub core : c < s.count
  pub seat : on_core s c ≡ t
  pub low : t < 32
  pub byte : byte_of j (thread_at s t) ≡ 10
  pub children : 0 < (thread_at s t).family.children

-- the stacklet x of a new frame, and the free stacklets xs that are left
pub data Chosen (j : Job) (s : State) (kind : ForkKind) (h : Thread) (r x : ℕ) (xs : List ℕ) : Type 0 where
  above : goes_above j s kind h r ≡ true → x ≡ h.origin.base / 64 → xs ≡ s.queues.free_stacklets → Chosen j s kind h r x xs
  on_free : goes_above j s kind h r ≡ false → s.queues.free_stacklets ≡ x ∷ xs → Chosen j s kind h r x xs

-- a fork has the thread number n and the stacklet x for its child
pub record Forked (j : Job) (s : State) (kind : ForkKind) (h : Thread) (r n : ℕ) (ns : List ℕ) (x : ℕ) (xs : List ℕ) : Type 0 where
  pub number : s.queues.free_threads ≡ n ∷ ns
  pub place : Chosen j s kind h r x xs

-- 14 to 22: nothing changes
abbrev pub Refuses : (After → Type 0) → State → Type 0
Refuses P s = (n : ℕ) → 14 ≤ n → n ≤ 22 → P (refused n s)

-- what a step can give, and P of each
pub record StepCases (P : After → Type 0) (j : Job) (s : State) : Type 0 where
  pub refuses : Refuses P s
  pub fault : (c t : ℕ) → Stepped j s c t → (n : Fault) → effect_at j s (thread_at s t) ≡ Faults n → P (faults (turn_at j s c t) (number_of_fault n) s)
  pub waiting : (c t : ℕ) → Waits j s c t → P (accepted (leaves c t Waiting s))
  pub sets : (c t : ℕ) → Stepped j s c t → (d v : ℕ) → effect_at j s (thread_at s t) ≡ Sets d v
      → P (accepted (goes_on (turn_at j s c t) (set_slot (thread_at s t) d v s)))
  pub loads : (c t : ℕ) → Stepped j s c t → (d a : ℕ) → effect_at j s (thread_at s t) ≡ Loads d a
      → P (accepted (goes_on (turn_at j s c t) (set_slot (thread_at s t) d (word_at j s.store.memory a) s)))
  pub stores : (c t : ℕ) → Stepped j s c t → (a v : ℕ) → effect_at j s (thread_at s t) ≡ Stores a v
      → P (accepted (goes_on (turn_at j s c t) (set_memory a v s)))
  pub goes : (c t : ℕ) → Stepped j s c t → (p : ℕ) → effect_at j s (thread_at s t) ≡ Goes p
      → P (accepted (completed (turn_at j s c t) (moved_to p (thread_at s t)) s))
  pub continues : (c t : ℕ) → Stepped j s c t → effect_at j s (thread_at s t) ≡ Continues
      → P (accepted (goes_on (turn_at j s c t) s))
  pub lforks : (c t : ℕ) → Stepped j s c t → (r d a e : ℕ) → effect_at j s (thread_at s t) ≡ Lforks r d a e
      → (n : ℕ) (ns : List ℕ) (x : ℕ) (xs : List ℕ) → Forked j s Called (thread_at s t) r n ns x xs
      → P (accepted (born j s Called (turn_at j s c t) (asked r d a e) (handed n ns x xs)))
  pub forks : (c t : ℕ) → Stepped j s c t → (r d a e : ℕ) → effect_at j s (thread_at s t) ≡ Forks r d a e
      → (n : ℕ) (ns : List ℕ) (x : ℕ) (xs : List ℕ) → Forked j s Queued (thread_at s t) r n ns x xs
      → P (accepted (born j s Queued (turn_at j s c t) (asked r d a e) (handed n ns x xs)))
  pub joins : (c t : ℕ) → Stepped j s c t → effect_at j s (thread_at s t) ≡ Joins
      → P (accepted (completed (turn_at j s c t) (joined_at (turn_at j s c t).next (thread_at s t)) s))
  pub suspends : (c t : ℕ) → Stepped j s c t → effect_at j s (thread_at s t) ≡ Suspends
      → P (accepted (leaves c t Suspended (goes_on (turn_at j s c t) s)))
  pub yields : (c t : ℕ) → Stepped j s c t → effect_at j s (thread_at s t) ≡ Yields
      → P (accepted (enqueue_ready t (leaves c t Ready (goes_on (turn_at j s c t) s))))
  pub returns : (c t : ℕ) → Stepped j s c t → (v : ℕ) → effect_at j s (thread_at s t) ≡ Returns v
      → P (accepted (return_of j s (turn_at j s c t) v))
  pub shares : (c t : ℕ) → Stepped j s c t → (x : ℕ) → effect_at j s (thread_at s t) ≡ Shares x
      → P (accepted (completed (turn_at j s c t) (shared_at (turn_at j s c t).next x (thread_at s t)) s))

-- a machine that is not over is going
pub not-over : (o : Outcome) → is_over o ≡ false → o ≡ going
not-over going e = refl
not-over (finished v) e = absurd (let z : ◌≡◌ {A = ℕ} 0 1 = cc in omega arith)
not-over (faulted n t o) e = absurd (let z : ◌≡◌ {A = ℕ} 0 1 = cc in omega arith)

module _ (P : After → Type 0) (j : Job) (s : State) (refuses : Refuses P s) where
  -- a fork of any kind: 20, 21 or a child
  pub fork_by : (kind : ForkKind) (o : Turn) (f : Asked)
      → ((n : ℕ) (ns : List ℕ) (x : ℕ) (xs : List ℕ) → Forked j s kind o.thread f.routine n ns x xs → P (accepted (born j s kind o f (handed n ns x xs))))
      → P (fork_of j s kind o f)
  unfolding fork_of fork_with fork_on place_of
  fork_by kind o f make = with_number s.queues.free_threads refl
    where
      on-place : (n : ℕ) (ns : List ℕ) → s.queues.free_threads ≡ n ∷ ns → (b : Bool) → goes_above j s kind o.thread f.routine ≡ b
          → (ys : List ℕ) → s.queues.free_stacklets ≡ ys → P (fork_on s (λ x xs. born j s kind o f (handed n ns x xs)) (place_of b (o.thread.origin.base / 64) ys))
      on-place n ns e true g ys q = make n ns (o.thread.origin.base / 64) ys (record { number = e; place = above g refl (sym q) })
      on-place n ns e false g [] q = refuses 21 (omega arith) (omega arith)
      on-place n ns e false g (y ∷ ys) q = make n ns y ys (record { number = e; place = on_free g q })

      with_number : (ns : List ℕ) → s.queues.free_threads ≡ ns → P (fork_with j s kind o f ns)
      with_number [] e = refuses 20 (omega arith) (omega arith)
      with_number (n ∷ ns) e = on-place n ns e (goes_above j s kind o.thread f.routine) refl s.queues.free_stacklets refl

module _ (P : After → Type 0) (j : Job) (s : State) (cases : StepCases P j s) where
  -- a step, by the effect of the command met
  carried-by : (c t : ℕ) → Stepped j s c t → (e : Effect) → effect_at j s (thread_at s t) ≡ e → P (carried_of j s (turn_at j s c t) e)
  unfolding carried_of
  carried-by c t k (Faults n) e = cases.fault c t k n e
  carried-by c t k (Sets d v) e = cases.sets c t k d v e
  carried-by c t k (Loads d a) e = cases.loads c t k d a e
  carried-by c t k (Stores a v) e = cases.stores c t k a v e
  carried-by c t k (Goes p) e = cases.goes c t k p e
  carried-by c t k Continues e = cases.continues c t k e
  carried-by c t k (Lforks r d a w) e = fork_by P j s cases.refuses Called (turn_at j s c t) (asked r d a w) (λ n ns x xs. cases.lforks c t k r d a w e n ns x xs)
  carried-by c t k (Forks r d a w) e = fork_by P j s cases.refuses Queued (turn_at j s c t) (asked r d a w) (λ n ns x xs. cases.forks c t k r d a w e n ns x xs)
  carried-by c t k Joins e = cases.joins c t k e
  carried-by c t k Suspends e = cases.suspends c t k e
  carried-by c t k Yields e = cases.yields c t k e
  carried-by c t k (Returns v) e = cases.returns c t k v e
  carried-by c t k (Shares x) e = cases.shares c t k x e

  pub step_by : (c : ℕ) → P (step_of j s c)
  unfolding step_of turn_of
  step_by c = go (is_over s.outcome) refl (leb s.count c) refl (is_busy s c) refl (waits j (thread_at s (on_core s c))) refl
      (too_dear j s (turn_at j s c (on_core s c))) refl
    where
      go : (x : Bool) → is_over s.outcome ≡ x → (y : Bool) → leb s.count c ≡ y → (z : Bool) → is_busy s c ≡ z
          → (v : Bool) → waits j (thread_at s (on_core s c)) ≡ v → (b : Bool) → too_dear j s (turn_at j s c (on_core s c)) ≡ b
          → P (cond x (refused 19 s) (cond y (refused 14 s) (cond (not z) (refused 15 s)
          (cond v (record { state = leaves c (on_core s c) Waiting s; log = 0 }) (cond b (refused 22 s)
          (carried_of j s (turn_at j s c (on_core s c)) (effect_at j s (thread_at s (on_core s c)))))))))
      go true _ y _ z _ v _ b _ = cases.refuses 19 (omega arith) (omega arith)
      go false e true _ z _ v _ b _ = cases.refuses 14 (omega arith) (omega arith)
      go false e false f false _ v _ b _ = cases.refuses 15 (omega arith) (omega arith)
      go false e false f true g true h b _ = let w = both (eqb (byte_of j (thread_at s (on_core s c))) 10) (ltb 0 (thread_at s (on_core s c)).family.children) h in
          cases.waiting c (on_core s c) (record {
            ongoing = not-over _ e;
            core = leb-false _ _ f;
            seat = refl;
            low = ltb-true _ _ g;
            byte = eqb-true _ _ w.0;
            children = ltb-true _ _ w.1;
          })
      go false e false f true g false h true _ = cases.refuses 22 (omega arith) (omega arith)
      go false e false f true g false h false k =
          carried-by c (on_core s c) (record {
            ongoing = not-over _ e;
            core = leb-false _ _ f;
            seat = refl;
            low = ltb-true _ _ g;
            passes = h;
            paid = ltb-false _ _ k;
          }) _ refl
