-- What any entry may give, once for every property P of what an entry gives, its state and log byte: where P holds of each of these
-- (`Cases`), it holds of any entry (`entry-by`). A take and a steal alone need less (`take_by`, `steal-by`). Assumes nothing.
use mathlib.Core.Bool.{Bool, true, false, cond, ◌&&◌, ◌||◌, not}
use mathlib.Core.List.{List, [], ◌∷◌}
use mathlib.Core.Logic.{◌⊎◌, inl, inr, ⊎_elim}
use mathlib.Core.Path.{◌≡◌, refl}
use Prim.Native.Nat.{ℕ, ◌<◌, ◌≤◌}
use native.Mathlib.Omega.{arith}
use lib.Dec.{ltb, leb, eqb}
use borrow.Author.Tests.{eqb-true, ltb-true, ltb-false, leb-false}
use Rattle.command.proofs.Bools.{both}
use Rattle.schedule.specs.declared.Entry.{Entry}
use Rattle.schedule.specs.declared.Entry.TheVariants.{Step, Take, Steal, Enable}
use Rattle.thread.specs.declared.Effect.{Effect}
use Rattle.thread.specs.declared.Fault.{Fault}
use Rattle.thread.specs.Effect.{number_of_fault}
use Rattle.thread.specs.declared.Effect.TheVariants.{Faults, Sets, Loads, Stores, Goes, Continues, Lforks, Forks, Joins, Suspends, Yields, Returns, Shares}
use Rattle.thread.specs.declared.Status.TheVariants.{Ready, Suspended, Lent}
use Rattle.thread.specs.Thread.{with_status, none, ◌is◌}
use Rattle.rules.specs.declared.ForkKind.TheVariants.{Stolen}
use Rattle.rules.specs.State.{Job, State, After, going, is_over, thread_at, on_core, is_busy}
use Rattle.rules.specs.Update.{set_thread, set_ready, enqueue_ready, accepted, refused}
use Rattle.rules.specs.Turn.{turn_at, byte_of, effect_at, too_dear, faults}
use Rattle.rules.specs.Leave.{runs}
use Rattle.rules.specs.Fork.{asked, born, handed}
use Rattle.rules.specs.Rules.{take_into, take_of, is_seed, stolen_of, steal_of, enable_of, entry_of}
use Rattle.rules.specs.Sound.{status_at}
pub use Rattle.soundness.specs.Numbers.{Seed, Seeded}
pub use Rattle.soundness.proofs.StepCases.{Stepped, Waits, Chosen, above, on_free, Forked, Refuses, StepCases, not-over, step_by}
use Rattle.soundness.proofs.StepCases.{fork_by}

-- idle core c takes t, the head of the ready queue
pub record Taken (s : State) (c t : ℕ) (ts : List ℕ) : Type 0 where
  pub ongoing : s.outcome ≡ going
  pub core : c < s.count
  pub idle : none ≤ on_core s c
  pub head : s.queues.ready ≡ t ∷ ts

-- suspended thread t is enabled
pub record Enabled (s : State) (t : ℕ) : Type 0 where
  pub ongoing : s.outcome ≡ going
  pub low : t < 32
  pub suspended : status_at s t ≡ 3

-- what thread t's seed can give core c, and P of each: a fault, or a child by an lfork or a fork
abbrev pub SeedFault : (After → Type 0) → Job → State → ℕ → ℕ → Type 0
SeedFault P j s c t = Seeded j s c t → (n : Fault) → effect_at j s (thread_at s t) ≡ Faults n → P (faults (turn_at j s c t) (number_of_fault n) s)

abbrev pub SeedChild : (After → Type 0) → Job → State → ℕ → ℕ → Type 0
SeedChild P j s c t = Seeded j s c t → (r d a e : ℕ)
    → (effect_at j s (thread_at s t) ≡ Lforks r d a e) ⊎ (effect_at j s (thread_at s t) ≡ Forks r d a e)
    → (n : ℕ) (ns : List ℕ) (x : ℕ) (xs : List ℕ) → Forked j s Stolen (thread_at s t) r n ns x xs
    → P (accepted (born j s Stolen (turn_at j s c t) (asked r d a e) (handed n ns x xs)))

-- what an entry can give, and P of each
pub record Cases (P : After → Type 0) (j : Job) (s : State) : Type 0 where
  pub steps : StepCases P j s
  pub takes : (c t : ℕ) (ts : List ℕ) → Taken s c t ts → P (accepted (runs c t (set_ready ts s)))
  pub seed_fault : (c t : ℕ) → SeedFault P j s c t
  pub steals : (c t : ℕ) → SeedChild P j s c t
  pub enables : (t : ℕ) → Enabled s t → P (accepted (enqueue_ready t (set_thread t (with_status Ready (thread_at s t)) s)))

pub or-true : (a b : Bool) → (a || b) ≡ true → (a ≡ true) ⊎ (b ≡ true)
or-true true b h = inl refl
or-true false b h = inr h

pub seed-true : (j : Job) (s : State) (t : ℕ) → is_seed j s t ≡ true → Seed j s t
unfolding is_seed
seed-true j s t h =
    let fork = eqb (byte_of j (thread_at s t)) 8 || eqb (byte_of j (thread_at s t)) 9 in
    let (a, b) = both (ltb t 32) ((thread_at s t).status is Lent && fork) h in
    let (d, e) = both ((thread_at s t).status is Lent) fork b in
    (ltb-true _ _ a, eqb-true _ _ d, ⊎_elim (λ z. inl (eqb-true _ _ z)) (λ z. inr (eqb-true _ _ z)) (or-true _ _ e))

-- a take
module _ (P : After → Type 0) (s : State) (refuses : Refuses P s) (c : ℕ)
    (takes : (t : ℕ) (ts : List ℕ) → Taken s c t ts → P (accepted (runs c t (set_ready ts s)))) where
  pub take_by : P (take_of s c)
  unfolding take_of take_into
  take_by = go (is_over s.outcome) refl (leb s.count c) refl (is_busy s c) refl
    where
      into : s.outcome ≡ going → c < s.count → none ≤ on_core s c → (ts : List ℕ) → s.queues.ready ≡ ts → P (take_into s c ts)
      into o l i [] e = refuses 16 (omega arith) (omega arith)
      into o l i (t ∷ ts) e = takes t ts (record { ongoing = o; core = l; idle = i; head = e })

      go : (x : Bool) → is_over s.outcome ≡ x → (y : Bool) → leb s.count c ≡ y → (z : Bool) → is_busy s c ≡ z
          → P (cond x (refused 19 s) (cond y (refused 14 s) (cond z (refused 15 s) (take_into s c s.queues.ready))))
      go true _ y _ z _ = refuses 19 (omega arith) (omega arith)
      go false e true _ z _ = refuses 14 (omega arith) (omega arith)
      go false e false f true _ = refuses 15 (omega arith) (omega arith)
      go false e false f false g = into (not-over _ e) (leb-false _ _ f) (ltb-false _ _ g) s.queues.ready refl

-- a steal
module _ (P : After → Type 0) (j : Job) (s : State) (refuses : Refuses P s) (c t : ℕ) (seed_fault : SeedFault P j s c t) (steals : SeedChild P j s c t) where
  stolen-by : Seeded j s c t → (e : Effect) → effect_at j s (thread_at s t) ≡ e → P (stolen_of j s (turn_at j s c t) e)
  unfolding stolen_of
  stolen-by k (Faults n) e = seed_fault k n e
  stolen-by k (Sets d v) e = refuses 18 (omega arith) (omega arith)
  stolen-by k (Loads d a) e = refuses 18 (omega arith) (omega arith)
  stolen-by k (Stores a v) e = refuses 18 (omega arith) (omega arith)
  stolen-by k (Goes p) e = refuses 18 (omega arith) (omega arith)
  stolen-by k Continues e = refuses 18 (omega arith) (omega arith)
  stolen-by k (Lforks r d a w) e = fork_by P j s refuses Stolen (turn_at j s c t) (asked r d a w) (λ n ns x xs. steals k r d a w (inl e) n ns x xs)
  stolen-by k (Forks r d a w) e = fork_by P j s refuses Stolen (turn_at j s c t) (asked r d a w) (λ n ns x xs. steals k r d a w (inr e) n ns x xs)
  stolen-by k Joins e = refuses 18 (omega arith) (omega arith)
  stolen-by k Suspends e = refuses 18 (omega arith) (omega arith)
  stolen-by k Yields e = refuses 18 (omega arith) (omega arith)
  stolen-by k (Returns v) e = refuses 18 (omega arith) (omega arith)
  stolen-by k (Shares x) e = refuses 18 (omega arith) (omega arith)

  pub steal-by : P (steal_of j s c t)
  unfolding steal_of
  steal-by = go (is_over s.outcome) refl (leb s.count c) refl (is_busy s c) refl (is_seed j s t) refl (too_dear j s (turn_at j s c t)) refl
    where
      go : (x : Bool) → is_over s.outcome ≡ x → (y : Bool) → leb s.count c ≡ y → (z : Bool) → is_busy s c ≡ z
          → (v : Bool) → is_seed j s t ≡ v → (b : Bool) → too_dear j s (turn_at j s c t) ≡ b
          → P (cond x (refused 19 s) (cond y (refused 14 s) (cond z (refused 15 s) (cond (not v) (refused 18 s) (cond b (refused 22 s)
          (stolen_of j s (turn_at j s c t) (effect_at j s (thread_at s t))))))))
      go true _ y _ z _ v _ b _ = refuses 19 (omega arith) (omega arith)
      go false e true _ z _ v _ b _ = refuses 14 (omega arith) (omega arith)
      go false e false f true _ v _ b _ = refuses 15 (omega arith) (omega arith)
      go false e false f false g false _ b _ = refuses 18 (omega arith) (omega arith)
      go false e false f false g true h true _ = refuses 22 (omega arith) (omega arith)
      go false e false f false g true h false k =
          let w = seed-true j s t h in
          stolen-by (record {
            ongoing = not-over _ e;
            core = leb-false _ _ f;
            idle = ltb-false _ _ g;
            low = w.0;
            lent = w.1;
            byte = w.2;
            paid = ltb-false _ _ k;
          }) _ refl

module _ (P : After → Type 0) (j : Job) (s : State) (cases : Cases P j s) where
  enable-by : (t : ℕ) → P (enable_of s t)
  unfolding enable_of
  enable-by t = go (is_over s.outcome) refl (ltb t 32 && (thread_at s t).status is Suspended) refl
    where
      go : (x : Bool) → is_over s.outcome ≡ x → (y : Bool) → (ltb t 32 && (thread_at s t).status is Suspended) ≡ y
          → P (cond x (refused 19 s) (cond (not y) (refused 17 s)
          (record { state = enqueue_ready t (set_thread t (with_status Ready (thread_at s t)) s); log = 0 })))
      go true _ y _ = cases.steps.refuses 19 (omega arith) (omega arith)
      go false e false _ = cases.steps.refuses 17 (omega arith) (omega arith)
      go false e true f = let w = both (ltb t 32) ((thread_at s t).status is Suspended) f in
          cases.enables t (record { ongoing = not-over _ e; low = ltb-true _ _ w.0; suspended = eqb-true _ _ w.1 })

  pub entry-by : (e : Entry) → P (entry_of j s e)
  unfolding entry_of
  entry-by (Step c) = step_by P j s cases.steps c
  entry-by (Take c) = take_by P s cases.steps.refuses c (cases.takes c)
  entry-by (Steal c t) = steal-by P j s cases.steps.refuses c t (cases.seed_fault c t) (cases.steals c t)
  entry-by (Enable t) = enable-by t
