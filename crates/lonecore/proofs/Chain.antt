-- The threads of a lone core: core 0 is busy, each thread in use runs or is lent, and each but the root is connected; so they are one chain, from
-- the thread on core 0 up to the root (`Alone`). Every step keeps that while the machine goes on, no join waits, and an accepted step charges
-- something (`onward`). Assumes one core and an image without 09, 0B and 0C.
use mathlib.Core.Bool.{Bool, true, false, cond}
use mathlib.Core.List.{List}
use mathlib.Core.Logic.{◌⊎◌, inl, inr}
use mathlib.Core.Path.{◌≡◌, refl, ◌∙◌, ap}
use Prim.Native.Nat.{ℕ, zero, suc, ◌+◌, ◌<◌}
use native.Mathlib.Omega.{arith}
use borrow.Author.Tests.{lt-ltb}
use lib.ListN.{get_or, set, length, replicate}
use lib.Seq.{get_or-set_same}
use Rattle.schedule.specs.declared.Entry.TheVariants.{Step}
use Rattle.thread.specs.declared.Effect.TheVariants.{Forks, Suspends, Yields}
use Rattle.thread.specs.declared.Thread.{Thread}
use Rattle.thread.specs.Thread.{status_number, none, is_root, blank_thread}
use Rattle.rules.specs.declared.ForkKind.TheVariants.{Called}
use Rattle.rules.specs.State.{Job, State, After, going, finished, thread_at, on_core}
use Rattle.rules.specs.Turn.{turn_at}
use Rattle.rules.specs.Update.{accepted, set_core, set_outcome}
use Rattle.rules.specs.Fork.{born, asked, handed}
use Rattle.rules.specs.Return.{return_of, return_to_parent, status_after, freed}
use Rattle.rules.specs.Rules.{step_of}
use Rattle.rules.specs.Start.{start_state}
use Rattle.rules.specs.Sound.{Sound, Used, status_at, parent_at}
use Rattle.search.specs.Search.{choice_of}
use Rattle.soundness.proofs.Changes.{standing, one-changed, two-changed, used_low, used-below}
use Rattle.soundness.proofs.StepCases.{Stepped, Waits, Forked, StepCases, step_by}
use Rattle.soundness.proofs.ForkTree.{among-some, child-some}
use Rattle.soundness.proofs.Parts.{runs}
use Rattle.soundness.proofs.Tested.{fault-tested, no-fault}
use Rattle.soundness.proofs.ThreadsMet.{runner, parent-used, child-not-root, child-not-first}
use Rattle.lonecore.specs.LforksOnly.{LforksOnly}
use Rattle.lonecore.proofs.EffectsMet.{step-calls, no-fork, no-suspend, no-yield}
use Rattle.lonecore.proofs.BalanceChanges.{charged as command-charged, head-free}

-- a record of thread u: in use, it runs or is lent, and it is connected, or the root's
abbrev Chained : ℕ → Thread → Type 0
Chained u h = 0 < standing h → ((standing h ≡ 1) ⊎ (standing h ≡ 5)) × (¬ (u ≡ 0) → h.connected ≡ true)

pub record Alone (s : State) : Type 0 where
  pub busy : on_core s 0 < none
  pub chained : (u : ℕ) → Used s u → ((status_at s u ≡ 1) ⊎ (status_at s u ≡ 5)) × (¬ (u ≡ 0) → (thread_at s u).connected ≡ true)

-- while the machine goes on it is so, and an accepted step has charged something
abbrev pub Onward : State → After → Type 0
Onward s a = (a.state.outcome ≡ going → Alone a.state) × (a.log ≡ 0 → s.units < a.state.units)

module _ (j : Job) (s : State) (ok : Sound j s) (only : LforksOnly j.image) (one : s.count ≡ 1) (alone : Alone s) where
  is-first : (c : ℕ) → c < s.count → c ≡ 0
  is-first c l = omega arith

  -- a child of a thread in use is connected, so its parent is lent
  childless : (t u : ℕ) → t < 32 → status_at s t ≡ 1 → Used s u → parent_at s u ≡ t → ⊥
  childless t u l e h p =
      let tied = (alone.chained u h).1 (child-not-root j s ok t u l h p) in
      let lent = (ok.links.linked u tied).1 in
      let same : status_at s (parent_at s u) ≡ status_at s t = ap (status_at s) p in
      omega arith

  -- so no join waits
  no-wait : (c t : ℕ) → Waits j s c t → ⊥
  no-wait c t w =
      let running = runs j s ok c t w.core w.seat w.low in
      let counted = ok.tree.counted t (omega arith) in
      let (u, _, some) = among-some s t 32 (let z = w.children in omega arith) in
      let (h, p) = child-some s t u some in
      childless t u w.low running h p

  many : length s.threads ≡ 32
  many = ok.sized.threads

  low : (t : ℕ) → Used s t → t < 32
  low t h = used_low s many t h

  charged : (c t : ℕ) → Stepped j s c t → (s' : State) → s'.units ≡ s.units + (turn_at j s c t).weight → s.units < s'.units
  charged c t k = command-charged j s ok c t (runner j s ok c t k)

  -- one record changes, and not in its place
  own : (t : ℕ) (h' : Thread) (s' : State) → Used s t → standing h' ≡ standing (thread_at s t) → h'.connected ≡ (thread_at s t).connected
      → s'.threads ≡ set s.threads t h' → s'.cores ≡ s.cores → Alone s'
  own t h' s' h e f threads cores = record {
    busy = rw cores alone.busy;
    chained = one-changed s s' (λ u g g'. Chained u g') t h' (used-below s t h) threads (λ u n. alone.chained u)
        (λ k. let z = alone.chained t (omega arith) in (rw e z.0, λ n. f ∙ z.1 n));
  }

  own-step : (c t : ℕ) (h' : Thread) (s' : State) → Stepped j s c t → standing h' ≡ standing (thread_at s t) → h'.connected ≡ (thread_at s t).connected
      → s'.threads ≡ set s.threads t h' → s'.cores ≡ s.cores → s'.units ≡ s.units + (turn_at j s c t).weight → Onward s (accepted s')
  own-step c t h' s' k e f threads cores units =
      let h = runner j s ok c t k in
      (λ _. own t h' s' h e f threads cores, λ _. charged c t k s' units)

  -- an lfork: its child is connected, and runs on core 0
  lforked : (c t r d a e n : ℕ) (ns : List ℕ) (x : ℕ) (xs : List ℕ) → Stepped j s c t → Forked j s Called (thread_at s t) r n ns x xs
      → Onward s (accepted (born j s Called (turn_at j s c t) (asked r d a e) (handed n ns x xs)))
  unfolding born
  lforked c t r d a e n ns x xs k f = (
    λ _. record {
      busy = rw (is-first c k.core, get_or-set_same s.cores 0 n 0 (let z = ok.sized.cores in omega arith)) head.0;
      chained = two-changed s s' (λ u g g'. Chained u g') t _ n _ (used-below s t h) (let z = many in omega (arith, head.0)) other refl
          (λ u _ _. alone.chained u) (λ _. (inr refl, λ m. (alone.chained t h).1 m)) (λ _. (inl refl, λ _. refl));
    },
    λ _. charged c t k s' refl,
  )
    where
      s' : State
      s' = born j s Called (turn_at j s c t) (asked r d a e) (handed n ns x xs)

      h : Used s t
      h = runner j s ok c t k

      head : (n < 32) × (status_at s n ≡ 0)
      head = head-free j s ok n ns f.number

      other : ¬ (t ≡ n)
      other z = let y : status_at s t ≡ 0 = ap (status_at s) z ∙ head.1 in let w = h in omega arith

  -- a return to the parent, which runs on core 0
  to-parent : (c t v : ℕ) → Stepped j s c t → is_root (thread_at s t) ≡ false
      → Alone (return_to_parent j s (turn_at j s c t) (parent_at s t) (thread_at s (parent_at s t)) v)
  unfolding return_to_parent status_after
  to-parent c t v k r = record {
    busy = rw (tied, is-first c k.core, get_or-set_same s.cores 0 p 0 (let z = ok.sized.cores in omega arith)) (low p used);
    chained = two-changed s s' (λ u g g'. Chained u g') t _ p _ (used-below s t h) (used-below s p used) other refl
        (λ u _ _. alone.chained u) (λ k. absurd (omega arith)) (λ _. (inl running-after, λ m. (alone.chained p used).1 m));
  }
    where
      h : Used s t
      h = runner j s ok c t k

      p : ℕ
      p = parent_at s t

      s' : State
      s' = return_to_parent j s (turn_at j s c t) (parent_at s t) (thread_at s (parent_at s t)) v

      used : Used s p
      used = parent-used j s ok t h r

      tied : (thread_at s t).connected ≡ true
      tied = (alone.chained t h).1 (child-not-first j s ok t h r)

      other : ¬ (t ≡ p)
      other z =
          let l = (ok.links.linked t tied).1 in
          let running = runs j s ok c t k.core k.seat k.low in
          let same : status_at s t ≡ status_at s p = ap (status_at s) z in
          omega arith

      running-after : status_number (status_after (thread_at s t).connected (thread_at s p)) ≡ 1
      running-after = rw tied

  -- a return: the parent runs on core 0, or the machine has finished
  returned : (c t v : ℕ) → Stepped j s c t → Onward s (accepted (return_of j s (turn_at j s c t) v))
  unfolding return_of return_to_parent
  returned c t v k = go (is_root (thread_at s t)) refl
    where
      go : (b : Bool) → is_root (thread_at s t) ≡ b
          → Onward s (accepted (cond b (set_outcome (finished v) (set_core c none (freed j (turn_at j s c t) s)))
          (return_to_parent j s (turn_at j s c t) (parent_at s t) (thread_at s (parent_at s t)) v)))
      go true r = (
        λ q. let z : ◌≡◌ {A = ℕ} 0 1 = cc in absurd (omega arith),
        λ _. charged c t k (set_outcome (finished v) (set_core c none (freed j (turn_at j s c t) s))) refl,
      )
      go false r = (
        λ _. to-parent c t v k r,
        λ _. charged c t k (return_to_parent j s (turn_at j s c t) (parent_at s t) (thread_at s (parent_at s t)) v) refl,
      )

  steps : StepCases (Onward s) j s
  steps = record {
    refuses = λ n l m. (λ _. alone, λ z. absurd (omega arith));
    fault = λ c t k n q. (λ z. let y : ◌≡◌ {A = ℕ} 0 1 = cc in absurd (omega arith), λ z. absurd (no-fault _ (fault-tested j s t n q) (inl (omega arith))));
    waiting = λ c t w. absurd (no-wait c t w);
    sets = λ c t k d v q. own-step c t _ _ k refl refl refl refl refl;
    loads = λ c t k d a q. own-step c t _ _ k refl refl refl refl refl;
    stores = λ c t k a v q. own-step c t _ _ k refl refl refl refl refl;
    goes = λ c t k p q. own-step c t _ _ k refl refl refl refl refl;
    continues = λ c t k q. own-step c t _ _ k refl refl refl refl refl;
    lforks = λ c t k r d a e q n ns x xs f. lforked c t r d a e n ns x xs k f;
    forks = λ c t k r d a e q n ns x xs f. absurd (no-fork r d a e (step-calls j s ok only c t k (Forks r d a e) q));
    joins = λ c t k q. own-step c t _ _ k refl refl refl refl refl;
    suspends = λ c t k q. absurd (no-suspend (step-calls j s ok only c t k Suspends q));
    yields = λ c t k q. absurd (no-yield (step-calls j s ok only c t k Yields q));
    returns = λ c t k v q. returned c t v k;
    shares = λ c t k x q. own-step c t _ _ k refl refl refl refl refl;
  }

  pub onward : (c : ℕ) → Onward s (step_of j s c)
  onward c = step_by (Onward s) j s steps c

-- a busy core 0 steps
pub core-steps : (j : Job) (s : State) → Alone s → choice_of j s 0 ≡ Step 0
unfolding choice_of
core-steps j s alone = rw (lt-ltb (on_core s 0) none alone.busy)

-- Start: the root alone
pub start-alone : (j : Job) (count : ℕ) (arguments memory : List ℕ) → Alone (start_state j count arguments memory)
unfolding start_state
start-alone j count arguments memory = record { busy = omega arith; chained = go }
  where
    rest : (n u : ℕ) → status_number (get_or (replicate n blank_thread) u blank_thread).status ≡ 0
    rest zero u = refl
    rest (suc n) zero = refl
    rest (suc n) (suc u) = rest n u

    go : (u : ℕ) → Used (start_state j count arguments memory) u
        → ((status_at (start_state j count arguments memory) u ≡ 1) ⊎ (status_at (start_state j count arguments memory) u ≡ 5))
        × (¬ (u ≡ 0) → (thread_at (start_state j count arguments memory) u).connected ≡ true)
    go zero h = (inl refl, λ n. absurd (n refl))
    go (suc u) h = let z = rest 31 u in absurd (omega arith)
