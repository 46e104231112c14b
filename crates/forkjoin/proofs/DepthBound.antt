-- A pool with limit + 1 thread numbers needs no depth test: where a number is free, every thread is less deep than the limit, for
-- a thread and its ancestors all have numbers of their own (`shallow`). So a pool's step without the test is one with it.
use mathlib.Core.Path.{◌∙◌, ◌≡◌, ap, refl, subst, sym}
use mathlib.Core.List.{[], ◌∷◌}
use mathlib.Core.Logic.{ite}
use Prim.Native.Nat.{◌+◌, ◌<◌, ◌≤◌, suc, zero, ℕ}
use native.Mathlib.Decide.{dec_le, dec_lt, ℕ_discrete}
use native.Mathlib.Omega.{arith}
use lib.ListN.{length}
use Rattle.forkjoin.proofs.TaskName.{TaskName, ◌⊑◌, down, here}
use Rattle.forkjoin.proofs.Update.{update}
use Rattle.forkjoin.proofs.Language.{Act, Language, advance, fork, halt, join, load, ret, store}
use Rattle.forkjoin.proofs.TaskTree.{State, live, word_after}
use Rattle.forkjoin.proofs.Invariant.{Invariant, ancestor-live}
use Rattle.forkjoin.proofs.Carried.{Carried}
use Rattle.forkjoin.proofs.ThreadPool.{Link, OwnAct, Pool, PoolStep, child, free, step-fork, step-join, step-own, step-return, used}
use Rattle.forkjoin.proofs.Represents.{Represents}
use Rattle.forkjoin.proofs.Pigeonhole.{pigeonhole}

-- a task's ancestor i steps up
ancestor : ℕ → TaskName → TaskName
ancestor zero x = x
ancestor (suc i) [] = []
ancestor (suc i) (k ∷ x) = ancestor i x

ancestor-⊑ : (i : ℕ) (x : TaskName) → ancestor i x ⊑ x
unfolding ancestor
ancestor-⊑ zero x = here
ancestor-⊑ (suc i) [] = here
ancestor-⊑ (suc i) (k ∷ x) = down (ancestor-⊑ i x)

ancestor-length : (i : ℕ) (x : TaskName) → i ≤ length x → length (ancestor i x) + i ≡ length x
unfolding ancestor
ancestor-length zero x h = omega arith
ancestor-length (suc i) [] h = absurd (omega arith)
ancestor-length (suc i) (k ∷ x) h = let z = ancestor-length i x (omega arith) in omega arith

-- the depth matters to a fork alone, and only from the limit on, where a fork is a halt
pub record Bounded (𝓛 : Language) (𝓒 : Carried 𝓛) (limit : ℕ) : Type 0 where
  pub below : (n : ℕ) (r : Carried.Concrete 𝓒) → n < limit → Carried.does 𝓒 n r ≡ Carried.does 𝓒 0 r
  pub other : (n : ℕ) (r : Carried.Concrete 𝓒) → ((d : ℕ) (c q : Carried.Concrete 𝓒) → Carried.does 𝓒 0 r ≡ fork d c q → ⊥)
      → Carried.does 𝓒 n r ≡ Carried.does 𝓒 0 r
  pub beyond : (r c q : Carried.Concrete 𝓒) (d : ℕ) → Carried.does 𝓒 0 r ≡ fork d c q
      → (x : ℕ) × ((n : ℕ) → limit ≤ n → Carried.does 𝓒 n r ≡ halt x)

module _ (𝓛 : Language) (𝓒 : Carried 𝓛) (limit : ℕ) where
  open 𝓛 use {Local, cost}
  open 𝓒 use {Concrete, abstraction, does}

  -- threads have the numbers up to the limit, one more than the limit
  abbrev pub Limited : Pool Concrete → Type 0
  Limited M = (t : ℕ) → limit < t → M.cell t ≡ free

  -- where a number is free, no thread is as deep as the limit: it and its ancestors would take all numbers
  pub shallow : (name : ℕ → TaskName) (M : Pool Concrete) (s : State Local) → Represents 𝓛 𝓒 name M s → Invariant 𝓛 s → Limited M
      → (z t : ℕ) (r : Concrete) (k : Link)
      → M.cell z ≡ free → z ≤ limit → M.cell t ≡ used r k → length (name t) < limit
  shallow name M s R i lim z t r k cz hz ct = let h = pigeonhole (suc limit) (suc (suc (length (name t)))) f in-range inj in omega arith
    where
      ⊑-parent : (j : ℕ) → (l : Local) × (s.at (ancestor j (name t)) ≡ live l)
      ⊑-parent j = ancestor-live 𝓛 s i (ancestor-⊑ j (name t)) (abstraction r) (R.alive t r k ct)

      who : (j : ℕ) → (u : ℕ) × (r' : Concrete) × (k' : Link) × (M.cell u ≡ used r' k') × (name u ≡ ancestor j (name t))
      who j = R.numbered (ancestor j (name t)) (⊑-parent j).0 (⊑-parent j).1

      f : ℕ → ℕ
      f zero = z
      f (suc j) = (who j).0

      not_free : (j : ℕ) → M.cell (who j).0 ≡ free → ⊥
      not_free j h = let c = (who j).3 in let y : ◌≡◌ {A = ℕ} 0 1 = cc in omega arith

      in-by : (j : ℕ) → Dec ((who j).0 < suc limit) → (who j).0 < suc limit
      in-by j (yes h) = h
      in-by j (no h) = absurd (not_free j (lim (who j).0 (omega arith)))

      in-range : (j : ℕ) → j < suc (suc (length (name t))) → f j < suc limit
      in-range zero h = omega arith
      in-range (suc j) h = in-by j (dec_lt (who j).0 (suc limit))

      inj : (a b : ℕ) → a < suc (suc (length (name t))) → b < suc (suc (length (name t))) → f a ≡ f b → a ≡ b
      inj zero zero h h' e = refl
      inj zero (suc b) h h' e = absurd (not_free b (subst (λ x. M.cell x ≡ free) e cz))
      inj (suc a) zero h h' e = absurd (not_free a (subst (λ x. M.cell x ≡ free) (sym e) cz))
      inj (suc a) (suc b) h h' e =
          let x = ancestor-length a (name t) (omega arith) in
          let y = ancestor-length b (name t) (omega arith) in
          let w : ancestor a (name t) ≡ ancestor b (name t) = sym (who a).4 ∙ ap name e ∙ (who b).4 in
          let v : length (ancestor a (name t)) ≡ length (ancestor b (name t)) = ap length w in
          omega arith

  pub not-fork : (a : Act Concrete) (m : ℕ → ℕ) (p : Concrete) → OwnAct 𝓛 𝓒 a m p → (d : ℕ) (c q : Concrete) → a ≡ fork d c q → ⊥
  not-fork (halt x) m p o d c q e = o
  not-fork (advance _) m p o d c q e = let y : ◌≡◌ {A = ℕ} 0 1 = cc in omega arith
  not-fork (load _ _) m p o d c q e = let y : ◌≡◌ {A = ℕ} 0 1 = cc in omega arith
  not-fork (store _ _ _) m p o d c q e = let y : ◌≡◌ {A = ℕ} 0 1 = cc in omega arith
  not-fork (fork _ _ _) m p o d c q e = o
  not-fork (join _) m p o d c q e = o
  not-fork (ret _) m p o d c q e = o

module _ (𝓛 : Language) (𝓒 : Carried 𝓛) (limit : ℕ) (B : Bounded 𝓛 𝓒 limit) where
  open 𝓛 use {Local, cost}
  open 𝓒 use {Concrete, abstraction, does}

  -- a step that tests no depth is a step n deep, if a thread that forks is less deep than the limit
  pub deepen-by : (n t : ℕ) (M M' : Pool Concrete)
      → ((r c q : Concrete) (k : Link) (d z : ℕ) → M.cell t ≡ used r k → does 0 r ≡ fork d c q → M.cell z ≡ free
      → M'.cell z ≡ used c (child t d) → n < limit)
      → PoolStep 𝓛 𝓒 0 t M M' → PoolStep 𝓛 𝓒 n t M M'
  deepen-by n t M M' low (step-own r q k ct o) =
      let e = B.other n r (λ d c x. not-fork 𝓛 𝓒 limit (does 0 r) M.words q o d c x) in
      subst (λ a. PoolStep 𝓛 𝓒 n t M
      (record { cell = update M.cell t (used q k); words = λ x. word_after a x (M.words x); units = M.units + cost (abstraction r) })) e
      (step-own r q k ct (subst (λ a. OwnAct 𝓛 𝓒 a M.words q) (sym e) o))
  deepen-by n t M M' low (step-fork r c q k d z ct e cz) =
      step-fork r c q k d z ct (B.below n r (low r c q k d z ct e cz (by (ℕ_discrete z z))) ∙ e) cz
    where
      by : (o : Dec (z ≡ z)) → ite o (used c (child t d)) (update M.cell t (used q k) z) ≡ used c (child t d)
      by (yes _) = refl
      by (no n) = absurd (n refl)
  deepen-by n t M M' low (step-join r q k ct e alone) =
      step-join r q k ct (B.other n r (λ d c x h. let y : ◌≡◌ {A = ℕ} 0 1 = cc in omega arith) ∙ e) alone
  deepen-by n t M M' low (step-return r r₀ k₀ q d v ct e cq) =
      step-return r r₀ k₀ q d v ct (B.other n r (λ d c x h. let y : ◌≡◌ {A = ℕ} 0 1 = cc in omega arith) ∙ e) cq

  -- so it is where thread numbers are limited
  pub deepen : (name : ℕ → TaskName) (M M' : Pool Concrete) (s : State Local) → Represents 𝓛 𝓒 name M s → Invariant 𝓛 s → Limited 𝓛 𝓒 limit M
      → Limited 𝓛 𝓒 limit M' → (t : ℕ)
      → PoolStep 𝓛 𝓒 0 t M M' → PoolStep 𝓛 𝓒 (length (name t)) t M M'
  deepen name M M' s R i lim lim' t = deepen-by (length (name t)) t M M'
      (λ r c q k d z ct e cz made. shallow 𝓛 𝓒 limit name M s R i lim z t r k cz (numbered z c (child t d) made (dec_le z limit)) ct)
    where
      numbered : (z : ℕ) (c : Concrete) (k : Link) → M'.cell z ≡ used c k → Dec (z ≤ limit) → z ≤ limit
      numbered z c k made (yes h) = h
      numbered z c k made (no h) = let f = lim' z (omega arith) in let y : ◌≡◌ {A = ℕ} 0 1 = cc in absurd (omega arith)
