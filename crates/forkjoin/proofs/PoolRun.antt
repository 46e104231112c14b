-- Runs of a pool, and what they cost: units are the start's and the costs of the commands carried out (`run-units`). Every run of a
-- pool is a run of the tree (`run-simulates`).
use mathlib.Core.Path.{◌≡◌, refl}
use mathlib.Core.List.{List, [], ◌∷◌}
use Prim.Native.Nat.{◌+◌, suc, ℕ}
use native.Mathlib.Omega.{arith}
use Rattle.forkjoin.proofs.Confluence.{Steps, stop, then}
use Rattle.forkjoin.proofs.TaskName.{TaskName}
use Rattle.forkjoin.proofs.Language.{Language}
use Rattle.forkjoin.proofs.TaskTree.{State, Step}
use Rattle.forkjoin.proofs.Invariant.{Invariant}
use Rattle.forkjoin.proofs.Preservation.{kept}
use Rattle.forkjoin.proofs.Units.{total}
use Rattle.forkjoin.proofs.Carried.{Carried}
use Rattle.forkjoin.proofs.ThreadPool.{Pool, PoolStep, step-fork, step-join, step-own, step-return}
use Rattle.forkjoin.proofs.Represents.{Represents}
use Rattle.forkjoin.proofs.Simulation.{simulates}
use Rattle.forkjoin.proofs.DepthBound.{Bounded, Limited, deepen}

module _ (𝓛 : Language) (𝓒 : Carried 𝓛) (limit : ℕ) where
  open 𝓛 use {cost}
  open 𝓒 use {Concrete, abstraction}

  -- a run of the pool: steps by any threads, in any order, that test no depth
  pub data Run : Pool Concrete → Pool Concrete → Type 0 where
    rest : {M : Pool Concrete} → Run M M
    next : {M M' N : Pool Concrete} (t : ℕ) → PoolStep 𝓛 𝓒 0 t M M' → Limited 𝓛 𝓒 limit M' → Run M' N → Run M N

  -- a run and one step more
  pub run-snoc : {M N N' : Pool Concrete} (t : ℕ) → Run M N → PoolStep 𝓛 𝓒 0 t N N' → Limited 𝓛 𝓒 limit N' → Run M N'
  run-snoc t rest g lim = next t g lim rest
  run-snoc t (next u f l r) g lim = next u f l (run-snoc t r g lim)

  pub run-limited : {M N : Pool Concrete} → Limited 𝓛 𝓒 limit M → Run M N → Limited 𝓛 𝓒 limit N
  run-limited lim rest = lim
  run-limited lim (next t g l r) = run-limited l r

  -- what a step costs
  abbrev pub step-cost : {n t : ℕ} {M M' : Pool Concrete} → PoolStep 𝓛 𝓒 n t M M' → ℕ
  step-cost (step-own r _ _ _ _) = cost (abstraction r)
  step-cost (step-fork r _ _ _ _ _ _ _ _) = cost (abstraction r)
  step-cost (step-join r _ _ _ _ _) = cost (abstraction r)
  step-cost (step-return r _ _ _ _ _ _ _ _) = cost (abstraction r)

  pub step-cost-units : {n t : ℕ} {M M' : Pool Concrete} (g : PoolStep 𝓛 𝓒 n t M M') → M'.units ≡ M.units + step-cost g
  step-cost-units (step-own _ _ _ _ _) = refl
  step-cost-units (step-fork _ _ _ _ _ _ _ _ _) = refl
  step-cost-units (step-join _ _ _ _ _ _) = refl
  step-cost-units (step-return _ _ _ _ _ _ _ _ _) = refl

  -- the costs of a run's commands, first to last
  abbrev pub run-costs : {M N : Pool Concrete} → Run M N → List ℕ
  run-costs rest = []
  run-costs (next t g _ r) = step-cost g ∷ run-costs r

  pub run-units : {M N : Pool Concrete} (r : Run M N) → N.units ≡ M.units + total (run-costs r)
  run-units rest = omega arith
  run-units (next t g _ r) =
      let a = run-units r in
      let b = step-cost-units g in
      omega arith

module _ (𝓛 : Language) (𝓒 : Carried 𝓛) (limit : ℕ) (B : Bounded 𝓛 𝓒 limit) where
  open 𝓛 use {Local}
  open 𝓒 use {Concrete}

  pub run-simulates : {M N : Pool Concrete} (name : ℕ → TaskName) (s : State Local) → Represents 𝓛 𝓒 name M s → Invariant 𝓛 s → Limited 𝓛 𝓒 limit M
      → Run 𝓛 𝓒 limit M N
      → (name' : ℕ → TaskName) × (s' : State Local) × (n : ℕ)
      × Steps (Step 𝓛) n s s' × Represents 𝓛 𝓒 name' N s' × Invariant 𝓛 s' × Limited 𝓛 𝓒 limit N
  run-simulates name s R i lim rest = (name, s, 0, stop, R, i, lim)
  run-simulates name s R i lim (next {M = M} {M' = M'} t g lim' r) =
      let (name₁, s₁, m₁, R₁) = simulates 𝓛 𝓒 name M M' s R i t (deepen 𝓛 𝓒 limit B name M M' s R i lim lim' t g) in
      let (name₂, s₂, n, k, R₂, i₂, l₂) = run-simulates name₁ s₁ R₁ (kept 𝓛 (name t) s s₁ i m₁) lim' r in
      (name₂, s₂, suc n, then m₁ k, R₂, i₂, l₂)
