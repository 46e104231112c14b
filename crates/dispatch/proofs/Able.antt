-- What a sound state gives the machine's code: numbers within the tables, and few children. Assumes nothing.
use mathlib.Core.Bool.{Bool, true, false, cond}
use mathlib.Core.List.{List, [], ◌∷◌}
use mathlib.Core.Logic.{◌⊎◌, inl, inr, ⊎_elim}
use mathlib.Core.Path.{◌≡◌, ap}
use Prim.Native.Nat.{ℕ, zero, suc, ◌≤◌, ◌<◌}
use native.Mathlib.Omega.{arith}
use lib.Dec.{eqb}
use lib.ListN.{get_or-eq_default}
use Rattle.stacklets.specs.Tops.{top_at}
use Rattle.thread.specs.Thread.{status_number, blank_thread}
use Rattle.rules.specs.State.{Job, State, thread_at}
use Rattle.rules.specs.Lists.{Every}
use Rattle.rules.specs.Sound.{Sound, Used, Unused, status_at, is_child, children_among}
use Rattle.dispatch.specs.Orderly.{HeadBelow}

lt-or-le : (x c : ℕ) → (x < c) ⊎ (c ≤ x)
lt-or-le x zero = inr (omega arith)
lt-or-le zero (suc c) = inl (omega arith)
lt-or-le (suc x) (suc c) = ⊎_elim (λ h. inl (omega arith)) (λ h. inr (omega arith)) (lt-or-le x c)

-- what holds of every number of a queue holds of its first
first_below : (P : ℕ → Type 0) (n : ℕ) (xs : List ℕ) → ((x : ℕ) → P x → x < n) → Every P xs → HeadBelow n xs
first_below P n [] f e = tt
first_below P n (x ∷ xs) f e = f x e.0

module _ (j : Job) (s : State) (ok : Sound j s) where
  -- past the table there are only free records
  past : (t : ℕ) → 32 ≤ t → status_at s t ≡ 0
  past t h = ap (λ r. status_number r.status) (get_or-eq_default s.threads blank_thread (omega (arith, ok.sized.threads)))

  -- the number of a thread in use is in the table
  pub used-below : (t : ℕ) → Used s t → t < 32
  used-below t u = ⊎_elim (λ h. h) (λ h. absurd (omega (arith, past t h))) (lt-or-le t 32)

  -- the ready queue's head is a thread
  pub ready-first : HeadBelow 32 s.queues.ready
  ready-first = first_below (λ t. status_at s t ≡ 2) 32 s.queues.ready (λ t e. used-below t (omega (arith, e))) ok.turns.ready

  -- so is the first free number
  pub free-first : HeadBelow 32 s.queues.free_threads
  free-first = first_below (λ t. (t < 32) × (status_at s t ≡ 0)) 32 s.queues.free_threads (λ t e. e.0) ok.free_threads.free

  -- and the first free stacklet is one of 16
  pub stacklet-first : HeadBelow 16 s.queues.free_stacklets
  stacklet-first = first_below (λ x. (x < 16) × (top_at s.store.tops x ≡ 0) × Unused s x) 16 s.queues.free_stacklets (λ x e. e.0) ok.free_stacklets.free

  -- a connected thread's parent is in use
  pub linked-below : (t : ℕ) → (thread_at s t).connected ≡ true → (thread_at s t).origin.parent < 32
  linked-below t e = used-below (thread_at s t).origin.parent (omega (arith, (ok.links.linked t e).1))

  one-child : (p u : ℕ) → is_child s p u ≤ 1
  one-child p u = go (eqb (status_at s u) 0) (eqb (thread_at s u).origin.parent p)
    where
      go : (a b : Bool) → cond a 0 (cond b 1 0) ≤ 1
      go true b = omega arith
      go false true = omega arith
      go false false = omega arith

  few-children : (p n : ℕ) → children_among s p n ≤ n
  unfolding children_among
  few-children p zero = omega arith
  few-children p (suc n) = omega (arith, few-children p n, one-child p n)

  -- a thread in use has few children
  pub children-few : (t : ℕ) → Used s t → (thread_at s t).family.children < 255
  children-few t u = omega (arith, ok.tree.counted t u, few-children t 32)
