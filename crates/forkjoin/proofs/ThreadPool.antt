-- The thread pool: threads by number, numbers given back and used again, results delivered into the parent's slot. There are no
-- cores and queues: any thread in use may step, in any order. A machine shows that its accepted entries are such steps.
use mathlib.Core.Path.{◌≡◌}
use mathlib.Core.Logic.{ite}
use Prim.Native.Nat.{◌+◌, ℕ}
use native.Mathlib.Decide.{ℕ_discrete}
use Rattle.forkjoin.proofs.Update.{update}
use Rattle.forkjoin.proofs.Language.{Act, Language, advance, fork, halt, join, load, ret, store}
use Rattle.forkjoin.proofs.TaskTree.{word_after}
use Rattle.forkjoin.proofs.Carried.{Carried}

-- whose child a thread is: the parent's number and the result slot
pub data Link : Type 0 where
  root : Link
  child : ℕ → ℕ → Link

-- a thread number is free, or in use by a thread
pub data Cell (R : Type 0) : Type 0 where
  free : Cell R
  used : R → Link → Cell R

pub record Pool (R : Type 0) : Type 0 where
  pub cell : ℕ → Cell R
  pub words : ℕ → ℕ
  pub units : ℕ

-- a used cell after one cell was changed: it is that one, or was there
pub data Updated {R : Type 0} (f : ℕ → Cell R) (t : ℕ) (c : Cell R) (u : ℕ) (r : R) (k : Link) : Type 0 where
  new : u ≡ t → c ≡ used r k → Updated f t c u r k
  kept-cell : ¬ (u ≡ t) → f u ≡ used r k → Updated f t c u r k

pub look_up : {R : Type 0} (f : ℕ → Cell R) (t : ℕ) (c : Cell R) (u : ℕ) (r : R) (k : Link) → update f t c u ≡ used r k → Updated f t c u r k
look_up f t c u r k h = go (ℕ_discrete u t) h
  where
    go : (o : Dec (u ≡ t)) → ite o c (f u) ≡ used r k → Updated f t c u r k
    go (yes e) h = new e h
    go (no n) h = kept-cell n h

module _ (𝓛 : Language) (𝓒 : Carried 𝓛) where
  open 𝓛 use {cost}
  open 𝓒 use {Concrete, abstraction, deliver, does}

  -- a command that touches no other thread: what becomes of its own
  abbrev pub OwnAct : Act Concrete → (ℕ → ℕ) → Concrete → Type 0
  OwnAct (halt x) m q = ⊥
  OwnAct (advance p) m q = p ≡ q
  OwnAct (load a f) m q = f (m a) ≡ q
  OwnAct (store a v p) m q = p ≡ q
  OwnAct (fork d c p) m q = ⊥
  OwnAct (join f) m q = ⊥
  OwnAct (ret v) m q = ⊥

  -- thread t, n deep, steps: on its own, by a fork to the free number b, by a join (no thread in use is its child), by a return
  pub data PoolStep (n t : ℕ) (M : Pool Concrete) : Pool Concrete → Type 0 where
    step-own : (r q : Concrete) (k : Link) → M.cell t ≡ used r k → OwnAct (does n r) M.words q
        → PoolStep n t M (record {
          cell = update M.cell t (used q k);
          words = λ x. word_after (does n r) x (M.words x);
          units = M.units + cost
              (abstraction r);
        })
    step-fork : (r c q : Concrete) (k : Link) (d b : ℕ) → M.cell t ≡ used r k → does n r ≡ fork d c q → M.cell b ≡ free
        → PoolStep n t M (record {
          cell = update (update M.cell t (used q k)) b (used c (child t d));
          words = M.words;
          units = M.units + cost
              (abstraction r);
        })
    step-join : (r q : Concrete) (k : Link) → M.cell t ≡ used r k → does n r ≡ join (λ _. q)
        → ((b : ℕ) (r' : Concrete) (d : ℕ) → M.cell b ≡ used r' (child t d) → ⊥)
        → PoolStep n t M (record { cell = update M.cell t (used q k); words = M.words; units = M.units + cost (abstraction r) })
    step-return : (r r' : Concrete) (k' : Link) (q d v : ℕ) → M.cell t ≡ used r (child q d) → does n r ≡ ret v → M.cell q ≡ used r' k'
        → PoolStep n t M (record {
          cell = update (update M.cell t free) q (used (deliver r' d v) k');
          words = M.words;
          units = M.units + cost
              (abstraction r);
        })
