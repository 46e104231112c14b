-- What holds in every pool that a run reaches, read off the tree that it represents: threads are valid, their windows are apart, a child's
-- result slot is pending in its parent and is its own, there is one root, and when nothing of the root is pending no other thread is left.
use mathlib.Core.Path.{◌∙◌, ◌≡◌, refl, subst, sym}
use mathlib.Core.List.{[], ◌∷◌}
use mathlib.Core.Bool.{false, true}
use Prim.Native.Nat.{ℕ}
use native.Mathlib.Omega.{arith}
use Rattle.forkjoin.proofs.TaskName.{TaskName, ◌⊑◌, down, here, not-own-child, ⊑-through-child}
use Rattle.forkjoin.proofs.Rights.{Apart}
use Rattle.forkjoin.proofs.Language.{Language}
use Rattle.forkjoin.proofs.TaskTree.{Present, State, live}
use Rattle.forkjoin.proofs.Invariant.{Invariant, ancestor-live, present, windows-apart}
use Rattle.forkjoin.proofs.Carried.{Carried}
use Rattle.forkjoin.proofs.ThreadPool.{Cell, Link, Pool, child, free, root, used}
use Rattle.forkjoin.proofs.Represents.{Represents}

module _ (𝓛 : Language) (𝓒 : Carried 𝓛) where
  open 𝓛 use {Local, pending, window, whole, Valid}
  open 𝓒 use {Concrete, abstraction}

  pub record PoolFacts (M : Pool Concrete) : Type 0 where
    pub valid : (t : ℕ) (q : Concrete) (k : Link) → M.cell t ≡ used q k → Valid (abstraction q)
    pub apart : (t u : ℕ) (q r : Concrete) (k l : Link) → M.cell t ≡ used q k → M.cell u ≡ used r l → ¬ (t ≡ u)
        → Apart (window (abstraction q)) (window (abstraction r))
    -- a parent's window is apart from all that its child has
    pub cut_off : (t p d : ℕ) (q r : Concrete) (l : Link) → M.cell t ≡ used q (child p d) → M.cell p ≡ used r l
        → Apart (window (abstraction r)) (whole (abstraction q))
    pub slot-pending : (t p d : ℕ) (q : Concrete) → M.cell t ≡ used q (child p d)
        → (r : Concrete) × (l : Link) × (M.cell p ≡ used r l) × (pending (abstraction r) d ≡ true)
    pub slot-own : (t u p d : ℕ) (q r : Concrete) → M.cell t ≡ used q (child p d) → M.cell u ≡ used r (child p d) → t ≡ u
    pub one-root : (t u : ℕ) (q r : Concrete) → M.cell t ≡ used q root → M.cell u ≡ used r root → t ≡ u
    pub root-last : (t u : ℕ) (q : Concrete) → M.cell t ≡ used q root → ((k : ℕ) → pending (abstraction q) k ≡ false) → ¬ (u ≡ t)
        → M.cell u ≡ free

  module _ (name : ℕ → TaskName) (M : Pool Concrete) (s : State Local) (R : Represents 𝓛 𝓒 name M s) (i : Invariant 𝓛 s) where
    -- a child's parent is in use, and their names are related
    parent : (t p d : ℕ) (q : Concrete) → M.cell t ≡ used q (child p d)
        → (r : Concrete) × (l : Link) × (M.cell p ≡ used r l) × (name t ≡ d ∷ name p)
    parent t p d q h = R.child-name t q p d h

    child-pending : (t p d : ℕ) (q : Concrete) → M.cell t ≡ used q (child p d)
        → (r : Concrete) × (l : Link) × (M.cell p ≡ used r l) × (pending (abstraction r) d ≡ true)
    child-pending t p d q h =
        let (r, l, c, e) = parent t p d q h in
        let (m, e₂, pd) = i.tree d (name p) (subst (λ x. Present (s.at x)) e (present 𝓛 s i (name t) (abstraction q) (R.alive t q (child p d) h))) in
        let a = R.alive p r l c in
        let same : m ≡ abstraction r = cc in
        (r, l, c, subst (λ x. pending x d ≡ true) same pd)

    -- a root of which nothing is pending has no descendants
    no-descendant : (t : ℕ) (q : Concrete) → M.cell t ≡ used q root → ((k : ℕ) → pending (abstraction q) k ≡ false)
        → (x : TaskName) (m : Local) → s.at x ≡ live m → ¬ ([] ≡ x) → ⊥
    no-descendant t q h none x m e n =
        let (k, below) = ⊑-through-child (root-⊑ x) n in
        let (l, e₁) = ancestor-live 𝓛 s i below m e in
        let (o, e₂, pd) = i.tree k [] (present 𝓛 s i (k ∷ []) l e₁) in
        let a = R.alive t q root h in
        let b = R.root-name t q h in
        let f = none k in
        let same : o ≡ abstraction q = cc in
        let y : ◌≡◌ {A = ℕ} 0 1 = cc in
        omega arith
      where
        root-⊑ : (x : TaskName) → [] ⊑ x
        root-⊑ [] = here
        root-⊑ (k ∷ x) = down (root-⊑ x)

    last : (t u : ℕ) (q : Concrete) → M.cell t ≡ used q root → ((k : ℕ) → pending (abstraction q) k ≡ false) → ¬ (u ≡ t) → M.cell u ≡ free
    last t u q h none n = go (M.cell u) refl
      where
        in_use : (r : Concrete) (l : Link) → M.cell u ≡ used r l → ⊥
        in_use r l c = no-descendant t q h none (name u) (abstraction r) (R.alive u r l c)
            (λ e. n (R.distinct u t r q l root c h (sym e ∙ sym (R.root-name t q h))))

        go : (c : Cell Concrete) → M.cell u ≡ c → M.cell u ≡ free
        go free e = e
        go (used r l) e = absurd (in_use r l e)

    pub pool-facts : PoolFacts M
    pool-facts = record {
      valid = λ t q k h. i.valid (name t) (abstraction q) (R.alive t q k h);
      apart = λ t u q r k l h c n. windows-apart 𝓛 s i (name t) (name u) (abstraction q) (abstraction r) (λ e. n (R.distinct t u q r k l h c e))
          (R.alive t q k h) (R.alive u r l c);
      cut_off = λ t p d q r l h c. i.above (name p) (name t) (abstraction r) (abstraction q) (R.alive p r l c) (R.alive t q (child p d) h)
          (subst (λ x. name p ⊑ x) (sym (parent t p d q h).3) (down here)) (λ e. not-own-child (e ∙ (parent t p d q h).3));
      slot-pending = child-pending;
      slot-own = λ t u p d q r h c. R.distinct t u q r (child p d) (child p d) h c ((parent t p d q h).3 ∙ sym (parent u p d r c).3);
      one-root = λ t u q r h c. R.distinct t u q r root root h c (R.root-name t q h ∙ sym (R.root-name u r c));
      root-last = last;
    }
