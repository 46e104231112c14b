-- The invariant of the task tree: every task's parent is a live thread that has its result slot pending, and rights never meet:
-- a thread's window is apart from all that its descendants have, and tasks in different branches have nothing in common.
-- From it: a step of a parent leaves a live child alone, and any two threads' windows are apart.
use mathlib.Core.Path.{◌≡◌, refl, subst, sym}
use mathlib.Core.List.{◌∷◌}
use mathlib.Core.Logic.{ite}
use mathlib.Core.Bool.{true}
use Prim.Native.Nat.{◌+◌, ◌≤◌, ℕ}
use native.Mathlib.Decide.{ℕ_discrete}
use native.Mathlib.Omega.{arith}
use Rattle.forkjoin.proofs.TaskName.{TaskName, ◌⊑◌, down, here, ⊑?}
use Rattle.forkjoin.proofs.Rights.{Apart, Within}
use Rattle.forkjoin.proofs.Language.{Act, Language, LawfulAct, advance, fork, halt, join, load, ret, store}
use Rattle.forkjoin.proofs.TaskTree.{Enabled, Node, NotLive, Present, State, child-after, children-of, live}

module _ (𝓛 : Language) where
  open 𝓛 use {Local, pending, window, whole, Valid}

  pub record Invariant (s : State Local) : Type 0 where
    -- a task's parent is live and has its slot pending
    pub tree : (k : ℕ) (p : TaskName) → Present (s.at (k ∷ p)) → (l : Local) × (s.at p ≡ live l) × (pending l k ≡ true)
    -- every live thread is valid, and its window is part of its whole
    pub valid : (p : TaskName) (l : Local) → s.at p ≡ live l → Valid l
    pub owns : (p : TaskName) (l : Local) → s.at p ≡ live l → Within (window l) (whole l)
    -- a thread's window is apart from all that its descendants have
    pub above : (p q : TaskName) (l m : Local) → s.at p ≡ live l → s.at q ≡ live m → p ⊑ q → ¬ (p ≡ q) → Apart (window l) (whole m)
    -- tasks of which neither is an ancestor of the other have nothing in common
    pub beside : (p q : TaskName) (l m : Local) → s.at p ≡ live l → s.at q ≡ live m → ¬ (p ⊑ q) → ¬ (q ⊑ p) → Apart (whole l) (whole m)

  module _ (s : State Local) (i : Invariant s) where
    pub present : (x : TaskName) (m : Local) → s.at x ≡ live m → Present (s.at x)
    present x m e = subst Present (sym e) tt

    pub live-contradiction : (x : TaskName) (m : Local) → s.at x ≡ live m → NotLive (s.at x) → ⊥
    live-contradiction x m e h = subst NotLive e h

    -- every ancestor of a thread is a thread
    pub ancestor-live : {p x : TaskName} → p ⊑ x → (m : Local) → s.at x ≡ live m → (l : Local) × (s.at p ≡ live l)
    ancestor-live here m e = (m, e)
    ancestor-live (down {q = q} {k = k} h) m e = let (l, e1, _) = i.tree k q (present (k ∷ q) m e) in ancestor-live h l e1

    -- an act leaves a live child alone
    pub leaves-live-child : (q : TaskName) (k : ℕ) (l m : Local) (a : Act Local) → LawfulAct 𝓛 l a → Enabled a (children-of s q)
        → s.at q ≡ live l → s.at (k ∷ q) ≡ live m → (n : Node Local) → child-after a k n ≡ n
    leaves-live-child q k l m (halt _) g r e e1 n = absurd r
    leaves-live-child q k l m (advance _) g r e e1 n = refl
    leaves-live-child q k l m (load _ _) g r e e1 n = refl
    leaves-live-child q k l m (store _ _ _) g r e e1 n = refl
    leaves-live-child q k l m (fork d c _) g r e e1 n = go (ℕ_discrete k d)
      where
        go : (x : Dec (k ≡ d)) → ite x (live c) n ≡ n
        go (yes h) = let (l2, e2, p) = i.tree k q (present (k ∷ q) m e1) in let z = g.fresh in let o : l ≡ l2 = cc in cc
        go (no h) = refl
    leaves-live-child q k l m (join f) g r e e1 n = absurd (live-contradiction (k ∷ q) m e1 (r k))
    leaves-live-child q k l m (ret _) g r e e1 n = refl

    -- the windows of two threads are apart
    pub windows-apart : (p q : TaskName) (l m : Local) → ¬ (p ≡ q) → s.at p ≡ live l → s.at q ≡ live m → Apart (window l) (window m)
    windows-apart p q l m n e e1 a = go (⊑? p q) (⊑? q p)
      where
        x : window l a ≤ whole l a
        x = i.owns p l e a

        y : window m a ≤ whole m a
        y = i.owns q m e1 a

        go : Dec (p ⊑ q) → Dec (q ⊑ p) → window l a + window m a ≤ 2
        go (yes h) _ = let z = i.above p q l m e e1 h n a in omega (arith, x, y)
        go (no _) (yes h) = let z = i.above q p m l e1 e h (λ c. n (sym c)) a in omega (arith, x, y)
        go (no h) (no k) = let z = i.beside p q l m e e1 h k a in omega (arith, x, y)
