-- `Links`, "lent threads and connected children, these running or lent, match", after a change that ties no new child (`links-same`),
-- after one that disconnects or ends a connected child (`links-cut`), and after an lfork (`links-made`). Assumes nothing.
use mathlib.Core.Bool.{Bool, true, false}
use mathlib.Core.Logic.{◌⊎◌, inl, inr, ⊎_elim}
use mathlib.Core.Path.{◌≡◌, refl, sym, ◌∙◌, ap}
use Prim.Native.Nat.{ℕ}
use native.Mathlib.Omega.{arith}
use Rattle.thread.specs.declared.Thread.{Thread}
use Rattle.rules.specs.State.{State, thread_at}
use Rattle.rules.specs.Sound.{status_at, Links, parent_at}
use Rattle.soundness.proofs.Changes.{standing, connected_at}
use Rattle.soundness.proofs.CoreSeats.{Same, same_refl}

pub not-both : (b : Bool) → b ≡ true → b ≡ false → ⊥
not-both b e f = let z : ◌≡◌ {A = ℕ} 0 1 = cc in omega arith

-- a record in the place of another, as far as links go
pub record Bound (h h' : Thread) : Type 0 where
  pub tied : h'.connected ≡ h.connected
  pub parent : h.connected ≡ true → h'.origin.parent ≡ h.origin.parent
  pub lent : Same 5 h h'
  pub active : h.connected ≡ true → (standing h' ≡ 1) ⊎ (standing h' ≡ 5)

pub bound-refl : (s : State) → Links s → (u : ℕ) → Bound (thread_at s u) (thread_at s u)
bound-refl s ok u = record { tied = refl; parent = λ e. refl; lent = same_refl 5 (thread_at s u); active = λ e. (ok.linked u e).0 }

-- a thread that neither runs nor is lent is not connected
pub untied : (s : State) → Links s → (u : ℕ) → ¬ (status_at s u ≡ 1) → ¬ (status_at s u ≡ 5) → connected_at s u ≡ false
untied s ok u a b = go (connected_at s u) refl
  where
    go : (x : Bool) → connected_at s u ≡ x → connected_at s u ≡ false
    go true e = absurd (⊎_elim a b (ok.linked u e).0)
    go false e = e

pub links-same : (s s' : State) → Links s → ((u : ℕ) → Bound (thread_at s u) (thread_at s' u)) → Links s'
links-same s s' ok view = record {
  lent = λ p e. let z = ok.lent p ((view p).lent.from e) in (z.0, (view z.0).tied ∙ z.1, (view z.0).parent z.1 ∙ z.2);
  linked = λ u e. let f = sym (view u).tied ∙ e in ((view u).active f, rw ((view u).parent f) ((view (parent_at s u)).lent.to (ok.linked u f).1));
  only = λ u v e f g.
      let e' = sym (view u).tied ∙ e in
      let f' = sym (view v).tied ∙ f in
      ok.only u v e' f' (sym ((view u).parent e') ∙ g ∙ (view v).parent f');
}

-- thread u where connected t leaves or ends and its parent p runs again
pub data Cut (t p u : ℕ) (h h' : Thread) : Type 0 where
  off : u ≡ t → h'.connected ≡ false → ¬ (standing h' ≡ 5) → Cut t p u h h'
  again : u ≡ p → standing h' ≡ 1 → h'.connected ≡ h.connected → h'.origin.parent ≡ h.origin.parent → Cut t p u h h'
  stays : ¬ (u ≡ t) → ¬ (u ≡ p) → Bound h h' → Cut t p u h h'

module _ (s s' : State) (ok : Links s) (t p : ℕ) (running : status_at s t ≡ 1) (tied : connected_at s t ≡ true) (mother : parent_at s t ≡ p)
    (view : (u : ℕ) → Cut t p u (thread_at s u) (thread_at s' u)) where
  -- connected afterwards: connected before to the same parent, and not t
  was-tied : (u : ℕ) → connected_at s' u ≡ true
      → (connected_at s u ≡ true) × (parent_at s' u ≡ parent_at s u) × (¬ (u ≡ t)) × ((status_at s' u ≡ 1) ⊎ (status_at s' u ≡ 5))
  was-tied u e = go (view u)
    where
      p-lent : status_at s p ≡ 5
      p-lent = rw mother at (ok.linked t tied).1

      go : Cut t p u (thread_at s u) (thread_at s' u)
          → (connected_at s u ≡ true) × (parent_at s' u ≡ parent_at s u) × (¬ (u ≡ t)) × ((status_at s' u ≡ 1) ⊎ (status_at s' u ≡ 5))
      go (off _ f _) = absurd (not-both _ e f)
      go (again q a b c) = (
        sym b ∙ e,
        c,
        (λ r. let y = p-lent in let z = ap (status_at s) (sym q ∙ r) in omega arith),
        inl a,
      )
      go (stays m n b) = let f = sym b.tied ∙ e in (f, b.parent f, m, b.active f)

  pub links-cut : Links s'
  links-cut = record {
    lent = λ q e. lent q e (view q);
    linked = λ u e. let w = was-tied u e in (w.3, rw w.1 (linked u w.0 w.2 (view (parent_at s u))));
    only = λ u v e f g. let w = was-tied u e in let x = was-tied v f in ok.only u v w.0 x.0 (sym w.1 ∙ g ∙ x.1);
  }
    where
      linked : (u : ℕ) → connected_at s u ≡ true → ¬ (u ≡ t) → Cut t p (parent_at s u) (thread_at s (parent_at s u)) (thread_at s' (parent_at s u))
          → status_at s' (parent_at s u) ≡ 5
      linked u e m (off f _ _) = absurd (let z = (ok.linked u e).1 in let y = ap (status_at s) f in omega arith)
      linked u e m (again f _ _ _) = absurd (m (ok.only u t e tied (f ∙ sym mother)))
      linked u e m (stays _ _ b) = b.lent.to (ok.linked u e).1

      keeps : (q u : ℕ) → ¬ (q ≡ p) → connected_at s u ≡ true → parent_at s u ≡ q → Cut t p u (thread_at s u) (thread_at s' u)
          → (connected_at s' u ≡ true) × (parent_at s' u ≡ q)
      keeps q u n e f (off g _ _) = absurd (n (sym f ∙ ap (parent_at s) g ∙ mother))
      keeps q u n e f (again _ _ b c) = (b ∙ e, c ∙ f)
      keeps q u n e f (stays _ _ b) = (b.tied ∙ e, b.parent e ∙ f)

      lent : (q : ℕ) → status_at s' q ≡ 5 → Cut t p q (thread_at s q) (thread_at s' q) → (u : ℕ) × (connected_at s' u ≡ true) × (parent_at s' u ≡ q)
      lent q e (off _ _ n) = absurd (n e)
      lent q e (again _ f _ _) = absurd (omega arith)
      lent q e (stays _ n b) = let z = ok.lent q (b.lent.from e) in let k = keeps q z.0 n z.1 z.2 (view z.0) in (z.0, k.0, k.1)

-- thread u where n is born, connected to running t, which is lent now
pub data Made (t n u : ℕ) (h h' : Thread) : Type 0 where
  fresh : u ≡ n → h'.connected ≡ true → standing h' ≡ 1 → h'.origin.parent ≡ t → Made t n u h h'
  lends : u ≡ t → standing h' ≡ 5 → h'.connected ≡ h.connected → h'.origin.parent ≡ h.origin.parent → Made t n u h h'
  remains : ¬ (u ≡ n) → ¬ (u ≡ t) → Bound h h' → Made t n u h h'

module _ (s s' : State) (ok : Links s) (t n : ℕ) (running : status_at s t ≡ 1) (free : status_at s n ≡ 0)
    (view : (u : ℕ) → Made t n u (thread_at s u) (thread_at s' u)) where
  apart : ¬ (n ≡ t)
  apart e = let z = ap (status_at s) e in omega arith

  not-parent : (u : ℕ) → connected_at s u ≡ true → ¬ (parent_at s u ≡ t)
  not-parent u e f = let z = (ok.linked u e).1 in let y = ap (status_at s) f in omega arith

  -- a thread connected afterwards: the child, or connected before
  data Now (u : ℕ) : Type 0 where
    child : u ≡ n → parent_at s' u ≡ t → status_at s' u ≡ 1 → Now u
    before : ¬ (u ≡ n) → connected_at s u ≡ true → parent_at s' u ≡ parent_at s u → (status_at s' u ≡ 1) ⊎ (status_at s' u ≡ 5) → Now u

  now : (u : ℕ) → connected_at s' u ≡ true → Now u
  now u e = go (view u)
    where
      go : Made t n u (thread_at s u) (thread_at s' u) → Now u
      go (fresh a b c d) = child a d c
      go (lends a b c d) = before (λ q. apart (sym q ∙ a)) (sym c ∙ e) d (inr b)
      go (remains a b c) = let f = sym c.tied ∙ e in before a f (c.parent f) (c.active f)

  pub links-made : Links s'
  links-made = record {
    lent = λ q e. lent q e (view q) (view n);
    linked = λ u e. linked u (now u e);
    only = λ u v e f. only u v (now u e) (now v f);
  }
    where
      goes : (q : ℕ) → status_at s q ≡ 5 → Made t n q (thread_at s q) (thread_at s' q) → status_at s' q ≡ 5
      goes q e (fresh a _ _ _) = absurd (let z = ap (status_at s) a in omega arith)
      goes q e (lends _ b _ _) = b
      goes q e (remains _ _ b) = b.lent.to e

      t-lent : Made t n t (thread_at s t) (thread_at s' t) → status_at s' t ≡ 5
      t-lent (fresh a _ _ _) = absurd (apart (sym a))
      t-lent (lends _ b _ _) = b
      t-lent (remains _ a _) = absurd (a refl)

      linked : (u : ℕ) → Now u → ((status_at s' u ≡ 1) ⊎ (status_at s' u ≡ 5)) × (status_at s' (parent_at s' u) ≡ 5)
      linked u (child a b c) = (inl c, rw b (t-lent (view t)))
      linked u (before a b c d) = (d, rw c (goes (parent_at s u) (ok.linked u b).1 (view (parent_at s u))))

      only : (u v : ℕ) → Now u → Now v → parent_at s' u ≡ parent_at s' v → u ≡ v
      only u v (child a b _) (child a' b' _) e = a ∙ sym a'
      only u v (child a b _) (before a' b' c' _) e = absurd (not-parent v b' (sym c' ∙ sym e ∙ b))
      only u v (before a b c _) (child a' b' _) e = absurd (not-parent u b (sym c ∙ e ∙ b'))
      only u v (before a b c _) (before a' b' c' _) e = ok.only u v b b' (sym c ∙ e ∙ c')

      born : Made t n n (thread_at s n) (thread_at s' n) → (connected_at s' n ≡ true) × (parent_at s' n ≡ t)
      born (fresh _ a b c) = (a, c)
      born (lends a _ _ _) = absurd (apart a)
      born (remains a _ _) = absurd (a refl)

      keeps : (q u : ℕ) → connected_at s u ≡ true → parent_at s u ≡ q → Made t n u (thread_at s u) (thread_at s' u)
          → (connected_at s' u ≡ true) × (parent_at s' u ≡ q)
      keeps q u e f (fresh a _ _ _) =
          absurd (⊎_elim (λ z. let y = ap (status_at s) a in omega arith) (λ z. let y = ap (status_at s) a in omega arith) (ok.linked u e).0)
      keeps q u e f (lends _ _ b c) = (b ∙ e, c ∙ f)
      keeps q u e f (remains _ _ b) = (b.tied ∙ e, b.parent e ∙ f)

      lent : (q : ℕ) → status_at s' q ≡ 5 → Made t n q (thread_at s q) (thread_at s' q) → Made t n n (thread_at s n) (thread_at s' n)
          → (u : ℕ) × (connected_at s' u ≡ true) × (parent_at s' u ≡ q)
      lent q e (fresh _ _ f _) w = absurd (omega arith)
      lent q e (lends a _ _ _) w = let k = born w in (n, k.0, k.1 ∙ sym a)
      lent q e (remains _ _ b) w = let z = ok.lent q (b.lent.from e) in let k = keeps q z.0 z.1 z.2 (view z.0) in (z.0, k.0, k.1)
