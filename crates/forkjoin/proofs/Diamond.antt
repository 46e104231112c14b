-- The diamond: two threads that can step from one state can step one after the other, in either order, to one common state.
-- With it: a thread has one step only, a halt lasts whatever other threads do, and nothing is live once the root has returned.
-- These are the laws of `Confluence`, but for the kept invariant.
use mathlib.Core.Path.{◌∙◌, ◌≡◌, ap, refl, subst, sym}
use mathlib.Core.List.{[], ◌∷◌}
use Prim.Native.Nat.{ℕ}
use native.Mathlib.Omega.{arith}
use lib.ListN.{length}
use Rattle.forkjoin.proofs.TaskName.{TaskName, ◌⊑◌, down, here, same-name?}
use Rattle.forkjoin.proofs.Language.{Language, halt}
use Rattle.forkjoin.proofs.TaskTree.{Enabled, Finished, Halts, State, Step, after, children-of, live}
use Rattle.forkjoin.proofs.Invariant.{Invariant, ancestor-live}
use Rattle.forkjoin.proofs.Independence.{leaves-thread, same-enabled, swap}

module _ (𝓛 : Language) where
  open 𝓛 use {Local, act, cost, lawful}

  stepped : TaskName → Local → State Local → State Local
  stepped p l s = after p (cost l) (act (length p) l) s

  -- thread p, whose state is l, can still do its command after thread q's
  still-steps : (p q : TaskName) (s : State Local) (l m : Local) → Invariant 𝓛 s → ¬ (p ≡ q) → s.at p ≡ live l → s.at q ≡ live m
      → Enabled (act (length p) l) (children-of s p) → Enabled (act (length q) m) (children-of s q)
      → Step 𝓛 p (stepped q m s) (stepped p l (stepped q m s))
  unfolding stepped
  still-steps p q s l m i d e e1 ra rb = record {
    who = l;
    there = leaves-thread 𝓛 s i q m (act (length q) m) (lawful (length q) m (i.valid q m e1)) rb e1 p l e d _ _ ∙ e;
    enabled = same-enabled 𝓛 s i p q l m (act (length p) l) (act (length q) m) (lawful (length p) l (i.valid p l e))
        (lawful (length q) m (i.valid q m e1)) ra rb e e1 d (cost m);
    result = refl;
  }

  swap-steps : (p q : TaskName) (s : State Local) (l m : Local) → Invariant 𝓛 s → ¬ (p ≡ q) → s.at p ≡ live l → s.at q ≡ live m
      → Enabled (act (length p) l) (children-of s p) → Enabled (act (length q) m) (children-of s q)
      → stepped q m (stepped p l s) ≡ stepped p l (stepped q m s)
  unfolding stepped
  swap-steps p q s l m i d e e1 ra rb =
      swap 𝓛 s i p q l m (act (length p) l) (act (length q) m) (lawful (length p) l (i.valid p l e))
      (lawful (length q) m (i.valid q m e1)) ra rb e e1 d (cost l) (cost m)

  pub diamond : (p q : TaskName) (s t u : State Local) → Invariant 𝓛 s → ¬ (p ≡ q) → Step 𝓛 p s t → Step 𝓛 q s u
      → (v : State Local) × Step 𝓛 q t v × Step 𝓛 p u v
  unfolding stepped
  diamond p q s t u i d f g = (stepped p l (stepped q m s), one, two)
    where
      l : Local
      l = f.who

      m : Local
      m = g.who

      one : Step 𝓛 q t (stepped p l (stepped q m s))
      one = subst (λ z. Step 𝓛 q z (stepped p l (stepped q m s))) (sym f.result)
          (subst (λ z. Step 𝓛 q (stepped p l s) z) (swap-steps p q s l m i d f.there g.there f.enabled g.enabled)
          (still-steps q p s m l i (λ h. d (sym h)) g.there f.there g.enabled f.enabled))

      two : Step 𝓛 p u (stepped p l (stepped q m s))
      two = subst (λ z. Step 𝓛 p z (stepped p l (stepped q m s))) (sym g.result)
          (still-steps p q s l m i d f.there g.there f.enabled g.enabled)

  pub deterministic : (p : TaskName) (s t u : State Local) → Step 𝓛 p s t → Step 𝓛 p s u → t ≡ u
  deterministic p s t u f g = f.result ∙ ap (λ x. after p (cost x) (act (length p) x) s) same ∙ sym g.result
    where
      same : f.who ≡ g.who
      same = let a = f.there in let b = g.there in cc

  pub halt-lasts : (p q : TaskName) (s t : State Local) (n : ℕ) → Invariant 𝓛 s → Halts 𝓛 p s n → Step 𝓛 q s t → Halts 𝓛 p t n
  halt-lasts p q s t n i h g = go (same-name? p q)
    where
      go : Dec (p ≡ q) → Halts 𝓛 p t n
      go (yes e) = absurd (subst (λ x. Enabled x (children-of s q)) bad g.enabled)
        where
          same : h.who ≡ g.who
          same = let a = h.there in let b = g.there in cc

          bad : act (length q) g.who ≡ halt n
          bad = let a = h.why in cc
      go (no d) = subst (λ z. Halts 𝓛 p z n) (sym g.result) (record {
        who = h.who;
        there = leaves-thread 𝓛 s i q g.who (act (length q) g.who) (lawful (length q) g.who (i.valid q g.who g.there)) g.enabled
            g.there p h.who h.there d _ _ ∙ h.there;
        why = h.why;
      })

  pub finished-no-thread : (p : TaskName) (s : State Local) (l : Local) → Invariant 𝓛 s → Finished 𝓛 s → s.at p ≡ live l → ⊥
  finished-no-thread p s l i f e = let (m, r) = ancestor-live 𝓛 s i (root-⊑ p) l e in let c = f.root in let z : ◌≡◌ {A = ℕ} 0 1 = cc in omega arith
    where
      root-⊑ : (p : TaskName) → [] ⊑ p
      root-⊑ [] = here
      root-⊑ (k ∷ p) = down (root-⊑ p)
