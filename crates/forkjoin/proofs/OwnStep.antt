-- A step that changes the stepping thread's own cell only, a join among them, is a step of the tree: the names stay as they are.
-- First of the three kinds of steps that `Simulation` puts together.
use mathlib.Core.Path.{◌∙◌, ◌≡◌, ap, refl, subst, subst₂, sym}
use mathlib.Core.List.{[], ◌∷◌}
use mathlib.Core.Logic.{ite}
use mathlib.Core.Bool.{true}
use Prim.Native.Nat.{◌+◌, ℕ}
use native.Mathlib.Decide.{ℕ_discrete}
use Rattle.forkjoin.proofs.TaskName.{TaskName}
use Rattle.forkjoin.proofs.Update.{update, update_same}
use Rattle.forkjoin.proofs.Language.{Act, Language, fork}
use Rattle.forkjoin.proofs.TaskTree.{State, child-after, children-of, live, own-after}
use Rattle.forkjoin.proofs.AfterStep.{Origin, born, mine, old, origin}
use Rattle.forkjoin.proofs.Carried.{Carried}
use Rattle.forkjoin.proofs.ThreadPool.{Link, Pool, Updated, child, kept-cell, look_up, new, root, used}
use Rattle.forkjoin.proofs.Represents.{Fits, Represents}
use Rattle.forkjoin.proofs.Stepping.{Stepping, fits-other, next-state, node-child, node-other, node-own}

module _ {𝓛 : Language} {𝓒 : Carried 𝓛} where
  open 𝓛 use {Local, cost, pending}
  open 𝓒 use {Concrete, abstraction, held}

  module _ {name : ℕ → TaskName} {M : Pool Concrete} {s : State Local} {t : ℕ} {r : Concrete} {k : Link} {b : Act Local}
      (S : Stepping 𝓛 𝓒 name M s t r k b) where
    open S use {related, in_use}

    -- commands that touch only the thread's own cell, and join
    module _ (q : Concrete) (sf : own-after b s.memory (children-of s (name t)) ≡ live (abstraction q))
        (nofork : (d : ℕ) (c l : Local) → b ≡ fork d c l → ⊥)
        (fitk : (d : ℕ) → pending (abstraction q) d ≡ true → Fits 𝓛 𝓒 (child-after b d (s.at (d ∷ name t))) (held q d))
        (ws : ℕ → ℕ) (wm : (next-state S).memory ≡ ws) where
      unfoldable pub own-pool : Pool Concrete
      own-pool = record { cell = update M.cell t (used q k); words = ws; units = M.units + cost (abstraction r) }

      still-used : (u : ℕ) (r' : Concrete) (k' : Link) → M.cell u ≡ used r' k'
          → (r₁ : Concrete) × (k₁ : Link) × (update M.cell t (used q k) u ≡ used r₁ k₁)
      still-used u r' k' cu = go (ℕ_discrete u t)
        where
          go : (o : Dec (u ≡ t)) → (r₁ : Concrete) × (k₁ : Link) × (ite o (used q k) (M.cell u) ≡ used r₁ k₁)
          go (yes _) = (q, k, refl)
          go (no _) = (r', k', cu)

      pub own-represents : Represents 𝓛 𝓒 name own-pool (next-state S)
      unfolding own-pool next-state
      own-represents = record {
        alive = λ u r' k' h. lives_by u r' k' (look_up M.cell t (used q k) u r' k' h);
        distinct = λ u v r₁ r₂ k₁ k₂ h h' e. inj-by u v r₁ r₂ k₁ k₂ (look_up M.cell t (used q k) u r₁ k₁ h)
            (look_up M.cell t (used q k) v r₂ k₂ h') e;
        root-name = λ u r' h. top-by u r' (look_up M.cell t (used q k) u r' root h);
        child-name = λ u r' v d h. sub_by u r' v d (look_up M.cell t (used q k) u r' (child v d) h);
        numbered = λ x l h. back_by x l (origin (name t) b s x l h);
        slot-fits = λ u r' k' d h pd. fits_by u r' k' d (look_up M.cell t (used q k) u r' k' h) pd;
        same_memory = wm;
        same_units = ap (λ z. z + cost (abstraction r)) related.same_units;
      }
        where
          lives_by : (u : ℕ) (r' : Concrete) (k' : Link) → Updated M.cell t (used q k) u r' k' → (next-state S).at (name u) ≡ live (abstraction r')
          lives_by u r' k' (new e c) = let z : q ≡ r' = cc in ap (λ y. (next-state S).at (name y)) e ∙ node-own S ∙ sf
              ∙ ap (λ y. live (abstraction y)) z
          lives_by u r' k' (kept-cell n h) = node-other S u r' k' h n

          inj-by : (u v : ℕ) (r₁ r₂ : Concrete) (k₁ k₂ : Link) → Updated M.cell t (used q k) u r₁ k₁ → Updated M.cell t (used q k) v r₂ k₂
              → name u ≡ name v → u ≡ v
          inj-by u v r₁ r₂ k₁ k₂ (new e _) (new e' _) h = e ∙ sym e'
          inj-by u v r₁ r₂ k₁ k₂ (new e _) (kept-cell n c) h = absurd (n (related.distinct v t r₂ r k₂ k c in_use (sym h ∙ ap name e)))
          inj-by u v r₁ r₂ k₁ k₂ (kept-cell n c) (new e _) h = absurd (n (related.distinct u t r₁ r k₁ k c in_use (h ∙ ap name e)))
          inj-by u v r₁ r₂ k₁ k₂ (kept-cell n c) (kept-cell n' c') h = related.distinct u v r₁ r₂ k₁ k₂ c c' h

          top-by : (u : ℕ) (r' : Concrete) → Updated M.cell t (used q k) u r' root → name u ≡ []
          top-by u r' (new e c) = let z : k ≡ root = cc in ap name e ∙ related.root-name t r (cc)
          top-by u r' (kept-cell n c) = related.root-name u r' c

          sub_by : (u : ℕ) (r' : Concrete) (v d : ℕ) → Updated M.cell t (used q k) u r' (child v d)
              → (r₁ : Concrete) × (k₁ : Link) × (update M.cell t (used q k) v ≡ used r₁ k₁) × (name u ≡ d ∷ name v)
          sub_by u r' v d (new e c) =
              let z : k ≡ child v d = cc in
              let (r₁, k₁, c₁, e₁) = related.child-name t r v d (cc) in
              let (r₂, k₂, c₂) = still-used v r₁ k₁ c₁ in
              (r₂, k₂, c₂, ap name e ∙ e₁)
          sub_by u r' v d (kept-cell n c) =
              let (r₁, k₁, c₁, e₁) = related.child-name u r' v d c in
              let (r₂, k₂, c₂) = still-used v r₁ k₁ c₁ in
              (r₂, k₂, c₂, e₁)

          back_by : (x : TaskName) (l : Local) → Origin (name t) b s x l
              → (u : ℕ) × (r' : Concrete) × (k' : Link) × (update M.cell t (used q k) u ≡ used r' k') × (name u ≡ x)
          back_by x l (old n h) = let (u, r₁, k₁, c₁, e₁) = related.numbered x l h in let (r₂, k₂, c₂) = still-used u r₁ k₁ c₁ in (u, r₂, k₂, c₂, e₁)
          back_by x l (mine e h) = (t, q, k, update_same M.cell t (used q k), sym e)
          back_by x l (born d n e h) = absurd (nofork d l n h)

          fits_by : (u : ℕ) (r' : Concrete) (k' : Link) (d : ℕ) → Updated M.cell t (used q k) u r' k' → pending (abstraction r') d ≡ true
              → Fits 𝓛 𝓒 ((next-state S).at (d ∷ name u)) (held r' d)
          fits_by u r' k' d (new e c) pd =
              let z : q ≡ r' = cc in
              let f : Fits 𝓛 𝓒 ((next-state S).at (d ∷ name t)) (held q d) = subst (λ y. Fits 𝓛 𝓒 y (held q d)) (sym (node-child S d))
              (fitk d (subst (λ y. pending (abstraction y) d ≡ true) (sym z) pd)) in
              subst₂ (λ x y. Fits 𝓛 𝓒 ((next-state S).at (d ∷ name x)) (held y d)) (sym e) z f
          fits_by u r' k' d (kept-cell n c) pd = fits-other S u r' k' d c n pd (λ _. subst (λ y. Fits 𝓛 𝓒 y (held r' d)) (sym sf) tt)
