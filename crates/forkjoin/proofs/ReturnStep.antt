-- A child's return, which gives its thread number back and delivers its value into the parent's pending slot, is a step of the
-- tree, where the value stays at the child's node. Third of the kinds of steps that `Simulation` puts together.
use mathlib.Core.Path.{◌∙◌, ◌≡◌, ap, refl, subst, subst₂, sym}
use mathlib.Core.List.{[], ◌∷◌}
use mathlib.Core.Logic.{ite}
use mathlib.Core.Bool.{true}
use Prim.Native.Nat.{◌+◌, ℕ}
use native.Mathlib.Decide.{ℕ_discrete}
use native.Mathlib.Omega.{arith}
use Rattle.forkjoin.proofs.TaskName.{TaskName, head-eq, tail-eq}
use Rattle.forkjoin.proofs.Update.{update, update_other}
use Rattle.forkjoin.proofs.Language.{Act, Language, LawfulAct, ret}
use Rattle.forkjoin.proofs.TaskTree.{Present, State, children-of, ended, live, own-after, word_after}
use Rattle.forkjoin.proofs.AfterStep.{Origin, born, mine, old, origin}
use Rattle.forkjoin.proofs.Invariant.{present}
use Rattle.forkjoin.proofs.Carried.{Carried}
use Rattle.forkjoin.proofs.ThreadPool.{Cell, Link, Pool, Updated, child, free, kept-cell, look_up, new, root, used}
use Rattle.forkjoin.proofs.Represents.{Fits, Represents}
use Rattle.forkjoin.proofs.Stepping.{Stepping, act-lawful, fits-other, live_now, next-state, node-other, node-own, not_own}

module _ {𝓛 : Language} {𝓒 : Carried 𝓛} where
  open 𝓛 use {Local, cost, pending}
  open 𝓒 use {Concrete, abstraction, held, deliver, deliver-abstraction, deliver-held, deliver-other}

  module _ {name : ℕ → TaskName} {M : Pool Concrete} {s : State Local} {t : ℕ} {r : Concrete} {k : Link} {b : Act Local}
      (S : Stepping 𝓛 𝓒 name M s t r k b) where
    open S use {related, invariant, in_use}

    -- a return of v to slot d of thread q
    module _ (q d v : ℕ) (r₀ : Concrete) (k₀ : Link) (isr : b ≡ ret v) (kt : k ≡ child q d) (cq : M.cell q ≡ used r₀ k₀) where
      unfoldable pub return-cells : ℕ → Cell Concrete
      return-cells = update (update M.cell t free) q (used (deliver r₀ d v) k₀)

      unfoldable pub return-pool : Pool Concrete
      return-pool = record { cell = return-cells; words = M.words; units = M.units + cost (abstraction r) }

      name-t : name t ≡ d ∷ name q
      name-t = let (_, _, _, e) = related.child-name t r q d (in_use ∙ ap (λ y. used r y) kt) in e

      q≢t : ¬ (q ≡ t)
      q≢t = not_own S q d name-t

      pend-d : pending (abstraction r₀) d ≡ true
      pend-d =
          let (l₂, e₂, pd) = invariant.tree d (name q)
          (subst (λ x. Present (s.at x)) name-t (present 𝓛 s invariant (name t) (abstraction r) (live_now S))) in
          let st' = related.alive q r₀ k₀ cq in
          let o : l₂ ≡ abstraction r₀ = cc in cc

      self-v : own-after b s.memory (children-of s (name t)) ≡ ended v
      self-v = ap (λ y. own-after y s.memory (children-of s (name t))) isr

      -- the thread has no children left
      childless : (u : ℕ) (r' : Concrete) (e : ℕ) → M.cell u ≡ used r' (child t e) → ⊥
      childless u r' e h =
          let g : LawfulAct 𝓛 (abstraction r) (ret v) = subst (λ y. LawfulAct 𝓛 (abstraction r) y) isr (act-lawful S) in
          let (_, _, _, nu) = related.child-name u r' t e h in
          let (l₂, e₂, pd) = invariant.tree e (name t)
          (subst (λ x. Present (s.at x)) nu (present 𝓛 s invariant (name u) (abstraction r') (related.alive u r' (child t e) h))) in
          let st' = live_now S in
          let f = g e in
          let o : l₂ ≡ abstraction r = cc in
          let y : ◌≡◌ {A = ℕ} 0 1 = cc in omega arith

      data Which (u : ℕ) (r' : Concrete) (k' : Link) : Type 0 where
        is-q : u ≡ q → used (deliver r₀ d v) k₀ ≡ used r' k' → Which u r' k'
        was : ¬ (u ≡ q) → ¬ (u ≡ t) → M.cell u ≡ used r' k' → Which u r' k'

      which : (u : ℕ) (r' : Concrete) (k' : Link) → return-cells u ≡ used r' k' → Which u r' k'
      unfolding return-cells
      which u r' k' h = go (look_up (update M.cell t free) q (used (deliver r₀ d v) k₀) u r' k' h)
        where
          go₂ : ¬ (u ≡ q) → Updated M.cell t free u r' k' → Which u r' k'
          go₂ n (new e h) = let y : ◌≡◌ {A = ℕ} 0 1 = cc in absurd (omega arith)
          go₂ n (kept-cell m h) = was n m h

          go : Updated (update M.cell t free) q (used (deliver r₀ d v) k₀) u r' k' → Which u r' k'
          go (new e h) = is-q e h
          go (kept-cell n h) = go₂ n (look_up M.cell t free u r' k' h)

      still-used : (u : ℕ) (r' : Concrete) (k' : Link) → M.cell u ≡ used r' k' → ¬ (u ≡ t)
          → (r₁ : Concrete) × (k₁ : Link) × (return-cells u ≡ used r₁ k₁)
      unfolding return-cells
      still-used u r' k' h n = go (ℕ_discrete u q)
        where
          go : (o : Dec (u ≡ q)) → (r₁ : Concrete) × (k₁ : Link) × (ite o (used (deliver r₀ d v) k₀) (update M.cell t free u) ≡ used r₁ k₁)
          go (yes e) = (deliver r₀ d v, k₀, refl)
          go (no m) = (r', k', update_other M.cell t free u n ∙ h)

      pub return-represents : Represents 𝓛 𝓒 name return-pool (next-state S)
      unfolding return-pool next-state
      return-represents = record {
        alive = λ u r' k' h. lives_by u r' k' (which u r' k' h);
        distinct = λ u v r₁ r₂ k₁ k₂ h h' e. inj-by u v r₁ r₂ k₁ k₂ (which u r₁ k₁ h) (which v r₂ k₂ h') e;
        root-name = λ u r' h. top-by u r' (which u r' root h);
        child-name = λ u r' v e h. sub_by u r' v e (which u r' (child v e) h);
        numbered = λ x l h. back_by x l (origin (name t) b s x l h);
        slot-fits = λ u r' k' e h pd. fits_by u r' k' e (which u r' k' h) pd;
        same_memory = ap (λ y x. word_after y x (s.memory x)) isr ∙ related.same_memory;
        same_units = ap (λ y. y + cost (abstraction r)) related.same_units;
      }
        where
          same-abs : abstraction (deliver r₀ d v) ≡ abstraction r₀
          same-abs = deliver-abstraction r₀ d v pend-d

          lives_by : (u : ℕ) (r' : Concrete) (k' : Link) → Which u r' k' → (next-state S).at (name u) ≡ live (abstraction r')
          lives_by u r' k' (is-q e h) =
              let y : deliver r₀ d v ≡ r' = cc in ap (λ x. (next-state S).at (name x)) e ∙ node-other S q r₀ k₀ cq q≢t ∙ ap live (sym same-abs)
              ∙ ap (λ x. live (abstraction x)) y
          lives_by u r' k' (was n m h) = node-other S u r' k' h m

          inj-by : (u x : ℕ) (r₁ r₂ : Concrete) (k₁ k₂ : Link) → Which u r₁ k₁ → Which x r₂ k₂ → name u ≡ name x → u ≡ x
          inj-by u x r₁ r₂ k₁ k₂ (is-q e _) (is-q e' _) h = e ∙ sym e'
          inj-by u x r₁ r₂ k₁ k₂ (is-q e _) (was n m c') h = absurd (n (related.distinct x q r₂ r₀ k₂ k₀ c' cq (sym h ∙ ap name e)))
          inj-by u x r₁ r₂ k₁ k₂ (was n m c') (is-q e _) h = absurd (n (related.distinct u q r₁ r₀ k₁ k₀ c' cq (h ∙ ap name e)))
          inj-by u x r₁ r₂ k₁ k₂ (was n m c') (was n' m' c₂) h = related.distinct u x r₁ r₂ k₁ k₂ c' c₂ h

          top-by : (u : ℕ) (r' : Concrete) → Which u r' root → name u ≡ []
          top-by u r' (is-q e h) = let y : k₀ ≡ root = cc in ap name e ∙ related.root-name q r₀ (cc)
          top-by u r' (was n m h) = related.root-name u r' h

          parent : (u : ℕ) (r' : Concrete) (x e : ℕ) → M.cell u ≡ used r' (child x e)
              → (r₁ : Concrete) × (k₁ : Link) × (return-cells x ≡ used r₁ k₁) × (name u ≡ e ∷ name x)
          parent u r' x e h =
              let (r₁, k₁, c₁, e₁) = related.child-name u r' x e h in
              let (r₂, k₂, c₂) = still-used x r₁ k₁ c₁ (λ y. childless u r' e (subst (λ o. M.cell u ≡ used r' (child o e)) y h)) in
              (r₂, k₂, c₂, e₁)

          sub_by : (u : ℕ) (r' : Concrete) (x e : ℕ) → Which u r' (child x e)
              → (r₁ : Concrete) × (k₁ : Link) × (return-cells x ≡ used r₁ k₁) × (name u ≡ e ∷ name x)
          sub_by u r' x e (is-q y h) =
              let o : k₀ ≡ child x e = cc in
              let (r₂, k₂, c₂, e₂) = parent q r₀ x e (cc) in
              (r₂, k₂, c₂, ap name y ∙ e₂)
          sub_by u r' x e (was n m h) = parent u r' x e h

          back_by : (x : TaskName) (l : Local) → Origin (name t) b s x l
              → (u : ℕ) × (r' : Concrete) × (k' : Link) × (return-cells u ≡ used r' k') × (name u ≡ x)
          back_by x l (old n h) =
              let (u, r₁, k₁, c₁, e₁) = related.numbered x l h in
              let (r₂, k₂, c₂) = still-used u r₁ k₁ c₁ (λ y. n (sym e₁ ∙ ap name y)) in
              (u, r₂, k₂, c₂, e₁)
          back_by x l (mine e h) = let sv = self-v in let y : ◌≡◌ {A = ℕ} 0 1 = cc in absurd (omega arith)
          back_by x l (born d' n e h) = let ir = isr in let y : ◌≡◌ {A = ℕ} 0 1 = cc in absurd (omega arith)

          fits-q : (e : ℕ) → pending (abstraction r₀) e ≡ true → Dec (e ≡ d) → Fits 𝓛 𝓒 ((next-state S).at (e ∷ name q)) (held (deliver r₀ d v) e)
          fits-q e pd (yes y) =
              let z : (next-state S).at (e ∷ name q) ≡ ended v = ap (λ o. (next-state S).at (o ∷ name q)) y ∙ ap (λ o. (next-state S).at o) (sym name-t)
              ∙ node-own S ∙ self-v in
              subst (λ o. Fits 𝓛 𝓒 o (held (deliver r₀ d v) e)) (sym z) (sym (deliver-held r₀ d v pend-d) ∙ ap (held (deliver r₀ d v)) (sym y))
          fits-q e pd (no y) = subst (λ o. Fits 𝓛 𝓒 ((next-state S).at (e ∷ name q)) o) (sym (deliver-other r₀ d v e y))
              (fits-other S q r₀ k₀ e cq q≢t pd (λ o. absurd (y (head-eq (o ∙ name-t)))))

          fits_by : (u : ℕ) (r' : Concrete) (k' : Link) (e : ℕ) → Which u r' k' → pending (abstraction r') e ≡ true
              → Fits 𝓛 𝓒 ((next-state S).at (e ∷ name u)) (held r' e)
          fits_by u r' k' e (is-q x h) pd =
              let y : deliver r₀ d v ≡ r' = cc in
              let pe : pending (abstraction r₀) e ≡ true = subst (λ o. pending o e ≡ true) same-abs
              (subst (λ o. pending (abstraction o) e ≡ true) (sym y) pd) in
              subst₂ (λ o z. Fits 𝓛 𝓒 ((next-state S).at (e ∷ name o)) (held z e)) (sym x) y (fits-q e pe (ℕ_discrete e d))
          fits_by u r' k' e (was n m h) pd =
              fits-other S u r' k' e h m pd (λ o. absurd (n (related.distinct u q r' r₀ k' k₀ h cq (tail-eq (o ∙ name-t)))))
