-- A fork that gives the child a free thread number is a step of the tree: from now on the number stands for the new task's name.
-- Second of the three kinds of steps that `Simulation` puts together.
use mathlib.Core.Path.{◌∙◌, ◌≡◌, ap, refl, subst, subst₂, sym}
use mathlib.Core.List.{[], ◌∷◌}
use mathlib.Core.Logic.{ite}
use mathlib.Core.Bool.{false, true}
use Prim.Native.Nat.{◌+◌, ℕ}
use native.Mathlib.Decide.{ℕ_discrete}
use native.Mathlib.Omega.{arith}
use Rattle.forkjoin.proofs.TaskName.{TaskName, not-own-child}
use Rattle.forkjoin.proofs.Update.{update, update_other, update_same}
use Rattle.forkjoin.proofs.Language.{Act, Language, LawfulAct, fork}
use Rattle.forkjoin.proofs.TaskTree.{Node, Present, State, child-after, children-of, live, own-after, word_after}
use Rattle.forkjoin.proofs.AfterStep.{Origin, born, mine, old, origin}
use Rattle.forkjoin.proofs.Invariant.{present}
use Rattle.forkjoin.proofs.Carried.{Carried}
use Rattle.forkjoin.proofs.ThreadPool.{Cell, Link, Pool, Updated, child, free, kept-cell, look_up, new, root, used}
use Rattle.forkjoin.proofs.Represents.{Fits, Represents}
use Rattle.forkjoin.proofs.Stepping.{Stepping, act-lawful, fits-other, live_now, next-state, node-child, node-other, node-own}

module _ {𝓛 : Language} {𝓒 : Carried 𝓛} where
  open 𝓛 use {Local, cost, pending}
  open 𝓒 use {Concrete, abstraction, held}

  module _ {name : ℕ → TaskName} {M : Pool Concrete} {s : State Local} {t : ℕ} {r : Concrete} {k : Link} {b : Act Local}
      (S : Stepping 𝓛 𝓒 name M s t r k b) where
    open S use {related, invariant, in_use}

    -- a fork by slot d, with the child at the free number z
    module _ (d z : ℕ) (c q : Concrete) (isf : b ≡ fork d (abstraction c) (abstraction q)) (cz : M.cell z ≡ free)
        (hold : (e : ℕ) → ¬ (e ≡ d) → pending (abstraction q) e ≡ true → (pending (abstraction r) e ≡ true) × (held q e ≡ held r e))
        (bare : (e : ℕ) → pending (abstraction c) e ≡ false) where
      unfoldable pub fork-names : ℕ → TaskName
      fork-names = update name z (d ∷ name t)

      unfoldable pub fork-cells : ℕ → Cell Concrete
      fork-cells = update (update M.cell t (used q k)) z (used c (child t d))

      unfoldable pub fork-pool : Pool Concrete
      fork-pool = record { cell = fork-cells; words = M.words; units = M.units + cost (abstraction r) }

      free-not-used : (u : ℕ) (r' : Concrete) (k' : Link) → M.cell u ≡ used r' k' → ¬ (u ≡ z)
      free-not-used u r' k' h e = let y : ◌≡◌ {A = ℕ} 0 1 = cc in omega arith

      t≢z : ¬ (t ≡ z)
      t≢z = free-not-used t r k in_use

      name-z : fork-names z ≡ d ∷ name t
      unfolding fork-names
      name-z = update_same name z (d ∷ name t)

      name-u : (u : ℕ) → ¬ (u ≡ z) → fork-names u ≡ name u
      unfolding fork-names
      name-u u n = update_other name z (d ∷ name t) u n

      cell-z : fork-cells z ≡ used c (child t d)
      unfolding fork-cells
      cell-z = update_same (update M.cell t (used q k)) z (used c (child t d))

      cell-t : fork-cells t ≡ used q k
      unfolding fork-cells
      cell-t = update_other (update M.cell t (used q k)) z (used c (child t d)) t t≢z ∙ update_same M.cell t (used q k)

      cell-u : (u : ℕ) → ¬ (u ≡ z) → ¬ (u ≡ t) → fork-cells u ≡ M.cell u
      unfolding fork-cells
      cell-u u n m = update_other (update M.cell t (used q k)) z (used c (child t d)) u n ∙ update_other M.cell t (used q k) u m

      -- which thread a used cell is
      data Which (u : ℕ) (r' : Concrete) (k' : Link) : Type 0 where
        is-z : u ≡ z → used c (child t d) ≡ used r' k' → Which u r' k'
        is-t : u ≡ t → used q k ≡ used r' k' → Which u r' k'
        was : ¬ (u ≡ z) → ¬ (u ≡ t) → M.cell u ≡ used r' k' → Which u r' k'

      which : (u : ℕ) (r' : Concrete) (k' : Link) → fork-cells u ≡ used r' k' → Which u r' k'
      unfolding fork-cells
      which u r' k' h = go (look_up (update M.cell t (used q k)) z (used c (child t d)) u r' k' h)
        where
          go₂ : ¬ (u ≡ z) → Updated M.cell t (used q k) u r' k' → Which u r' k'
          go₂ n (new e h) = is-t e h
          go₂ n (kept-cell m h) = was n m h

          go : Updated (update M.cell t (used q k)) z (used c (child t d)) u r' k' → Which u r' k'
          go (new e h) = is-z e h
          go (kept-cell n h) = go₂ n (look_up M.cell t (used q k) u r' k' h)

      still-used : (u : ℕ) (r' : Concrete) (k' : Link) → M.cell u ≡ used r' k' → (r₁ : Concrete) × (k₁ : Link) × (fork-cells u ≡ used r₁ k₁)
      still-used u r' k' h = go (ℕ_discrete u t)
        where
          go : Dec (u ≡ t) → (r₁ : Concrete) × (k₁ : Link) × (fork-cells u ≡ used r₁ k₁)
          go (yes e) = (q, k, ap fork-cells e ∙ cell-t)
          go (no n) = (r', k', cell-u u (free-not-used u r' k' h) n ∙ h)

      -- the child's name was free
      unborn : Present (s.at (d ∷ name t)) → ⊥
      unborn h =
          let g : LawfulAct 𝓛 (abstraction r) (fork d (abstraction c) (abstraction q)) = subst (λ y. LawfulAct 𝓛 (abstraction r) y) isf
          (act-lawful S) in
          let (l₂, e₂, pd) = invariant.tree d (name t) h in
          let f = g.fresh in
          let st' = live_now S in
          let o : l₂ ≡ abstraction r = cc in
          let y : ◌≡◌ {A = ℕ} 0 1 = cc in omega arith

      child-d : (n : Node Local) → child-after b d n ≡ live (abstraction c)
      child-d n = ap (λ y. child-after y d n) isf ∙ go (ℕ_discrete d d)
        where
          go : (o : Dec (d ≡ d)) → ite o (live (abstraction c)) n ≡ live (abstraction c)
          go (yes _) = refl
          go (no x) = absurd (x refl)

      child-e : (e : ℕ) → ¬ (e ≡ d) → (n : Node Local) → child-after b e n ≡ n
      child-e e x n = ap (λ y. child-after y e n) isf ∙ go (ℕ_discrete e d)
        where
          go : (o : Dec (e ≡ d)) → ite o (live (abstraction c)) n ≡ n
          go (yes y) = absurd (x y)
          go (no _) = refl

      self-q : own-after b s.memory (children-of s (name t)) ≡ live (abstraction q)
      self-q = ap (λ y. own-after y s.memory (children-of s (name t))) isf

      pub fork-represents : Represents 𝓛 𝓒 fork-names fork-pool (next-state S)
      unfolding fork-pool next-state
      fork-represents = record {
        alive = λ u r' k' h. lives_by u r' k' (which u r' k' h);
        distinct = λ u v r₁ r₂ k₁ k₂ h h' e. inj-by u v r₁ r₂ k₁ k₂ (which u r₁ k₁ h) (which v r₂ k₂ h') e;
        root-name = λ u r' h. top-by u r' (which u r' root h);
        child-name = λ u r' v e h. sub_by u r' v e (which u r' (child v e) h);
        numbered = λ x l h. back_by x l (origin (name t) b s x l h);
        slot-fits = λ u r' k' e h pd. fits_by u r' k' e (which u r' k' h) pd;
        same_memory = ap (λ y x. word_after y x (s.memory x)) isf ∙ related.same_memory;
        same_units = ap (λ y. y + cost (abstraction r)) related.same_units;
      }
        where
          lives_by : (u : ℕ) (r' : Concrete) (k' : Link) → Which u r' k' → (next-state S).at (fork-names u) ≡ live (abstraction r')
          lives_by u r' k' (is-z e h) =
              let y : c ≡ r' = cc in ap (λ x. (next-state S).at (fork-names x)) e ∙ ap (λ x. (next-state S).at x) name-z ∙ node-child S d
              ∙ child-d (s.at (d ∷ name t)) ∙ ap (λ x. live (abstraction x)) y
          lives_by u r' k' (is-t e h) =
              let y : q ≡ r' = cc in ap (λ x. (next-state S).at (fork-names x)) e ∙ ap (λ x. (next-state S).at x) (name-u t t≢z) ∙ node-own S ∙ self-q
              ∙ ap (λ x. live (abstraction x)) y
          lives_by u r' k' (was n m h) = ap (λ x. (next-state S).at x) (name-u u n) ∙ node-other S u r' k' h m

          born-name : (v : ℕ) (r' : Concrete) (k' : Link) → M.cell v ≡ used r' k' → d ∷ name t ≡ name v → ⊥
          born-name v r' k' h e = unborn (subst (λ x. Present (s.at x)) (sym e)
              (present 𝓛 s invariant (name v) (abstraction r') (related.alive v r' k' h)))

          inj-by : (u v : ℕ) (r₁ r₂ : Concrete) (k₁ k₂ : Link) → Which u r₁ k₁ → Which v r₂ k₂ → fork-names u ≡ fork-names v → u ≡ v
          inj-by u v r₁ r₂ k₁ k₂ (is-z e _) (is-z e' _) h = e ∙ sym e'
          inj-by u v r₁ r₂ k₁ k₂ (is-z e _) (is-t e' _) h = absurd
              (not-own-child (sym (name-u t t≢z) ∙ ap fork-names (sym e') ∙ sym h ∙ ap fork-names e ∙ name-z))
          inj-by u v r₁ r₂ k₁ k₂ (is-z e _) (was n m c') h = absurd (born-name v r₂ k₂ c' (sym name-z ∙ ap fork-names (sym e) ∙ h ∙ name-u v n))
          inj-by u v r₁ r₂ k₁ k₂ (is-t e' _) (is-z e _) h = absurd
              (not-own-child (sym (name-u t t≢z) ∙ ap fork-names (sym e') ∙ h ∙ ap fork-names e ∙ name-z))
          inj-by u v r₁ r₂ k₁ k₂ (is-t e _) (is-t e' _) h = e ∙ sym e'
          inj-by u v r₁ r₂ k₁ k₂ (is-t e _) (was n m c') h = absurd
              (m (related.distinct v t r₂ r k₂ k c' in_use (sym (name-u v n) ∙ sym h ∙ ap fork-names e ∙ name-u t t≢z)))
          inj-by u v r₁ r₂ k₁ k₂ (was n m c') (is-z e _) h = absurd (born-name u r₁ k₁ c' (sym name-z ∙ ap fork-names (sym e) ∙ sym h ∙ name-u u n))
          inj-by u v r₁ r₂ k₁ k₂ (was n m c') (is-t e _) h = absurd
              (m (related.distinct u t r₁ r k₁ k c' in_use (sym (name-u u n) ∙ h ∙ ap fork-names e ∙ name-u t t≢z)))
          inj-by u v r₁ r₂ k₁ k₂ (was n m c') (was n' m' c₂) h = related.distinct u v r₁ r₂ k₁ k₂ c' c₂ (sym (name-u u n) ∙ h ∙ name-u v n')

          top-by : (u : ℕ) (r' : Concrete) → Which u r' root → fork-names u ≡ []
          top-by u r' (is-z e h) = let y : ◌≡◌ {A = ℕ} 0 1 = cc in absurd (omega arith)
          top-by u r' (is-t e h) = let y : k ≡ root = cc in ap fork-names e ∙ name-u t t≢z ∙ related.root-name t r (cc)
          top-by u r' (was n m h) = name-u u n ∙ related.root-name u r' h

          sub_by : (u : ℕ) (r' : Concrete) (v e : ℕ) → Which u r' (child v e)
              → (r₁ : Concrete) × (k₁ : Link) × (fork-cells v ≡ used r₁ k₁) × (fork-names u ≡ e ∷ fork-names v)
          sub_by u r' v e (is-z x h) =
              let y : t ≡ v = cc in let y' : d ≡ e = cc in (
                q,
                k,
                ap fork-cells (sym y) ∙ cell-t,
                ap fork-names x ∙ name-z ∙ ap (λ o. o ∷ name t) y' ∙ ap (λ o. e ∷ o) (sym (name-u t t≢z))
                    ∙ ap (λ o. e ∷ fork-names o) y,
              )
          sub_by u r' v e (is-t x h) =
              let y : k ≡ child v e = cc in
              let (r₁, k₁, c₁, e₁) = related.child-name t r v e (cc) in
              let (r₂, k₂, c₂) = still-used v r₁ k₁ c₁ in
              (r₂, k₂, c₂, ap fork-names x ∙ name-u t t≢z ∙ e₁ ∙ ap (λ o. e ∷ o) (sym (name-u v (free-not-used v r₁ k₁ c₁))))
          sub_by u r' v e (was n m h) =
              let (r₁, k₁, c₁, e₁) = related.child-name u r' v e h in
              let (r₂, k₂, c₂) = still-used v r₁ k₁ c₁ in
              (r₂, k₂, c₂, name-u u n ∙ e₁ ∙ ap (λ o. e ∷ o) (sym (name-u v (free-not-used v r₁ k₁ c₁))))

          back_by : (x : TaskName) (l : Local) → Origin (name t) b s x l
              → (u : ℕ) × (r' : Concrete) × (k' : Link) × (fork-cells u ≡ used r' k') × (fork-names u ≡ x)
          back_by x l (old n h) =
              let (u, r₁, k₁, c₁, e₁) = related.numbered x l h in
              let (r₂, k₂, c₂) = still-used u r₁ k₁ c₁ in
              (u, r₂, k₂, c₂, name-u u (free-not-used u r₁ k₁ c₁) ∙ e₁)
          back_by x l (mine e h) = (t, q, k, cell-t, name-u t t≢z ∙ sym e)
          back_by x l (born d' n e h) = let y : d ≡ d' = cc in (z, c, child t d, cell-z, name-z ∙ ap (λ o. o ∷ name t) y ∙ sym e)

          fits-child : (e : ℕ) → pending (abstraction q) e ≡ true → Dec (e ≡ d) → Fits 𝓛 𝓒 ((next-state S).at (e ∷ name t)) (held q e)
          fits-child e pd (yes y) =
              subst (λ o. Fits 𝓛 𝓒 o (held q e)) (sym (ap (λ o. (next-state S).at (o ∷ name t)) y ∙ node-child S d ∙ child-d (s.at (d ∷ name t)))) tt
          fits-child e pd (no y) =
              let (p₁, h₁) = hold e y pd in
              subst₂ (λ o v. Fits 𝓛 𝓒 o v) (sym (node-child S e ∙ child-e e y (s.at (e ∷ name t)))) (sym h₁) (related.slot-fits t r k e in_use p₁)

          fits_by : (u : ℕ) (r' : Concrete) (k' : Link) (e : ℕ) → Which u r' k' → pending (abstraction r') e ≡ true
              → Fits 𝓛 𝓒 ((next-state S).at (e ∷ fork-names u)) (held r' e)
          fits_by u r' k' e (is-z x h) pd =
              let y : c ≡ r' = cc in let o = bare e in let n : ◌≡◌ {A = ℕ} 0 1 = cc in absurd (omega arith)
          fits_by u r' k' e (is-t x h) pd =
              let y : q ≡ r' = cc in
              subst₂ (λ o v. Fits 𝓛 𝓒 ((next-state S).at (e ∷ o)) (held v e)) (sym (ap fork-names x ∙ name-u t t≢z)) y
              (fits-child e (subst (λ o. pending (abstraction o) e ≡ true) (sym y) pd) (ℕ_discrete e d))
          fits_by u r' k' e (was n m h) pd =
              subst (λ o. Fits 𝓛 𝓒 ((next-state S).at (e ∷ o)) (held r' e)) (sym (name-u u n))
              (fits-other S u r' k' e h m pd (λ _. subst (λ o. Fits 𝓛 𝓒 o (held r' e)) (sym self-q) tt))
