-- Every step of a pool is a step of the tree that it represents (`simulates`), by the thread's name; a fault of the pool is a halt
-- of the tree (`faults`), and the root's return finishes the tree (`finishes`).
use mathlib.Core.Path.{◌∙◌, ◌≡◌, ap, fun_ext, refl, subst, subst₂, sym}
use mathlib.Core.List.{[], ◌∷◌}
use mathlib.Core.Bool.{false, true}
use Prim.Native.Nat.{◌+◌, ℕ}
use native.Mathlib.Omega.{arith}
use lib.ListN.{length}
use Rattle.forkjoin.proofs.TaskName.{TaskName, tail-eq}
use Rattle.forkjoin.proofs.Language.{Act, Language, fork, halt, join, ret}
use Rattle.forkjoin.proofs.TaskTree.{Enabled, Halts, Node, NotLive, State, Step, child-after, children-of, ended, live, none, own-after, value, word_after}
use Rattle.forkjoin.proofs.Invariant.{Invariant}
use Rattle.forkjoin.proofs.Carried.{Carried, KeepsHeld, SameAct, advances, forks, halts, joins, loads, returns, same-fork, same-halt, same-join, same-ret, stores}
use Rattle.forkjoin.proofs.ThreadPool.{Link, OwnAct, Pool, PoolStep, child, root, step-fork, step-join, step-own, step-return, used}
use Rattle.forkjoin.proofs.Represents.{Fits, Represents}
use Rattle.forkjoin.proofs.Stepping.{Stepping, next-state, node-own, tree-step}
use Rattle.forkjoin.proofs.OwnStep.{own-pool, own-represents}
use Rattle.forkjoin.proofs.ForkStep.{fork-cells, fork-names, fork-pool, fork-represents}
use Rattle.forkjoin.proofs.ReturnStep.{return-cells, return-pool, return-represents}

module _ (𝓛 : Language) (𝓒 : Carried 𝓛) where
  open 𝓛 use {Local, act, cost, pending}
  open 𝓒 use {Concrete, abstraction, held, does, same}

  record OwnSim (r : Concrete) (a : Act Concrete) (b : Act Local) (m : ℕ → ℕ) (q : Concrete) : Type 0 where
    owns : (ks : ℕ → Node Local) → own-after b m ks ≡ live (abstraction q)
    children : (k : ℕ) (n : Node Local) → child-after b k n ≡ n
    words : (x y : ℕ) → word_after b x y ≡ word_after a x y
    enables : (ks : ℕ → Node Local) → Enabled b ks
    holds : KeepsHeld 𝓛 Concrete abstraction held r q
    no-fork : (d : ℕ) (c l : Local) → b ≡ fork d c l → ⊥

  own-sim : {r q : Concrete} {a : Act Concrete} {b : Act Local} {m : ℕ → ℕ} → SameAct 𝓛 Concrete abstraction held r a b → OwnAct 𝓛 𝓒 a m q
      → OwnSim r a b m q
  own-sim halts o = absurd o
  own-sim {r = r} (advances h) o = record {
    owns = λ ks. ap (λ z. live (abstraction z)) o;
    children = λ k n. refl;
    words = λ x y. refl;
    enables = λ ks. tt;
    holds = subst (λ z. KeepsHeld 𝓛 Concrete abstraction held r z) o h;
    no-fork = λ d c l e. let z : ◌≡◌ {A = ℕ} 0 1 = cc in omega arith;
  }
  own-sim {r = r} {m = m} (loads {a = a} h) o = record {
    owns = λ ks. ap (λ z. live (abstraction z)) o;
    children = λ k n. refl;
    words = λ x y. refl;
    enables = λ ks. tt;
    holds = subst (λ z. KeepsHeld 𝓛 Concrete abstraction held r z) o (h (m a));
    no-fork = λ d c l e. let z : ◌≡◌ {A = ℕ} 0 1 = cc in omega arith;
  }
  own-sim {r = r} (stores h) o = record {
    owns = λ ks. ap (λ z. live (abstraction z)) o;
    children = λ k n. refl;
    words = λ x y. refl;
    enables = λ ks. tt;
    holds = subst (λ z. KeepsHeld 𝓛 Concrete abstraction held r z) o h;
    no-fork = λ d c l e. let z : ◌≡◌ {A = ℕ} 0 1 = cc in omega arith;
  }
  own-sim (forks _ _ _) o = absurd o
  own-sim (joins _ _) o = absurd o
  own-sim returns o = absurd o

  -- a step of the pool is a step of the tree
  abbrev pub Simulated : (ℕ → TaskName) → Pool Concrete → State Local → ℕ → Type 0
  Simulated name M' s t = (name' : ℕ → TaskName) × (s' : State Local) × Step 𝓛 (name t) s s' × Represents 𝓛 𝓒 name' M' s'

  -- the cases of `simulates`; the pool that the step gives stands after the thread that steps, since each case names it by that thread
  by-step : (name : ℕ → TaskName) (M : Pool Concrete) (s : State Local) → Represents 𝓛 𝓒 name M s → Invariant 𝓛 s → (t : ℕ) (M' : Pool Concrete)
      → PoolStep 𝓛 𝓒 (length (name t)) t M M' → Simulated name M' s t
  unfolding next-state own-pool fork-pool return-pool fork-names fork-cells return-cells
  by-step name M s R i t M' (step-own r q k ct o) = (
    name,
    next-state S,
    tree-step S,
    own-represents S q (O.owns (children-of s (name t))) O.no-fork fitk _ wm,
  )
    where
      n : ℕ
      n = length (name t)

      b : Act Local
      b = act n (abstraction r)

      O : OwnSim r (does n r) b s.memory q
      O = own-sim (same n r) (subst (λ m. OwnAct 𝓛 𝓒 (does n r) m q) (sym R.same_memory) o)

      rd : Enabled b (children-of s (name t))
      rd = O.enables (children-of s (name t))

      S : Stepping 𝓛 𝓒 name M s t r k b
      S = record { related = R; invariant = i; in_use = ct; acts = refl; enabled = rd }

      fitk : (d : ℕ) → pending (abstraction q) d ≡ true → Fits 𝓛 𝓒 (child-after b d (s.at (d ∷ name t))) (held q d)
      fitk d pd =
          let (p₁, h₁) = O.holds d pd in
          subst₂ (λ x y. Fits 𝓛 𝓒 x y) (sym (O.children d (s.at (d ∷ name t)))) (sym h₁) (R.slot-fits t r k d ct p₁)

      wm : (next-state S).memory ≡ (λ x. word_after (does n r) x (M.words x))
      wm = fun_ext (λ x. O.words x (s.memory x) ∙ ap (λ m. word_after (does n r) x (m x)) R.same_memory)
  by-step name M s R i t M' (step-fork r c q k d z ct e cz) = (
    fork-names S d z c q F.0 cz F.1 F.2,
    next-state S,
    tree-step S,
    fork-represents S d z c q F.0 cz F.1 F.2,
  )
    where
      n : ℕ
      n = length (name t)

      b : Act Local
      b = act n (abstraction r)

      F : (b ≡ fork d (abstraction c) (abstraction q))
          × ((e : ℕ) → ¬ (e ≡ d) → pending (abstraction q) e ≡ true → (pending (abstraction r) e ≡ true) × (held q e ≡ held r e))
          × ((e : ℕ) → pending (abstraction c) e ≡ false)
      F = same-fork 𝓛 Concrete abstraction held (same n r) e

      rd : Enabled b (children-of s (name t))
      rd = subst (λ z. Enabled z (children-of s (name t))) (sym F.0) tt

      S : Stepping 𝓛 𝓒 name M s t r k b
      S = record { related = R; invariant = i; in_use = ct; acts = refl; enabled = rd }
  by-step name M s R i t M' (step-join r q k ct e alone) = (
    name,
    next-state S,
    tree-step S,
    own-represents S q sf nf fitk M.words wm,
  )
    where
      n : ℕ
      n = length (name t)

      b : Act Local
      b = act n (abstraction r)

      F : (f : (ℕ → ℕ) → Local) × (b ≡ join f) × ((k : ℕ) → pending (abstraction q) k ≡ false)
          × ((vs : ℕ → ℕ) → ((k : ℕ) → pending (abstraction r) k ≡ true → vs k ≡ held r k) → f vs ≡ abstraction q)
      F = same-join 𝓛 Concrete abstraction held (same n r) e

      no-live : (d : ℕ) (l : Local) → s.at (d ∷ name t) ≡ live l → ⊥
      no-live d l h = by-link k₁ c₁
        where
          X : (t' : ℕ) × (r' : Concrete) × (k' : Link) × (M.cell t' ≡ used r' k') × (name t' ≡ d ∷ name t)
          X = R.numbered (d ∷ name t) l h

          k₁ : Link
          k₁ = X.2

          c₁ : M.cell X.0 ≡ used X.1 k₁
          c₁ = X.3

          by-link : (kk : Link) → M.cell X.0 ≡ used X.1 kk → ⊥
          by-link root c = let u = R.root-name X.0 X.1 c in let v = X.4 in let y : ◌≡◌ {A = ℕ} 0 1 = cc in omega arith
          by-link (child q' e') c =
              let (r₂, k₂, c₂, e₂) = R.child-name X.0 X.1 q' e' c in
              let same-q : q' ≡ t = R.distinct q' t r₂ r k₂ k c₂ ct (tail-eq (sym e₂ ∙ X.4)) in
              alone X.0 X.1 e' (subst (λ z. M.cell X.0 ≡ used X.1 (child z e')) same-q c)

      quiet_by : (d : ℕ) (x : Node Local) → s.at (d ∷ name t) ≡ x → NotLive x
      quiet_by d none h = tt
      quiet_by d (live l) h = no-live d l h
      quiet_by d (ended v) h = tt

      quiets : (d : ℕ) → NotLive (s.at (d ∷ name t))
      quiets d = quiet_by d (s.at (d ∷ name t)) refl

      rd : Enabled b (children-of s (name t))
      rd = subst (λ z. Enabled z (children-of s (name t))) (sym F.1) quiets

      S : Stepping 𝓛 𝓒 name M s t r k b
      S = record { related = R; invariant = i; in_use = ct; acts = refl; enabled = rd }

      val-by : (x : Node Local) (v : ℕ) → NotLive x → Fits 𝓛 𝓒 x v → value x ≡ v
      val-by none v h f = absurd f
      val-by (live l) v h f = absurd h
      val-by (ended w) v h f = f

      sf : own-after b s.memory (children-of s (name t)) ≡ live (abstraction q)
      sf = ap (λ z. own-after z s.memory (children-of s (name t))) F.1
          ∙ ap live (F.3 (λ d. value (children-of s (name t) d))
          (λ d pd. val-by (s.at (d ∷ name t)) (held r d) (quiets d) (R.slot-fits t r k d ct pd)))

      nf : (d : ℕ) (c l : Local) → b ≡ fork d c l → ⊥
      nf d c l h = let u = F.1 in let y : ◌≡◌ {A = ℕ} 0 1 = cc in omega arith

      fitk : (d : ℕ) → pending (abstraction q) d ≡ true → Fits 𝓛 𝓒 (child-after b d (s.at (d ∷ name t))) (held q d)
      fitk d pd = let u = F.2 d in let y : ◌≡◌ {A = ℕ} 0 1 = cc in absurd (omega arith)

      wm : (next-state S).memory ≡ M.words
      wm = ap (λ z x. word_after z x (s.memory x)) F.1 ∙ R.same_memory
  by-step name M s R i t M' (step-return r r₀ k₀ q d v ct e cq) = (
    name,
    next-state S,
    tree-step S,
    return-represents S q d v r₀ k₀ isr refl cq,
  )
    where
      n : ℕ
      n = length (name t)

      b : Act Local
      b = act n (abstraction r)

      isr : b ≡ ret v
      isr = same-ret 𝓛 Concrete abstraction held (same n r) e

      rd : Enabled b (children-of s (name t))
      rd = subst (λ z. Enabled z (children-of s (name t))) (sym isr) tt

      S : Stepping 𝓛 𝓒 name M s t r (child q d) b
      S = record { related = R; invariant = i; in_use = ct; acts = refl; enabled = rd }

  -- A step of the pool is a step of the tree, by the thread's name.
  pub simulates : (name : ℕ → TaskName) (M M' : Pool Concrete) (s : State Local) → Represents 𝓛 𝓒 name M s → Invariant 𝓛 s → (t : ℕ)
      → PoolStep 𝓛 𝓒 (length (name t)) t M M' → Simulated name M' s t
  simulates name M M' s R i t step = by-step name M s R i t M' step

  -- a fault of the pool is a halt of the tree
  pub faults : (name : ℕ → TaskName) (M : Pool Concrete) (s : State Local) → Represents 𝓛 𝓒 name M s → (t x : ℕ) (r : Concrete) (k : Link)
      → M.cell t ≡ used r k
      → does (length (name t)) r ≡ halt x → Halts 𝓛 (name t) s x
  faults name M s R t x r k ct e = record {
    who = abstraction r;
    there = R.alive t r k ct;
    why = same-halt 𝓛 Concrete abstraction held
        (same (length (name t)) r) e;
  }

  -- the root's return finishes the tree
  pub finishes : (name : ℕ → TaskName) (M : Pool Concrete) (s : State Local) → Represents 𝓛 𝓒 name M s → Invariant 𝓛 s → (t v : ℕ) (r : Concrete)
      → M.cell t ≡ used r root
      → does (length (name t)) r ≡ ret v
      → (s₁ : State Local) × Step 𝓛 (name t) s s₁ × (s₁.at [] ≡ ended v) × (s₁.memory ≡ M.words) × (s₁.units ≡ M.units + cost (abstraction r))
  unfolding next-state
  finishes name M s R i t v r ct e = (
    next-state S,
    tree-step S,
    ap (λ z. (next-state S).at z) (sym (R.root-name t r ct)) ∙ node-own S ∙ ap (λ z. own-after z s.memory (children-of s (name t))) isr,
    ap (λ z x. word_after z x (s.memory x)) isr ∙ R.same_memory,
    ap (λ z. z + cost (abstraction r)) R.same_units,
  )
    where
      n : ℕ
      n = length (name t)

      b : Act Local
      b = act n (abstraction r)

      isr : b ≡ ret v
      isr = same-ret 𝓛 Concrete abstraction held (same n r) e

      rd : Enabled b (children-of s (name t))
      rd = subst (λ z. Enabled z (children-of s (name t))) (sym isr) tt

      S : Stepping 𝓛 𝓒 name M s t r root b
      S = record { related = R; invariant = i; in_use = ct; acts = refl; enabled = rd }
