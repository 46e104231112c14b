-- A command language as it is carried out: a returned value is delivered into the parent's pending slot at once, so a thread's
-- concrete state holds values in slots that are still pending. `abstraction` forgets them, which gives the tree's state of the
-- thread; `SameAct` says that a command does the same in both.
use mathlib.Core.Path.{◌≡◌, ap, refl, subst, subst₂}
use mathlib.Core.Bool.{false, true}
use Prim.Native.Nat.{ℕ}
use native.Mathlib.Omega.{arith}
use Rattle.forkjoin.proofs.Language.{Act, Language, advance, fork, halt, join, load, ret, store}

module _ (𝓛 : Language) (Concrete : Type 0) (abstraction : Concrete → Language.Local 𝓛) (held : Concrete → ℕ → ℕ) where
  open 𝓛 use {Local, act, pending}

  -- no more slots are pending than were, and those hold what they held
  abbrev pub KeepsHeld : Concrete → Concrete → Type 0
  KeepsHeld r q = (k : ℕ) → pending (abstraction q) k ≡ true → (pending (abstraction r) k ≡ true) × (held q k ≡ held r k)

  -- an act on concrete states, and the same act on their abstractions
  pub data SameAct (r : Concrete) : Act Concrete → Act Local → Type 0 where
    halts : {x : ℕ} → SameAct r (halt x) (halt x)
    advances : {q : Concrete} → KeepsHeld r q → SameAct r (advance q) (advance (abstraction q))
    loads : {a : ℕ} {f : ℕ → Concrete} → ((v : ℕ) → KeepsHeld r (f v)) → SameAct r (load a f) (load a (λ v. abstraction (f v)))
    stores : {a v : ℕ} {q : Concrete} → KeepsHeld r q → SameAct r (store a v q) (store a v (abstraction q))
    forks : {d : ℕ} {c q : Concrete}
        → ((k : ℕ) → ¬ (k ≡ d) → pending (abstraction q) k ≡ true → (pending (abstraction r) k ≡ true) × (held q k ≡ held r k))
        → ((k : ℕ) → pending (abstraction c) k ≡ false) → pending (abstraction q) d ≡ true
        → SameAct r (fork d c q) (fork d (abstraction c) (abstraction q))
    joins : {q : Concrete} {f : (ℕ → ℕ) → Local} → ((k : ℕ) → pending (abstraction q) k ≡ false)
        → ((vs : ℕ → ℕ) → ((k : ℕ) → pending (abstraction r) k ≡ true → vs k ≡ held r k) → f vs ≡ abstraction q) → SameAct r (join (λ _. q)) (join f)
    returns : {v : ℕ} → SameAct r (ret v) (ret v)

  -- what the tree's act is, from the thread's
  pub same-fork : {r c q : Concrete} {d : ℕ} {a : Act Concrete} {b : Act Local} → SameAct r a b → a ≡ fork d c q
      → (b ≡ fork d (abstraction c) (abstraction q))
      × ((e : ℕ) → ¬ (e ≡ d) → pending (abstraction q) e ≡ true → (pending (abstraction r) e ≡ true) × (held q e ≡ held r e))
      × ((e : ℕ) → pending (abstraction c) e ≡ false)
  same-fork halts h = let y : ◌≡◌ {A = ℕ} 0 1 = cc in absurd (omega arith)
  same-fork (advances _) h = let y : ◌≡◌ {A = ℕ} 0 1 = cc in absurd (omega arith)
  same-fork (loads _) h = let y : ◌≡◌ {A = ℕ} 0 1 = cc in absurd (omega arith)
  same-fork (stores _) h = let y : ◌≡◌ {A = ℕ} 0 1 = cc in absurd (omega arith)
  same-fork {r = r} {c = c} {q = q} {d = d} (forks {d = d'} {c = c'} {q = q'} x y _) h =
      let ed : d' ≡ d = cc in
      let ec : c' ≡ c = cc in
      let eq : q' ≡ q = cc in (
        cc,
        subst₂ (λ o z. (e : ℕ) → ¬ (e ≡ o) → pending (abstraction z) e ≡ true → (pending (abstraction r) e ≡ true) × (held z e ≡ held r e)) ed eq x,
        subst (λ o. (e : ℕ) → pending (abstraction o) e ≡ false) ec y,
      )
  same-fork (joins _ _) h = let y : ◌≡◌ {A = ℕ} 0 1 = cc in absurd (omega arith)
  same-fork returns h = let y : ◌≡◌ {A = ℕ} 0 1 = cc in absurd (omega arith)

  pub same-join : {r q : Concrete} {a : Act Concrete} {b : Act Local} → SameAct r a b → a ≡ join (λ _. q)
      → (f : (ℕ → ℕ) → Local) × (b ≡ join f) × ((k : ℕ) → pending (abstraction q) k ≡ false)
      × ((vs : ℕ → ℕ) → ((k : ℕ) → pending (abstraction r) k ≡ true → vs k ≡ held r k) → f vs ≡ abstraction q)
  same-join halts h = let y : ◌≡◌ {A = ℕ} 0 1 = cc in absurd (omega arith)
  same-join (advances _) h = let y : ◌≡◌ {A = ℕ} 0 1 = cc in absurd (omega arith)
  same-join (loads _) h = let y : ◌≡◌ {A = ℕ} 0 1 = cc in absurd (omega arith)
  same-join (stores _) h = let y : ◌≡◌ {A = ℕ} 0 1 = cc in absurd (omega arith)
  same-join (forks _ _ _) h = let y : ◌≡◌ {A = ℕ} 0 1 = cc in absurd (omega arith)
  same-join {r = r} {q = q} (joins {q = q'} {f = f} x y) h =
      let e : q' ≡ q = ap value_of h in (
        f,
        refl,
        subst (λ z. (k : ℕ) → pending (abstraction z) k ≡ false) e x,
        subst (λ z. (vs : ℕ → ℕ) → ((k : ℕ) → pending (abstraction r) k ≡ true → vs k ≡ held r k) → f vs ≡ abstraction z) e y,
      )
    where
      value_of : Act Concrete → Concrete
      value_of (halt _) = q
      value_of (advance _) = q
      value_of (load _ _) = q
      value_of (store _ _ _) = q
      value_of (fork _ _ _) = q
      value_of (join g) = g (λ _. 0)
      value_of (ret _) = q
  same-join returns h = let y : ◌≡◌ {A = ℕ} 0 1 = cc in absurd (omega arith)

  pub same-ret : {r : Concrete} {v : ℕ} {a : Act Concrete} {b : Act Local} → SameAct r a b → a ≡ ret v → b ≡ ret v
  same-ret halts h = let y : ◌≡◌ {A = ℕ} 0 1 = cc in absurd (omega arith)
  same-ret (advances _) h = let y : ◌≡◌ {A = ℕ} 0 1 = cc in absurd (omega arith)
  same-ret (loads _) h = let y : ◌≡◌ {A = ℕ} 0 1 = cc in absurd (omega arith)
  same-ret (stores _) h = let y : ◌≡◌ {A = ℕ} 0 1 = cc in absurd (omega arith)
  same-ret (forks _ _ _) h = let y : ◌≡◌ {A = ℕ} 0 1 = cc in absurd (omega arith)
  same-ret (joins _ _) h = let y : ◌≡◌ {A = ℕ} 0 1 = cc in absurd (omega arith)
  same-ret returns h = let y = h in cc

  pub same-halt : {r : Concrete} {x : ℕ} {a : Act Concrete} {b : Act Local} → SameAct r a b → a ≡ halt x → b ≡ halt x
  same-halt halts h = let y = h in cc
  same-halt (advances _) h = let y : ◌≡◌ {A = ℕ} 0 1 = cc in absurd (omega arith)
  same-halt (loads _) h = let y : ◌≡◌ {A = ℕ} 0 1 = cc in absurd (omega arith)
  same-halt (stores _) h = let y : ◌≡◌ {A = ℕ} 0 1 = cc in absurd (omega arith)
  same-halt (forks _ _ _) h = let y : ◌≡◌ {A = ℕ} 0 1 = cc in absurd (omega arith)
  same-halt (joins _ _) h = let y : ◌≡◌ {A = ℕ} 0 1 = cc in absurd (omega arith)
  same-halt returns h = let y : ◌≡◌ {A = ℕ} 0 1 = cc in absurd (omega arith)

-- `held` is what a slot holds, pending or not; `deliver` puts a child's value into a slot
pub record Carried (𝓛 : Language) : Type 1 where
  pub Concrete : Type 0
  pub abstraction : Concrete → Language.Local 𝓛
  pub held : Concrete → ℕ → ℕ
  pub deliver : Concrete → ℕ → ℕ → Concrete
  pub does : ℕ → Concrete → Act Concrete
  pub same : (n : ℕ) (r : Concrete) → SameAct 𝓛 Concrete abstraction held r (does n r) (Language.act 𝓛 n (abstraction r))
  pub deliver-abstraction : (r : Concrete) (d v : ℕ) → Language.pending 𝓛 (abstraction r) d ≡ true → abstraction (deliver r d v) ≡ abstraction r
  pub deliver-held : (r : Concrete) (d v : ℕ) → Language.pending 𝓛 (abstraction r) d ≡ true → held (deliver r d v) d ≡ v
  pub deliver-other : (r : Concrete) (d v k : ℕ) → ¬ (k ≡ d) → held (deliver r d v) k ≡ held r k
