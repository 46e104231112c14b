-- Names of tasks: a task is named by the result slots that lead to it from the root, the last one first, so the root is [] and
-- the child that p forked with result slot k is k ∷ p. Unlike a thread number, a name does not depend on the order of steps.
-- `Place` says how one name lies to another; `p ⊑ q` says that p is q or an ancestor of q.
use mathlib.Core.Path.{◌≡◌, ap, refl, subst, sym}
use mathlib.Core.List.{List, [], ◌∷◌}
use mathlib.Core.Logic.{◌⊎◌, inl, inr}
use Prim.Native.Nat.{◌≤◌, ℕ}
use native.Mathlib.Decide.{ℕ_discrete}
use native.Mathlib.Omega.{arith}
use lib.ListN.{length}

infix 4 ◌⊑◌
abbrev pub TaskName : Type 0
TaskName = List ℕ

pub same-name? : Discrete TaskName
same-name? [] [] = yes refl
same-name? [] (y ∷ ys) = no (λ e. let z : ◌≡◌ {A = ℕ} 0 1 = cc in omega arith)
same-name? (x ∷ xs) [] = no (λ e. let z : ◌≡◌ {A = ℕ} 0 1 = cc in omega arith)
same-name? (x ∷ xs) (y ∷ ys) = both (ℕ_discrete x y) (same-name? xs ys)
  where
    both : Dec (x ≡ y) → Dec (xs ≡ ys) → Dec (x ∷ xs ≡ y ∷ ys)
    both (yes a) (yes b) = yes (cc)
    both (yes a) (no h) = no (λ e. h (cc))
    both (no h) _ = no (λ e. h (cc))

pub tail-eq : {j k : ℕ} {p q : TaskName} → j ∷ p ≡ k ∷ q → p ≡ q
tail-eq e = cc

pub head-eq : {j k : ℕ} {p q : TaskName} → j ∷ p ≡ k ∷ q → j ≡ k
head-eq e = cc

pub not-own-child : {k : ℕ} {p : TaskName} → p ≡ k ∷ p → ⊥
not-own-child {k = k} {p = p} e = let h : length p ≡ length (k ∷ p) = ap length e in omega arith

-- where x stands seen from p: it is p, a child of p, or neither
pub data Place (p x : TaskName) : Type 0 where
  itself : x ≡ p → Place p x
  its-child : (k : ℕ) → x ≡ k ∷ p → Place p x
  elsewhere : ¬ (x ≡ p) → ((k : ℕ) → ¬ (x ≡ k ∷ p)) → Place p x

pub place_of : (p x : TaskName) → Place p x
place_of p x = start (same-name? x p) x refl
  where
    later : (y : TaskName) → x ≡ y → ¬ (x ≡ p) → (k : ℕ) (r : TaskName) → x ≡ k ∷ r → Dec (r ≡ p) → Place p x
    later y e n k r h (yes a) = its-child k (cc)
    later y e n k r h (no b) = elsewhere n (λ j c. b (tail-eq {j = k} {k = j} (cc)))

    start : Dec (x ≡ p) → (y : TaskName) → x ≡ y → Place p x
    start (yes h) _ _ = itself h
    start (no h) [] e = elsewhere h (λ k c. let z : ◌≡◌ {A = ℕ} 0 1 = cc in omega arith)
    start (no h) (k ∷ r) e = later (k ∷ r) e h k r e (same-name? r p)

-- p is q or an ancestor of q
pub data ◌⊑◌ : TaskName → TaskName → Type 0 where
  here : {p : TaskName} → p ⊑ p
  down : {p q : TaskName} {k : ℕ} → p ⊑ q → p ⊑ (k ∷ q)

pub ⊑-parent : {k : ℕ} {p q : TaskName} → (k ∷ p) ⊑ q → p ⊑ q
⊑-parent here = down here
⊑-parent (down h) = down (⊑-parent h)

pub ⊑-length : {p q : TaskName} → p ⊑ q → length p ≤ length q
⊑-length here = omega arith
⊑-length (down h) = let i = ⊑-length h in omega arith

pub not-under-self : {k : ℕ} {p : TaskName} → (k ∷ p) ⊑ p → ⊥
not-under-self {k = k} {p = p} h = let i = ⊑-length h in omega arith

-- an ancestor of a child is the child, or an ancestor of its parent
pub ⊑-child : {k : ℕ} {p q : TaskName} → q ⊑ (k ∷ p) → (q ≡ k ∷ p) ⊎ (q ⊑ p)
⊑-child here = inl refl
⊑-child (down h) = inr h

-- what stands below p stands below, or is, a child of p
pub ⊑-through-child : {p q : TaskName} → p ⊑ q → ¬ (p ≡ q) → (k : ℕ) × ((k ∷ p) ⊑ q)
⊑-through-child {p = p} here n = absurd (n refl)
⊑-through-child {p = p} (down {q = q} {k = k} h) n = go (same-name? p q) (λ m. ⊑-through-child h m)
  where
    go : Dec (p ≡ q) → (¬ (p ≡ q) → (j : ℕ) × ((j ∷ p) ⊑ q)) → (j : ℕ) × ((j ∷ p) ⊑ (k ∷ q))
    go (yes e) _ = (k, subst (λ z. (k ∷ z) ⊑ (k ∷ q)) (sym e) here)
    go (no m) f = let (j, r) = f m in (j, down r)

pub ⊑? : (p q : TaskName) → Dec (p ⊑ q)
⊑? p [] = go p
  where
    go : (p : TaskName) → Dec (p ⊑ [])
    go [] = yes here
    go (x ∷ xs) = no (λ h. let i = ⊑-length h in omega arith)
⊑? p (k ∷ q) = go (⊑? p q) (same-name? p (k ∷ q))
  where
    go : Dec (p ⊑ q) → Dec (p ≡ k ∷ q) → Dec (p ⊑ (k ∷ q))
    go (yes h) _ = yes (down h)
    go (no h) (yes e) = yes (subst (λ z. z ⊑ (k ∷ q)) (sym e) here)
    go (no h) (no e) = no (λ t. elim (⊑-child t) [ inl a ↦ e a | inr b ↦ h b ])
