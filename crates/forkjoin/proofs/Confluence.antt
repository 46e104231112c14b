-- Confluence, over any states, labels and step relation. Two steps with different labels commute (the diamond), so every run
-- that finishes ends in the same state after the same number of steps (`unique`), and no run from that start comes to a
-- label that is halted for good (`never`). `TreeConfluence` shows that the task tree has these laws.
use mathlib.Core.Path.{◌≡◌, ap, refl, subst, sym}
use Prim.Native.Nat.{◌+◌, suc, zero, ℕ}
use native.Mathlib.Omega.{arith}

-- the laws asked of a step relation, its halts, an invariant and the finished states
pub record Laws (S L : Type 0) (Step : L → S → S → Type 0) (Halts : L → S → ℕ → Type 0) (Invariant Finished : S → Type 0) : Type 0 where
  pub same-label? : Discrete L
  -- a step keeps the invariant
  pub kept : (p : L) (s t : S) → Invariant s → Step p s t → Invariant t
  -- a label has one step from a state
  pub deterministic : (p : L) (s t u : S) → Step p s t → Step p s u → t ≡ u
  -- steps of different labels commute
  pub diamond : (p q : L) (s t u : S) → Invariant s → ¬ (p ≡ q) → Step p s t → Step q s u → (v : S) × Step q t v × Step p u v
  -- a halted label stays halted, whatever others do
  pub halt-lasts : (p q : L) (s t : S) (n : ℕ) → Invariant s → Halts p s n → Step q s t → Halts p t n
  -- a finished state has no step and no halt
  pub finished-still : (p : L) (s t : S) → Invariant s → Finished s → Step p s t → ⊥
  pub finished-no-halt : (p : L) (s : S) (n : ℕ) → Invariant s → Finished s → Halts p s n → ⊥

-- a run of n steps
pub data Steps {S L : Type 0} (Step : L → S → S → Type 0) : ℕ → S → S → Type 0 where
  stop : {s : S} → Steps Step zero s s
  then : {p : L} {s t u : S} {n : ℕ} → Step p s t → Steps Step n t u → Steps Step (suc n) s u

module _ {S L : Type 0} {Step : L → S → S → Type 0} {Halts : L → S → ℕ → Type 0} {Invariant Finished : S → Type 0}
    (law : Laws S L Step Halts Invariant Finished) where
  pub kept-steps : {n : ℕ} {s t : S} → Invariant s → Steps Step n s t → Invariant t
  kept-steps i stop = i
  kept-steps i (then m r) = kept-steps (law.kept _ _ _ i m) r

  count : {n m : ℕ} {s t : S} → n ≡ m → Steps Step n s t → Steps Step m s t
  count {s = s} {t = t} e r = subst (λ k. Steps Step k s t) e r

  pub glue : {n m : ℕ} {s t u : S} → Steps Step n s t → Steps Step m t u → Steps Step (n + m) s u
  glue stop r = count (omega arith) r
  glue (then m r) k = count (omega arith) (then m (glue r k))

  -- a first step may be any step that can be made
  pub first : {n : ℕ} {s f t : S} {p : L} → Invariant s → Finished f → Steps Step n s f → Step p s t
      → (m : ℕ) × (n ≡ suc m) × Steps Step m t f
  first i e stop m = absurd (law.finished-still _ _ _ i e m)
  first {t = t'} {p = p} i e (then {p = q} {s = s} {t = t} {u = f} {n = n} m r) k =
      go (law.same-label? p q) (λ v b. first (law.kept q s t i m) e r b)
    where
      go : Dec (p ≡ q) → ((v : S) → Step p t v → (m : ℕ) × (n ≡ suc m) × Steps Step m v f)
          → (m : ℕ) × (suc n ≡ suc m) × Steps Step m t' f
      go (yes h) _ = (n, refl, subst (λ z. Steps Step n z f) (law.deterministic q s t t' m (subst (λ z. Step z s t') h k)) r)
      go (no d) ih =
          let (v, a, b) = law.diamond p q s t' t i d k m in
          let (x, e1, c) = ih v b in
          (suc x, ap suc e1, then a c)

  -- however far a run has come, the finish that some run has is still ahead, by the steps that are left
  pub ahead : {n k : ℕ} {s f t : S} → Invariant s → Finished f → Steps Step n s f → Steps Step k s t
      → (m : ℕ) × (n ≡ k + m) × Steps Step m t f
  ahead {n = n} i e r stop = (n, omega arith, r)
  ahead {n = n} {f = f} i e r (then {p = p} {s = s} {t = t} {u = u} {n = k} a b) =
      let (m, e1, r1) = first i e r a in
      let (x, e2, r2) = ahead {n = m} (law.kept _ _ _ i a) e r1 b in
      (x, omega arith, r2)

  ends : {n : ℕ} {s t : S} → Invariant s → Finished s → Steps Step n s t → (n ≡ zero) × (s ≡ t)
  ends i e stop = (refl, refl)
  ends i e (then m r) = absurd (law.finished-still _ _ _ i e m)

  -- two runs that finish agree, in the state and in the number of steps
  pub unique : {n k : ℕ} {s f g : S} → Invariant s → Finished f → Finished g → Steps Step n s f → Steps Step k s g → (n ≡ k) × (f ≡ g)
  unique {f = f} {g = g} i e e' r r' =
      let (m, e1, r1) = ahead i e r r' in
      let (z, h) = ends (kept-steps i r') e' r1 in
      (omega arith, sym h)

  lasting : {n k : ℕ} {p : L} {s t : S} → Invariant s → Halts p s k → Steps Step n s t → Halts p t k
  lasting i h stop = h
  lasting i h (then m r) = lasting (law.kept _ _ _ i m) (law.halt-lasts _ _ _ _ _ i h m) r

  -- where some run finishes, no run comes to a thread that is halted
  pub never : {n k x : ℕ} {p : L} {s f t : S} → Invariant s → Finished f → Steps Step n s f → Steps Step k s t → Halts p t x → ⊥
  never i e r r' h =
      let (m, e1, r1) = ahead i e r r' in
      law.finished-no-halt _ _ _ (kept-steps i r) e (lasting (kept-steps i r') h r1)
