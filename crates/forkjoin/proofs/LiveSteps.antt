-- Tasks that are live have a step each ahead of them: in a run that finishes, m different live tasks step m times at least
-- (`live-steps`). By induction on the run: a step leaves every other live task live, so where one of the names steps, the last name takes its
-- place. Assumes the tree's invariant at the start, and that the run finishes.
use mathlib.Core.Path.{◌∙◌, ◌≡◌, ap, sym}
use mathlib.Core.Logic.{ite}
use Prim.Native.Nat.{◌<◌, ◌≤◌, suc, zero, ℕ}
use native.Mathlib.Omega.{arith}
use lib.ListN.{length}
use Rattle.forkjoin.proofs.Confluence.{Steps, stop, then}
use Rattle.forkjoin.proofs.TaskName.{TaskName, same-name?}
use Rattle.forkjoin.proofs.Language.{Language}
use Rattle.forkjoin.proofs.TaskTree.{Finished, State, Step, live}
use Rattle.forkjoin.proofs.Invariant.{Invariant}
use Rattle.forkjoin.proofs.Independence.{leaves-thread}
use Rattle.forkjoin.proofs.Diamond.{finished-no-thread}
use Rattle.forkjoin.proofs.Preservation.{kept}

-- the first m + 1 names but q, where q is one of them: the last one stands in its place
others : (q : TaskName) (m : ℕ) (name : ℕ → TaskName) → ℕ → TaskName
others q m name i = ite (same-name? (name i) q) (name m) (name i)

-- the first m names are different
Different : ℕ → (ℕ → TaskName) → Type 0
Different m name = (i k : ℕ) → i < m → k < m → name i ≡ name k → i ≡ k

-- each of the others is one of the first m + 1 names, and not q
others-are : (q : TaskName) (m : ℕ) (name : ℕ → TaskName) → Different (suc m) name → (i : ℕ) → i < m
    → (k : ℕ) × (k < suc m) × (others q m name i ≡ name k) × ¬ (name k ≡ q)
unfolding others Different
others-are q m name apart i h = go (same-name? (name i) q)
  where
    go : (o : Dec (name i ≡ q)) → (k : ℕ) × (k < suc m) × (ite o (name m) (name i) ≡ name k) × ¬ (name k ≡ q)
    go (yes e) = (m, omega arith, cc, λ e'. let z = apart i m (omega arith) (omega arith) (e ∙ sym e') in omega arith)
    go (no d) = (i, omega arith, cc, d)

-- they are different
others_apart : (q : TaskName) (m : ℕ) (name : ℕ → TaskName) → Different (suc m) name → Different m (others q m name)
unfolding others Different
others_apart q m name apart i j h k = go (same-name? (name i) q) (same-name? (name j) q)
  where
    go : (o : Dec (name i ≡ q)) (p : Dec (name j ≡ q)) → ite o (name m) (name i) ≡ ite p (name m) (name j) → i ≡ j
    go (yes e) (yes e') x = apart i j (omega arith) (omega arith) (e ∙ sym e')
    go (yes e) (no d) x = let z = apart m j (omega arith) (omega arith) x in absurd (omega arith)
    go (no d) (yes e) x = let z = apart i m (omega arith) (omega arith) x in absurd (omega arith)
    go (no d) (no d') x = apart i j (omega arith) (omega arith) x

module _ (𝓛 : Language) where
  open 𝓛 use {Local, act, lawful}

  -- a step leaves every other live task live
  stays-live : (q : TaskName) (s t : State Local) → Invariant 𝓛 s → Step 𝓛 q s t → (p : TaskName) (l : Local) → s.at p ≡ live l → ¬ (p ≡ q)
      → t.at p ≡ live l
  stays-live q s t i m p l h d =
      ap (λ z. z.at p) m.result
      ∙ leaves-thread 𝓛 s i q m.who (act (length q) m.who) (lawful (length q) m.who (i.valid q m.who m.there)) m.enabled m.there p l h d _ _
      ∙ h

  pub live-steps : {n : ℕ} {s f : State Local} → Invariant 𝓛 s → Finished 𝓛 f → Steps (Step 𝓛) n s f
      → (m : ℕ) (name : ℕ → TaskName) → ((i : ℕ) → i < m → (l : Local) × (s.at (name i) ≡ live l))
      → ((i k : ℕ) → i < m → k < m → name i ≡ name k → i ≡ k) → m ≤ n
  unfolding Different
  live-steps i e r zero name alive apart = omega arith
  live-steps {s = s} i e stop (suc m) name alive apart =
      let (l, h) = alive 0 (omega arith) in absurd (finished-no-thread 𝓛 (name 0) s l i e h)
  live-steps i e (then {p = q} {s = s} {t = t} {n = n} g r) (suc m) name alive apart =
      let rest = live-steps {n = n} (kept 𝓛 q s t i g) e r m (others q m name) still (others_apart q m name apart) in omega arith
    where
      still : (x : ℕ) → x < m → (l : Local) × (t.at (others q m name x) ≡ live l)
      still x h =
          let (k, low, same, d) = others-are q m name apart x h in
          let (l, there) = alive k low in
          (l, ap t.at same ∙ stays-live q s t i g (name k) l there d)
