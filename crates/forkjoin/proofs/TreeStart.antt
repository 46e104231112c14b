-- The start of a run: one live thread, the root, and nothing else. It has the invariant, so all that is shown of runs holds of the
-- runs from it.
use mathlib.Core.Path.{◌≡◌, refl, subst}
use mathlib.Core.List.{[], ◌∷◌}
use Prim.Native.Nat.{ℕ}
use native.Mathlib.Omega.{arith}
use Rattle.forkjoin.proofs.TaskName.{TaskName, ◌⊑◌, here}
use Rattle.forkjoin.proofs.Rights.{Within}
use Rattle.forkjoin.proofs.Language.{Language}
use Rattle.forkjoin.proofs.TaskTree.{Node, State, live, none}
use Rattle.forkjoin.proofs.Invariant.{Invariant}

module _ (𝓛 : Language) where
  open 𝓛 use {Local, window, whole, Valid}

  -- the start: one live thread, the root
  unfoldable pub begin : Local → (ℕ → ℕ) → State Local
  begin l m = record { at = root; memory = m; units = 0 }
    where
      root : TaskName → Node Local
      root [] = live l
      root (_ ∷ _) = none

  pub begin-inv : (l : Local) (m : ℕ → ℕ) → Valid l → Within (window l) (whole l) → Invariant 𝓛 (begin l m)
  unfolding begin
  begin-inv l m v w = record {
    tree = λ k p x. absurd x;
    valid = λ p k e. okay p k e;
    owns = λ p k e. own p k e;
    above = λ p q k j e e1 u d. absurd (apart p q k j e e1 d);
    beside = λ p q k j e e1 u d. absurd (apart p q k j e e1 (λ x. u (subst (λ y. p ⊑ y) x here)));
  }
    where
      no-thread : (k : Local) → none ≡ live k → ⊥
      no-thread k e = let z : ◌≡◌ {A = ℕ} 0 1 = cc in omega arith

      okay : (p : TaskName) (k : Local) → (begin l m).at p ≡ live k → Valid k
      okay [] k e = let z : l ≡ k = cc in subst Valid z v
      okay (_ ∷ _) k e = absurd (no-thread k e)

      own : (p : TaskName) (k : Local) → (begin l m).at p ≡ live k → Within (window k) (whole k)
      own [] k e = let z : l ≡ k = cc in subst (λ y. Within (window y) (whole y)) z w
      own (_ ∷ _) k e = absurd (no-thread k e)

      apart : (p q : TaskName) (k j : Local) → (begin l m).at p ≡ live k → (begin l m).at q ≡ live j → ¬ (p ≡ q) → ⊥
      apart [] [] k j e e1 d = d refl
      apart [] (_ ∷ _) k j e e1 d = no-thread j e1
      apart (_ ∷ _) q k j e e1 d = no-thread k e
