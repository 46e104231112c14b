-- The start of a pool: thread 0 is the root, all other numbers are free. It represents the tree's start, so every run of a pool from
-- here simulates a run of the tree.
use mathlib.Core.Path.{◌≡◌, ap, refl}
use mathlib.Core.List.{[], ◌∷◌}
use mathlib.Core.Bool.{false, true}
use Prim.Native.Nat.{suc, zero, ℕ}
use native.Mathlib.Omega.{arith}
use Rattle.forkjoin.proofs.TaskName.{TaskName}
use Rattle.forkjoin.proofs.Language.{Language}
use Rattle.forkjoin.proofs.TaskTree.{live}
use Rattle.forkjoin.proofs.TreeStart.{begin}
use Rattle.forkjoin.proofs.Carried.{Carried}
use Rattle.forkjoin.proofs.ThreadPool.{Cell, Link, Pool, child, free, root, used}
use Rattle.forkjoin.proofs.Represents.{Fits, Represents}
use Rattle.forkjoin.proofs.DepthBound.{Limited}

module _ (𝓛 : Language) (𝓒 : Carried 𝓛) (r : Carried.Concrete 𝓒) (m : ℕ → ℕ) where
  open 𝓛 use {Local, pending}
  open 𝓒 use {Concrete, abstraction, held}

  abbrev pub start-cells : ℕ → Cell Concrete
  start-cells zero = used r root
  start-cells (suc _) = free

  abbrev pub start : Pool Concrete
  start = record { cell = start-cells; words = m; units = 0 }

  pub start-limited : (limit : ℕ) → Limited 𝓛 𝓒 limit start
  start-limited limit zero h = absurd (omega arith)
  start-limited limit (suc _) h = refl

  module _ (bare : (k : ℕ) → pending (abstraction r) k ≡ false) where
    pub start-represents : Represents 𝓛 𝓒 (λ _. []) start (begin 𝓛 (abstraction r) m)
    unfolding begin
    start-represents = record {
      alive = alive;
      distinct = distinct;
      root-name = λ t q h. refl;
      child-name = child-name;
      numbered = numbered;
      slot-fits = slot-fits;
      same_memory = refl;
      same_units = refl;
    }
      where
        alive : (t : ℕ) (q : Concrete) (k : Link) → start-cells t ≡ used q k → (begin 𝓛 (abstraction r) m).at [] ≡ live (abstraction q)
        alive zero q k h = let e : r ≡ q = cc in ap (λ z. live (abstraction z)) e
        alive (suc _) q k h = let y : ◌≡◌ {A = ℕ} 0 1 = cc in absurd (omega arith)

        distinct : (t u : ℕ) (q q' : Concrete) (k k' : Link) → start-cells t ≡ used q k → start-cells u ≡ used q' k' → ◌≡◌ {A = TaskName} [] []
            → t ≡ u
        distinct zero zero q q' k k' h h' e = refl
        distinct zero (suc _) q q' k k' h h' e = let y : ◌≡◌ {A = ℕ} 0 1 = cc in absurd (omega arith)
        distinct (suc _) u q q' k k' h h' e = let y : ◌≡◌ {A = ℕ} 0 1 = cc in absurd (omega arith)

        child-name : (t : ℕ) (q : Concrete) (u d : ℕ) → start-cells t ≡ used q (child u d)
            → (q' : Concrete) × (k' : Link) × (start-cells u ≡ used q' k') × (◌≡◌ {A = TaskName} [] (d ∷ []))
        child-name zero q u d h = let y : ◌≡◌ {A = ℕ} 0 1 = cc in absurd (omega arith)
        child-name (suc _) q u d h = let y : ◌≡◌ {A = ℕ} 0 1 = cc in absurd (omega arith)

        numbered : (x : TaskName) (l : Local) → (begin 𝓛 (abstraction r) m).at x ≡ live l
            → (t : ℕ) × (q : Concrete) × (k : Link) × (start-cells t ≡ used q k) × (◌≡◌ {A = TaskName} [] x)
        numbered [] l h = (0, r, root, refl, refl)
        numbered (_ ∷ _) l h = let y : ◌≡◌ {A = ℕ} 0 1 = cc in absurd (omega arith)

        slot-fits : (t : ℕ) (q : Concrete) (k : Link) (d : ℕ) → start-cells t ≡ used q k → pending (abstraction q) d ≡ true
            → Fits 𝓛 𝓒 ((begin 𝓛 (abstraction r) m).at (d ∷ [])) (held q d)
        slot-fits zero q k d h p = let e : r ≡ q = cc in let b = bare d in let y : ◌≡◌ {A = ℕ} 0 1 = cc in absurd (omega arith)
        slot-fits (suc _) q k d h p = let y : ◌≡◌ {A = ℕ} 0 1 = cc in absurd (omega arith)
