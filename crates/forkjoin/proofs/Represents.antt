-- A pool represents a tree state under a naming of its threads: the threads in use are the live ones, with their parents; a
-- pending slot's child is live, or has ended with the value that the slot holds; words and units are the same.
use mathlib.Core.Path.{◌≡◌}
use mathlib.Core.List.{[], ◌∷◌}
use mathlib.Core.Bool.{true}
use Prim.Native.Nat.{ℕ}
use Rattle.forkjoin.proofs.TaskName.{TaskName}
use Rattle.forkjoin.proofs.Language.{Language}
use Rattle.forkjoin.proofs.TaskTree.{Node, State, ended, live, none}
use Rattle.forkjoin.proofs.Carried.{Carried}
use Rattle.forkjoin.proofs.ThreadPool.{Link, Pool, child, root, used}

module _ (𝓛 : Language) (𝓒 : Carried 𝓛) where
  open 𝓛 use {Local, pending}
  open 𝓒 use {Concrete, abstraction, held}

  -- the node of a pending slot's child, and the value held in the slot
  abbrev pub Fits : Node Local → ℕ → Type 0
  Fits none v = ⊥
  Fits (live l) v = Unit {0}
  Fits (ended w) v = w ≡ v

  pub record Represents (name : ℕ → TaskName) (M : Pool Concrete) (s : State Local) : Type 0 where
    -- a thread in use is live at its name, and names are distinct
    pub alive : (t : ℕ) (r : Concrete) (k : Link) → M.cell t ≡ used r k → s.at (name t) ≡ live (abstraction r)
    pub distinct : (t u : ℕ) (r r' : Concrete) (k k' : Link) → M.cell t ≡ used r k → M.cell u ≡ used r' k' → name t ≡ name u → t ≡ u
    -- the root's name, and a child's by its parent's
    pub root-name : (t : ℕ) (r : Concrete) → M.cell t ≡ used r root → name t ≡ []
    pub child-name : (t : ℕ) (r : Concrete) (q d : ℕ) → M.cell t ≡ used r (child q d)
        → (r' : Concrete) × (k' : Link) × (M.cell q ≡ used r' k') × (name t ≡ d ∷ name q)
    -- every live task has a thread number
    pub numbered : (x : TaskName) (l : Local) → s.at x ≡ live l → (t : ℕ) × (r : Concrete) × (k : Link) × (M.cell t ≡ used r k) × (name t ≡ x)
    -- a pending slot's child is live, or has ended with the value held there
    pub slot-fits : (t : ℕ) (r : Concrete) (k : Link) (d : ℕ) → M.cell t ≡ used r k → pending (abstraction r) d ≡ true
        → Fits (s.at (d ∷ name t)) (held r d)
    pub same_memory : s.memory ≡ M.words
    pub same_units : s.units ≡ M.units
