-- What the theory asks of a command language. A thread's next command is an act computed from the thread's own state alone, and
-- a lawful act stays within the thread's rights: it reads and writes its window only, cuts a child's window off its own, forks only
-- into a slot that is not pending, and returns only when no slot is. Everything else about commands is left to the instance.
use mathlib.Core.Path.{◌≡◌}
use mathlib.Core.Bool.{Bool, false, true}
use Prim.Native.Nat.{◌≤◌, ℕ}
use Rattle.forkjoin.proofs.Rights.{Apart, Rights, Within}

-- what the next command of a thread does, where A is the thread's own state
pub data Act (A : Type 0) : Type 0 where
  -- it ends the run by this number
  halt : ℕ → Act A
  -- it changes the thread's own state
  advance : A → Act A
  -- it reads the word at an address
  load : ℕ → (ℕ → A) → Act A
  -- it makes the word at an address this value
  store : ℕ → ℕ → A → Act A
  -- it starts a child by this result slot, with the child's state and the parent's
  fork : ℕ → A → A → Act A
  -- it waits until all children have ended, and takes their results by slot
  join : ((ℕ → ℕ) → A) → Act A
  -- it returns this value
  ret : ℕ → Act A

module _ {A : Type 0} (Valid : A → Type 0) (pending : A → ℕ → Bool) (window whole : A → Rights) where
  -- the thread goes on from l as m: nothing stops being pending, the window does not grow
  pub record KeepLaw (l m : A) : Type 0 where
    pub valid : Valid m
    pub still-pending : (k : ℕ) → pending l k ≡ true → pending m k ≡ true
    pub shrinks : Within (window m) (window l)
    pub same_whole : (a : ℕ) → whole m a ≡ whole l a

  -- a child c is started by slot d, and the parent goes on as m: the child's window is cut off the parent's
  pub record ForkLaw (l : A) (d : ℕ) (c m : A) : Type 0 where
    pub parent-keeps : KeepLaw l m
    pub child-valid : Valid c
    pub fresh : pending l d ≡ false
    pub now-pending : pending m d ≡ true
    pub part : Within (whole c) (window l)
    pub own : Within (window c) (whole c)
    pub apart : Apart (window m) (whole c)

  abbrev pub Lawful : A → Act A → Type 0
  Lawful l (halt n) = Unit {0}
  Lawful l (advance m) = KeepLaw l m
  Lawful l (load a f) = (1 ≤ window l a) × ((v : ℕ) → KeepLaw l (f v))
  Lawful l (store a v m) = (2 ≤ window l a) × KeepLaw l m
  Lawful l (fork d c m) = ForkLaw l d c m
  Lawful l (join f) = (v : ℕ → ℕ) → ((a : ℕ) → whole (f v) a ≡ whole l a) × Within (window (f v)) (whole (f v)) × Valid (f v)
  Lawful l (ret v) = (k : ℕ) → pending l k ≡ false

-- A command language. `act` takes the thread's depth in the tree (the root's is 0); `window` is what the thread may touch now,
-- `whole` what it may touch once its children have ended.
pub record Language : Type 1 where
  pub Local : Type 0
  pub act : ℕ → Local → Act Local
  pub cost : Local → ℕ
  pub pending : Local → ℕ → Bool
  pub window : Local → Rights
  pub whole : Local → Rights
  pub Valid : Local → Type 0
  pub lawful : (n : ℕ) (l : Local) → Valid l → Lawful Valid pending window whole l (act n l)

-- the laws, for a language
abbrev pub LawfulAct : (𝓛 : Language) → Language.Local 𝓛 → Act (Language.Local 𝓛) → Type 0
LawfulAct 𝓛 l a = Lawful (Language.Valid 𝓛) (Language.pending 𝓛) (Language.window 𝓛) (Language.whole 𝓛) l a

abbrev pub LawfulKeep : (𝓛 : Language) → Language.Local 𝓛 → Language.Local 𝓛 → Type 0
LawfulKeep 𝓛 l m = KeepLaw (Language.Valid 𝓛) (Language.pending 𝓛) (Language.window 𝓛) (Language.whole 𝓛) l m

abbrev pub LawfulFork : (𝓛 : Language) → Language.Local 𝓛 → ℕ → Language.Local 𝓛 → Language.Local 𝓛 → Type 0
LawfulFork 𝓛 l d c m = ForkLaw (Language.Valid 𝓛) (Language.pending 𝓛) (Language.window 𝓛) (Language.whole 𝓛) l d c m
