-- The task tree: fork and join without cores, queues, stacklets and thread numbers. A state maps every task name to a node,
-- every address to a word, and counts units; any live thread whose command is enabled may step. A returned value stays at the
-- child's own node until the parent's join takes it, so a return never touches the parent.
use mathlib.Core.Path.{◌≡◌}
use mathlib.Core.List.{[], ◌∷◌}
use mathlib.Core.Logic.{ite}
use Prim.Native.Nat.{◌+◌, ℕ}
use native.Mathlib.Decide.{ℕ_discrete}
use lib.ListN.{length}
use Rattle.forkjoin.proofs.TaskName.{Place, TaskName, elsewhere, its-child, itself, place_of}
use Rattle.forkjoin.proofs.Language.{Act, Language, advance, fork, halt, join, load, ret, store}

-- a name's node: no task, a live thread, or the value of a task that has ended and that no join has taken yet
pub data Node (A : Type 0) : Type 0 where
  none : Node A
  live : A → Node A
  ended : ℕ → Node A

pub record State (A : Type 0) : Type 0 where
  pub at : TaskName → Node A
  pub memory : ℕ → ℕ
  pub units : ℕ

module _ {A : Type 0} where
  -- the value of a task that has ended
  abbrev pub value : Node A → ℕ
  value none = 0
  value (live l) = 0
  value (ended v) = v

  -- a join passes over this node
  abbrev pub NotLive : Node A → Type 0
  NotLive none = Unit {0}
  NotLive (live l) = ⊥
  NotLive (ended v) = Unit {0}

  -- there is a task, live or ended
  abbrev pub Present : Node A → Type 0
  Present none = ⊥
  Present (live l) = Unit {0}
  Present (ended v) = Unit {0}

  -- what an act makes of the thread's own node, from the words and the children's nodes
  abbrev pub own-after : Act A → (ℕ → ℕ) → (ℕ → Node A) → Node A
  own-after (halt n) m k = none
  own-after (advance l) m k = live l
  own-after (load a f) m k = live (f (m a))
  own-after (store a v l) m k = live l
  own-after (fork d c l) m k = live l
  own-after (join f) m k = live (f (λ d. value (k d)))
  own-after (ret v) m k = ended v

  -- what it makes of the node of child k
  abbrev pub child-after : Act A → ℕ → Node A → Node A
  child-after (halt n) k x = x
  child-after (advance l) k x = x
  child-after (load a f) k x = x
  child-after (store a v l) k x = x
  child-after (fork d c l) k x = ite (ℕ_discrete k d) (live c) x
  child-after (join f) k x = none
  child-after (ret v) k x = x

  -- what it makes of the word x at address a
  abbrev pub word_after : Act A → ℕ → ℕ → ℕ
  word_after (halt n) a x = x
  word_after (advance l) a x = x
  word_after (load b f) a x = x
  word_after (store b v l) a x = ite (ℕ_discrete a b) v x
  word_after (fork d c l) a x = x
  word_after (join f) a x = x
  word_after (ret v) a x = x

  -- when it can be done: a join waits until no child is live, and a halt is never done
  abbrev pub Enabled : Act A → (ℕ → Node A) → Type 0
  Enabled (halt n) k = ⊥
  Enabled (advance l) k = Unit {0}
  Enabled (load a f) k = Unit {0}
  Enabled (store a v l) k = Unit {0}
  Enabled (fork d c l) k = Unit {0}
  Enabled (join f) k = (d : ℕ) → NotLive (k d)
  Enabled (ret v) k = Unit {0}

  abbrev pub children-of : State A → TaskName → ℕ → Node A
  children-of s p d = s.at (d ∷ p)

  -- a node by its place: the thread's own, a child's, or any other, which stays
  abbrev pub by_place : {p x : TaskName} → Place p x → Node A → (ℕ → Node A → Node A) → Node A → Node A
  by_place (itself h) n f x = n
  by_place (its-child k h) n f x = f k x
  by_place (elsewhere h i) n f x = x

  -- the node of x after thread p did the act a
  abbrev pub node-after : TaskName → Act A → State A → TaskName → Node A
  node-after p a s x = by_place (place_of p x) (own-after a s.memory (children-of s p)) (child-after a) (s.at x)

  -- the state after thread p did the act a at the cost w
  abbrev pub after : TaskName → ℕ → Act A → State A → State A
  after p w a s = record {
    at = λ x. node-after p a s x;
    memory = λ x. word_after a x (s.memory x);
    units = s.units + w;
  }

module _ (𝓛 : Language) where
  open 𝓛 use {Local, act, cost}

  -- thread p steps from s to t
  pub record Step (p : TaskName) (s t : State Local) : Type 0 where
    pub who : Local
    pub there : s.at p ≡ live who
    pub enabled : Enabled (act (length p) who) (children-of s p)
    pub result : t ≡ after p (cost who) (act (length p) who) s

  -- thread p's command halts, by the number n
  pub record Halts (p : TaskName) (s : State Local) (n : ℕ) : Type 0 where
    pub who : Local
    pub there : s.at p ≡ live who
    pub why : act (length p) who ≡ halt n

  -- the root has returned
  pub record Finished (s : State Local) : Type 0 where
    pub result : ℕ
    pub root : s.at [] ≡ ended result
