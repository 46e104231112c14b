-- A thread's own state, and its next command as an act of the fork-join theory. `effect_of` says what the command does; the act says
-- what becomes of the thread. The tree's acts and those of a machine differ in two places only: what the slots are behind a fork,
-- and what a join does with the children's values.
use mathlib.Core.Path.{◌≡◌}
use mathlib.Core.Option.{Option, none, some}
use mathlib.Core.Bool.{Bool, true, false, cond}
use Prim.Native.Nat.{ℕ, ◌+◌, ◌≤◌}
use lib.Dec.{ltb}
use Rattle.forkjoin.proofs.Update.{update}
use Rattle.forkjoin.proofs.Language.{Act, halt, advance, load, store, fork, join, ret}
use Rattle.forkjoin.proofs.Windows.{Windows}
use Rattle.command.specs.declared.Command.{Command}
use Rattle.thread.specs.declared.Effect.{Effect}
use Rattle.thread.specs.Effect.{number_of_fault}
use Rattle.thread.specs.declared.Effect.TheVariants.{Faults, Sets, Loads, Stores, Goes, Continues, Lforks, Forks, Joins, Suspends, Yields, Returns, Shares}
use Rattle.thread.specs.Effect.{Context, effect_of}
use Rattle.thread.proofs.Routines.{Code}

-- tests of a window that say what its rights are; addresses below 32 are parameter words, to which windows give no right
pub record WindowTests (𝓦 : Windows) : Type 0 where
  pub may_load : Windows.W 𝓦 → ℕ → Bool
  pub may_store : Windows.W 𝓦 → ℕ → Bool
  pub may_cut : Windows.W 𝓦 → ℕ → Bool
  pub may_share : Windows.W 𝓦 → ℕ → Bool
  pub load-allowed : (w : Windows.W 𝓦) (a : ℕ) → 32 ≤ a → may_load w a ≡ true → 1 ≤ Windows.now 𝓦 w a
  pub load-refused : (w : Windows.W 𝓦) (a : ℕ) → Windows.Fit 𝓦 w → may_load w a ≡ false → (32 ≤ a) × (Windows.now 𝓦 w a ≡ 0)
  pub store-allowed : (w : Windows.W 𝓦) (a : ℕ) → may_store w a ≡ true → 2 ≤ Windows.now 𝓦 w a
  pub store-refused : (w : Windows.W 𝓦) (a : ℕ) → Windows.Fit 𝓦 w → may_store w a ≡ false → Windows.now 𝓦 w a ≤ 1
  pub cut-refused : (w : Windows.W 𝓦) (e : ℕ) → may_cut w e ≡ false → Windows.cut 𝓦 w e ≡ none
  pub cut-allowed : (w : Windows.W 𝓦) (e : ℕ) → may_cut w e ≡ true
      → (c : Windows.W 𝓦) × (r : Windows.W 𝓦) × (Windows.cut 𝓦 w e ≡ some (c, r))
  pub share-refused : (w : Windows.W 𝓦) (s : ℕ) → may_share w s ≡ false → Windows.share 𝓦 w s ≡ none
  pub share-allowed : (w : Windows.W 𝓦) (s : ℕ) → may_share w s ≡ true → (r : Windows.W 𝓦) × (Windows.share 𝓦 w s ≡ some r)

-- an open routine
pub record ThreadState (W : Type 0) : Type 0 where
  pub routine : ℕ
  pub position : ℕ
  pub slots : ℕ → ℕ
  pub pending : ℕ → Bool
  pub window : W

abbrev pub nothing-pending : ℕ → Bool
nothing-pending _ = false

-- The thread's states after a command.
abbrev pub at_target : {W : Type 0} → ThreadState W → ℕ → ThreadState W
at_target l t = record { routine = l.routine; position = t; slots = l.slots; pending = l.pending; window = l.window }

-- a child's value goes into its slot
abbrev pub deliver : {W : Type 0} → ThreadState W → ℕ → ℕ → ThreadState W
deliver l d v = record { routine = l.routine; position = l.position; slots = update l.slots d v; pending = l.pending; window = l.window }

module _ {W : Type 0} (code : Code) where
  -- behind the command, with these slots
  abbrev pub onward : ThreadState W → (ℕ → ℕ) → ThreadState W
  onward l f = record {
    routine = l.routine;
    position = code.next l.routine l.position;
    slots = f;
    pending = l.pending;
    window = l.window;
  }

  -- routine r on its arguments, from slot a on of f, other slots zero, in the window w
  abbrev pub started : ℕ → (ℕ → ℕ) → ℕ → W → ThreadState W
  started r f a w = record {
    routine = r;
    position = 0;
    slots = λ k. cond (ltb k (code.arguments r)) (f (a + k)) 0;
    pending = nothing-pending;
    window = w;
  }

  -- the parent behind a fork by slot d, with these slots and this window
  abbrev pub behind-fork : ThreadState W → (ℕ → ℕ) → ℕ → W → ThreadState W
  behind-fork l f d w = record {
    routine = l.routine;
    position = code.next l.routine l.position;
    slots = f;
    pending = update l.pending d true;
    window = w;
  }

  -- behind a 0E, with this window
  abbrev pub behind-share : ThreadState W → W → ThreadState W
  behind-share l w = record {
    routine = l.routine;
    position = code.next l.routine l.position;
    slots = l.slots;
    pending = l.pending;
    window = w;
  }

  abbrev pub command : ThreadState W → Command
  command l = code.fetch l.routine l.position

  -- a load of a parameter word reads no memory
  abbrev pub load-act : ThreadState W → ℕ → ℕ → Act (ThreadState W)
  load-act l d a = cond (ltb a 32) (advance (onward l (update l.slots d (code.params a)))) (load a (λ v. onward l (update l.slots d v)))

-- the two places in which the tree's acts and a machine's differ
pub record Delivery (W : Type 0) : Type 0 where
  pub behind-fork-slots : ThreadState W → ℕ → (ℕ → ℕ)
  pub join-act : ThreadState W → Act (ThreadState W)

module _ (𝓦 : Windows) (code : Code) where
  open 𝓦 use {W, cut, share, rejoin}

  -- the thread behind a join: nothing is pending, and the window is whole again
  abbrev pub behind-join : ThreadState W → (ℕ → ℕ) → ThreadState W
  behind-join l f = record {
    routine = l.routine;
    position = code.next l.routine l.position;
    slots = f;
    pending = nothing-pending;
    window = rejoin l.window;
  }

  -- the tree: a pending slot is zero, and a join takes the values
  abbrev pub by-join : Delivery W
  by-join = record {
    behind-fork-slots = λ l d. update l.slots d 0;
    join-act = λ l. join (λ v. behind-join l (λ k. cond (l.pending k) (v k) (l.slots k)));
  }

  -- a machine: a pending slot holds what it held until the child's return writes it, and a join leaves it
  abbrev pub by-return : Delivery W
  by-return = record { behind-fork-slots = λ l d. l.slots; join-act = λ l. join (λ _. behind-join l l.slots) }

  -- a fork with the window cut; "A fork from 32 deep, the root being 1, meets 26": n counts from 0
  abbrev pub split : Delivery W → ℕ → ThreadState W → ℕ → ℕ → ℕ → Option (W × W) → Act (ThreadState W)
  split δ n l r d a none = halt 11
  split δ n l r d a (some p) =
      cond (ltb n 31) (fork d (started code r l.slots a p.0) (behind-fork code l (δ.behind-fork-slots l d) d p.1)) (halt 26)

  abbrev pub fork-act : Delivery W → ℕ → ThreadState W → ℕ → ℕ → ℕ → ℕ → Act (ThreadState W)
  fork-act δ n l r d a e = split δ n l r d a (cut l.window e)

  -- a 0E with what is left of the window
  abbrev pub share-act : ThreadState W → Option W → Act (ThreadState W)
  share-act l none = halt 31
  share-act l (some w) = advance (behind-share code l w)

  -- an effect, n deep, as an act
  unfoldable pub act_of : Delivery W → ℕ → ThreadState W → Effect → Act (ThreadState W)
  act_of δ n l (Faults x) = halt (number_of_fault x)
  act_of δ n l (Sets d v) = advance (onward code l (update l.slots d v))
  act_of δ n l (Loads d a) = load-act code l d a
  act_of δ n l (Stores a v) = store a v (onward code l l.slots)
  act_of δ n l (Goes t) = advance (at_target l t)
  act_of δ n l Continues = advance (onward code l l.slots)
  act_of δ n l (Lforks r d a e) = fork-act δ n l r d a e
  act_of δ n l (Forks r d a e) = fork-act δ n l r d a e
  act_of δ n l Joins = δ.join-act l
  act_of δ n l Suspends = advance (onward code l l.slots)
  act_of δ n l Yields = advance (onward code l l.slots)
  act_of δ n l (Returns v) = ret v
  act_of δ n l (Shares x) = share-act l (share l.window x)

module _ (𝓦 : Windows) (tests : WindowTests 𝓦) where
  open 𝓦 use {W}

  -- what the thread's command may look at
  abbrev pub view : ThreadState W → Context
  view l = record {
    slot = l.slots;
    pending = l.pending;
    may_load = tests.may_load l.window;
    may_store = tests.may_store l.window;
    may_cut = tests.may_cut l.window;
    may_share = tests.may_share l.window;
  }

  abbrev pub effect : Code → ThreadState W → Effect
  effect code l = effect_of code.arguments (view l) (command code l)
