-- Document 01's numbers put in: 32 thread numbers and a depth of 32, over any windows whose tests agree with their rights. A job of
-- document 01 is a job of the fork-join theory, so the order of its steps plays no part.
use mathlib.Core.Path.{◌≡◌, refl, ap}
use mathlib.Core.Option.{Option, none, some}
use mathlib.Core.Bool.{Bool, true, false, cond}
use Prim.Native.Nat.{ℕ, ◌+◌, ◌≤◌, ◌<◌}
use native.Mathlib.Omega.{arith}
use borrow.Author.Tests.{lt-ltb, le-ltb}
use lib.Dec.{ltb}
use Rattle.forkjoin.proofs.Update.{update}
use Rattle.forkjoin.proofs.Rights.{Within}
use Rattle.forkjoin.proofs.Language.{Act, halt, advance, load, fork, ret}
use Rattle.forkjoin.proofs.Windows.{Windows}
use Rattle.forkjoin.proofs.PoolFacts.{PoolFacts}
use Rattle.forkjoin.proofs.DepthBound.{Bounded}
use Rattle.forkjoin.proofs.ThreadPool.{Pool, Link, free, root, used}
use Rattle.forkjoin.proofs.SerialRun.{Outcome, done, stopped}
use Rattle.forkjoin.proofs.ScheduleIndependence.{Job, JobRun, job-serial, machine-agrees, machine-facts, machine-last, machine-sound, machine-unfinished, machine-units}
use Rattle.thread.specs.declared.Effect.{Effect}
use Rattle.thread.specs.declared.Effect.TheVariants.{Faults, Sets, Loads, Stores, Goes, Continues, Lforks, Forks, Joins, Suspends, Yields, Returns, Shares}
use Rattle.thread.proofs.Routines.{Code}
use Rattle.thread.proofs.ThreadState.{WindowTests, ThreadState, effect, onward, started, behind-fork, by-return, split, share-act, act_of, nothing-pending}
use Rattle.thread.proofs.LawfulThreads.{threads}
use Rattle.thread.proofs.CarriedThreads.{carried-threads, does}

module _ (𝓦 : Windows) (tests : WindowTests 𝓦) (code : Code) where
  open 𝓦 use {W, now, whole, cut, share, Fit}

  abbrev acts : ℕ → ThreadState W → Effect → Act (ThreadState W)
  acts n l e = act_of 𝓦 code (by-return 𝓦 code) n l e

  abbrev NoFork : Act (ThreadState W) → Type 0
  NoFork x = (d : ℕ) (c q : ThreadState W) → x ≡ fork d c q → ⊥

  split_below : (n : ℕ) (l : ThreadState W) (r d a : ℕ) → n < 31 → (x : Option (W × W))
      → split 𝓦 code (by-return 𝓦 code) n l r d a x ≡ split 𝓦 code (by-return 𝓦 code) 0 l r d a x
  split_below n l r d a h none = refl
  split_below n l r d a h (some p) =
      ap (λ t. cond t (fork d (started code r l.slots a p.0) (behind-fork code l l.slots d p.1)) (halt 26)) (lt-ltb n 31 h)

  split-other : (n : ℕ) (l : ThreadState W) (r d a : ℕ) (x : Option (W × W)) → NoFork (split 𝓦 code (by-return 𝓦 code) 0 l r d a x)
      → split 𝓦 code (by-return 𝓦 code) n l r d a x ≡ split 𝓦 code (by-return 𝓦 code) 0 l r d a x
  split-other n l r d a none h = refl
  split-other n l r d a (some p) h = absurd (h d (started code r l.slots a p.0) (behind-fork code l l.slots d p.1) refl)

  below : (n : ℕ) (l : ThreadState W) (e : Effect) → n < 31 → acts n l e ≡ acts 0 l e
  unfolding act_of
  below n l (Faults x) h = refl
  below n l (Sets d v) h = refl
  below n l (Loads d a) h = refl
  below n l (Stores a v) h = refl
  below n l (Goes t) h = refl
  below n l Continues h = refl
  below n l (Lforks r d a e) h = split_below n l r d a h (cut l.window e)
  below n l (Forks r d a e) h = split_below n l r d a h (cut l.window e)
  below n l Joins h = refl
  below n l Suspends h = refl
  below n l Yields h = refl
  below n l (Returns v) h = refl
  below n l (Shares x) h = refl

  other : (n : ℕ) (l : ThreadState W) (e : Effect) → NoFork (acts 0 l e) → acts n l e ≡ acts 0 l e
  unfolding act_of
  other n l (Faults x) h = refl
  other n l (Sets d v) h = refl
  other n l (Loads d a) h = refl
  other n l (Stores a v) h = refl
  other n l (Goes t) h = refl
  other n l Continues h = refl
  other n l (Lforks r d a e) h = split-other n l r d a (cut l.window e) h
  other n l (Forks r d a e) h = split-other n l r d a (cut l.window e) h
  other n l Joins h = refl
  other n l Suspends h = refl
  other n l Yields h = refl
  other n l (Returns v) h = refl
  other n l (Shares x) h = refl

  -- "A fork from 32 deep, the root being 1, meets 26"
  split-beyond : (l : ThreadState W) (r d a : ℕ) (x : Option (W × W))
      → (y : ℕ) × ((n : ℕ) → 31 ≤ n → split 𝓦 code (by-return 𝓦 code) n l r d a x ≡ halt y)
  split-beyond l r d a none = (11, λ n h. refl)
  split-beyond l r d a (some p) =
      (26, λ n h. ap (λ t. cond t (fork d (started code r l.slots a p.0) (behind-fork code l l.slots d p.1)) (halt 26)) (le-ltb n 31 h))

  beyond : (l c q : ThreadState W) (d : ℕ) (e : Effect) → acts 0 l e ≡ fork d c q → (x : ℕ) × ((n : ℕ) → 31 ≤ n → acts n l e ≡ halt x)
  unfolding act_of
  beyond l c q d (Faults x) z = let y : ◌≡◌ {A = ℕ} 0 1 = cc in absurd (omega arith)
  beyond l c q d (Sets k v) z = let y : ◌≡◌ {A = ℕ} 0 1 = cc in absurd (omega arith)
  beyond l c q d (Loads k a) z = absurd (no-fork (ltb a 32) z)
    where
      no-fork : (b : Bool) → cond b (advance (onward code l (update l.slots k (code.params a)))) (load a (λ v. onward code l (update l.slots k v))) ≡ fork d c q → ⊥
      no-fork true e = let y : ◌≡◌ {A = ℕ} 0 1 = cc in omega arith
      no-fork false e = let y : ◌≡◌ {A = ℕ} 0 1 = cc in omega arith
  beyond l c q d (Stores a v) z = let y : ◌≡◌ {A = ℕ} 0 1 = cc in absurd (omega arith)
  beyond l c q d (Goes t) z = let y : ◌≡◌ {A = ℕ} 0 1 = cc in absurd (omega arith)
  beyond l c q d Continues z = let y : ◌≡◌ {A = ℕ} 0 1 = cc in absurd (omega arith)
  beyond l c q d (Lforks r k a e) z = split-beyond l r k a (cut l.window e)
  beyond l c q d (Forks r k a e) z = split-beyond l r k a (cut l.window e)
  beyond l c q d Joins z = let y : ◌≡◌ {A = ℕ} 0 1 = cc in absurd (omega arith)
  beyond l c q d Suspends z = let y : ◌≡◌ {A = ℕ} 0 1 = cc in absurd (omega arith)
  beyond l c q d Yields z = let y : ◌≡◌ {A = ℕ} 0 1 = cc in absurd (omega arith)
  beyond l c q d (Returns v) z = let y : ◌≡◌ {A = ℕ} 0 1 = cc in absurd (omega arith)
  beyond l c q d (Shares x) z = absurd (no-fork (share l.window x) z)
    where
      no-fork : (r : Option W) → share-act 𝓦 code l r ≡ fork d c q → ⊥
      no-fork none e = let y : ◌≡◌ {A = ℕ} 0 1 = cc in omega arith
      no-fork (some w) e = let y : ◌≡◌ {A = ℕ} 0 1 = cc in omega arith

  pub bounded : Bounded (threads 𝓦 tests code) (carried-threads 𝓦 tests code) 31
  bounded = record {
    below = λ n l h. below n l (effect 𝓦 tests code l) h;
    other = λ n l h. other n l (effect 𝓦 tests code l) h;
    beyond = λ l c q d h. beyond l c q d (effect 𝓦 tests code l) h;
  }

  -- a root window and the root's first slots
  module _ (w : W) (fit : Fit w) (own : Within (now w) (whole w)) (slots : ℕ → ℕ) where
    -- "Routine 0 starts on the arguments, other slots zero, in the root's window"
    abbrev pub root-thread : ThreadState W
    root-thread = record { routine = 0; position = 0; slots = slots; pending = nothing-pending; window = w }

    abbrev pub job : Job
    job = record {
      language = threads 𝓦 tests code;
      carried = carried-threads 𝓦 tests code;
      limit = 31;
      bounded = bounded;
      costs = λ l. code.weighs l.routine l.position;
      root-thread = root-thread;
      bare = λ k. refl;
      valid = (fit, λ k h. refl);
      own = own;
    }

    module _ (allowance : ℕ) (memory : ℕ → ℕ) where
      -- document 01's plain run
      abbrev pub document-serial : Outcome
      document-serial = job-serial job allowance memory

      -- any steps by any threads, from the start
      abbrev pub DocumentRun : Pool (ThreadState W) → Type 0
      DocumentRun N = JobRun job allowance memory N

      -- when the root returns, the serial run gives the same result, words and units
      pub document-agrees : (N : Pool (ThreadState W)) → DocumentRun N → (t v : ℕ) (q : ThreadState W) → N.cell t ≡ used q root
          → does 𝓦 tests code 0 q ≡ ret v
          → N.units + code.weight q.routine q.position ≤ allowance
          → document-serial ≡ done v N.words (N.units + code.weight q.routine q.position)
      document-agrees = machine-agrees job allowance memory

      -- where the serial run ends by a number, the root does not return within the allowance
      pub document-unfinished : (x u : ℕ) (ms : ℕ → ℕ) → document-serial ≡ stopped x ms u → (N : Pool (ThreadState W)) → DocumentRun N
          → (t v : ℕ) (q : ThreadState W) → N.cell t ≡ used q root → does 𝓦 tests code 0 q ≡ ret v
          → N.units + code.weight q.routine q.position ≤ allowance → ⊥
      document-unfinished = machine-unfinished job allowance memory

      -- where the serial run finishes, no thread of any run comes to a fault
      pub document-sound : (v u : ℕ) (ms : ℕ → ℕ) → document-serial ≡ done v ms u → (N : Pool (ThreadState W)) → DocumentRun N
          → (t x : ℕ) (q : ThreadState W) (k : Link) → N.cell t ≡ used q k → does 𝓦 tests code 0 q ≡ halt x → ⊥
      document-sound = machine-sound job allowance memory

      -- and no run passes its units
      pub document-units : (v u : ℕ) (ms : ℕ → ℕ) → document-serial ≡ done v ms u → (N : Pool (ThreadState W)) → DocumentRun N → N.units ≤ u
      document-units = machine-units job allowance memory

      -- what holds in every pool that a run reaches: pending result slots, windows apart, one root
      pub document-facts : (N : Pool (ThreadState W)) → DocumentRun N → PoolFacts (threads 𝓦 tests code) (carried-threads 𝓦 tests code) N
      document-facts = machine-facts job allowance memory

      -- when the root returns, no other thread is left
      pub document-last : (N : Pool (ThreadState W)) → DocumentRun N → (t v : ℕ) (q : ThreadState W) → N.cell t ≡ used q root
          → does 𝓦 tests code 0 q ≡ ret v → (u : ℕ) → ¬ (u ≡ t) → N.cell u ≡ free
      document-last = machine-last job allowance memory
