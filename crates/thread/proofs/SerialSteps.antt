-- The serial run of document 01's threads, effect by effect, with no fuel to count: what the code of the serial run meets at each command.
-- w is the weight of the command that l stands at, n its depth (the root's is 0), m the words and u the units so far.
use mathlib.Core.Path.{◌≡◌, ◌∙◌, ap}
use mathlib.Core.Option.{some}
use mathlib.Core.Bool.{cond}
use Prim.Native.Nat.{ℕ, suc, ◌+◌, ◌≤◌, ◌<◌}
use lib.Dec.{leb}
use borrow.Author.Tests.{le-leb, lt-leb, lt-ltb, le-ltb}
use Rattle.forkjoin.proofs.Update.{update}
use Rattle.forkjoin.proofs.Language.{Act, halt, advance, load, fork}
use Rattle.forkjoin.proofs.Windows.{Windows}
use Rattle.forkjoin.proofs.SerialRun.{Outcome, done, stopped, and-then}
use Rattle.forkjoin.proofs.DeliveredRun.{delivered-act, delivered-from}
use Rattle.forkjoin.proofs.Unroll.{unroll}
use Rattle.thread.specs.declared.Effect.{Effect}
use Rattle.thread.specs.declared.Fault.{Fault}
use Rattle.thread.specs.Effect.{number_of_fault}
use Rattle.thread.specs.declared.Effect.TheVariants.{Faults, Sets, Loads, Stores, Goes, Continues, Lforks, Forks, Joins, Suspends, Yields, Returns, Shares}
use Rattle.thread.proofs.Routines.{Code}
use Rattle.thread.proofs.ThreadState.{WindowTests, ThreadState, effect, onward, at_target, started, behind-fork, behind-join, behind-share, by-return, split, share-act, act_of, deliver}
use Rattle.thread.proofs.LawfulThreads.{threads}
use Rattle.thread.proofs.CarriedThreads.{carried-threads, does}
use Rattle.thread.proofs.ThreadSteps.{does-effect}

module _ (𝓦 : Windows) (tests : WindowTests 𝓦) (code : Code) (allowance : ℕ) where
  open 𝓦 use {W, cut, share}

  -- the serial run from an open routine
  abbrev pub serial : ℕ → ThreadState W → (ℕ → ℕ) → ℕ → Outcome
  serial n l m u = delivered-from (threads 𝓦 tests code) (carried-threads 𝓦 tests code) allowance n l m u

  abbrev pub weight-at : ThreadState W → ℕ
  weight-at l = code.weight l.routine l.position

  module _ (n : ℕ) (l : ThreadState W) (m : ℕ → ℕ) (u : ℕ) where
    -- what an act leads to
    abbrev pub then-serial : Act (ThreadState W) → Outcome
    then-serial a = delivered-act (threads 𝓦 tests code) (carried-threads 𝓦 tests code) allowance serial n a m u (weight-at l)

    unrolled : serial n l m u ≡ cond (leb (u + weight-at l) allowance) (then-serial (does 𝓦 tests code n l)) (stopped 22 m u)
    unrolled = unroll (threads 𝓦 tests code) (carried-threads 𝓦 tests code) allowance (λ q. code.weighs q.routine q.position) n l m u

    -- "22: units plus the command's weight pass the allowance"
    pub serial-short : allowance < u + weight-at l → serial n l m u ≡ stopped 22 m u
    serial-short h = unrolled ∙ ap (λ t. cond t (then-serial (does 𝓦 tests code n l)) (stopped 22 m u)) (lt-leb (u + weight-at l) allowance h)

    module _ (paid : u + weight-at l ≤ allowance) where
      pub serial-act-of : (e : Effect) → effect 𝓦 tests code l ≡ e → serial n l m u ≡ then-serial (act_of 𝓦 code (by-return 𝓦 code) n l e)
      serial-act-of e h = unrolled ∙ ap (λ t. cond t (then-serial (does 𝓦 tests code n l)) (stopped 22 m u)) (le-leb (u + weight-at l) allowance paid)
          ∙ ap then-serial (does-effect 𝓦 tests code n l e h)

      pub serial-faults : (x : Fault) → effect 𝓦 tests code l ≡ Faults x → serial n l m u ≡ stopped (number_of_fault x) m u
      unfolding act_of delivered-act
      serial-faults x h = serial-act-of (Faults x) h

      pub serial-sets : (d v : ℕ) → effect 𝓦 tests code l ≡ Sets d v
          → serial n l m u ≡ serial n (onward code l (update l.slots d v)) m (u + weight-at l)
      unfolding act_of delivered-act
      serial-sets d v h = serial-act-of (Sets d v) h

      pub serial-loads-parameter : (d a : ℕ) → effect 𝓦 tests code l ≡ Loads d a → a < 32
          → serial n l m u ≡ serial n (onward code l (update l.slots d (code.params a))) m (u + weight-at l)
      unfolding act_of delivered-act
      serial-loads-parameter d a h low = serial-act-of (Loads d a) h
          ∙ ap (λ t. then-serial (cond t (advance (onward code l (update l.slots d (code.params a))))
          (load a (λ v. onward code l (update l.slots d v))))) (lt-ltb a 32 low)

      pub serial-loads : (d a : ℕ) → effect 𝓦 tests code l ≡ Loads d a → 32 ≤ a
          → serial n l m u ≡ serial n (onward code l (update l.slots d (m a))) m (u + weight-at l)
      unfolding act_of delivered-act
      serial-loads d a h high = serial-act-of (Loads d a) h
          ∙ ap (λ t. then-serial (cond t (advance (onward code l (update l.slots d (code.params a))))
          (load a (λ v. onward code l (update l.slots d v))))) (le-ltb a 32 high)

      pub serial-stores : (a v : ℕ) → effect 𝓦 tests code l ≡ Stores a v
          → serial n l m u ≡ serial n (onward code l l.slots) (update m a v) (u + weight-at l)
      unfolding act_of delivered-act
      serial-stores a v h = serial-act-of (Stores a v) h

      pub serial-goes : (x : ℕ) → effect 𝓦 tests code l ≡ Goes x → serial n l m u ≡ serial n (at_target l x) m (u + weight-at l)
      unfolding act_of delivered-act
      serial-goes x h = serial-act-of (Goes x) h

      pub serial-continues : effect 𝓦 tests code l ≡ Continues → serial n l m u ≡ serial n (onward code l l.slots) m (u + weight-at l)
      unfolding act_of delivered-act
      serial-continues h = serial-act-of Continues h

      pub serial-suspends : effect 𝓦 tests code l ≡ Suspends → serial n l m u ≡ serial n (onward code l l.slots) m (u + weight-at l)
      unfolding act_of delivered-act
      serial-suspends h = serial-act-of Suspends h

      pub serial-yields : effect 𝓦 tests code l ≡ Yields → serial n l m u ≡ serial n (onward code l l.slots) m (u + weight-at l)
      unfolding act_of delivered-act
      serial-yields h = serial-act-of Yields h

      pub serial-joins : effect 𝓦 tests code l ≡ Joins → serial n l m u ≡ serial n (behind-join 𝓦 code l l.slots) m (u + weight-at l)
      unfolding act_of delivered-act
      serial-joins h = serial-act-of Joins h

      pub serial-returns : (v : ℕ) → effect 𝓦 tests code l ≡ Returns v → serial n l m u ≡ done v m (u + weight-at l)
      unfolding act_of delivered-act
      serial-returns v h = serial-act-of (Returns v) h

      pub serial-shares : (x : ℕ) (w : W) → effect 𝓦 tests code l ≡ Shares x → share l.window x ≡ some w
          → serial n l m u ≡ serial n (behind-share code l w) m (u + weight-at l)
      unfolding act_of delivered-act
      serial-shares x w h left = serial-act-of (Shares x) h ∙ ap (λ r. then-serial (share-act 𝓦 code l r)) left

      -- a fork's child runs to its end, then its value goes into slot d, still pending; c and w are the child's window and the rest
      abbrev pub then-child : ℕ → ℕ → ℕ → W → W → Outcome
      then-child r d a c w = and-then (serial (suc n) (started code r l.slots a c) m (u + weight-at l))
          (λ v m' u'. serial n (deliver (behind-fork code l l.slots d w) d v) m' u')

      split-in : (r d a e : ℕ) (c w : W) → n < 31 → cut l.window e ≡ some (c, w)
          → then-serial (split 𝓦 code (by-return 𝓦 code) n l r d a (cut l.window e)) ≡ then-child r d a c w
      unfolding delivered-act
      split-in r d a e c w shallow parts = ap (λ x. then-serial (split 𝓦 code (by-return 𝓦 code) n l r d a x)) parts
          ∙ ap (λ t. then-serial (cond t (fork d (started code r l.slots a c) (behind-fork code l l.slots d w)) (halt 26)))
          (lt-ltb n 31 shallow)

      split-deep : (r d a e : ℕ) (c w : W) → 31 ≤ n → cut l.window e ≡ some (c, w)
          → then-serial (split 𝓦 code (by-return 𝓦 code) n l r d a (cut l.window e)) ≡ stopped 26 m u
      unfolding delivered-act
      split-deep r d a e c w deep parts = ap (λ x. then-serial (split 𝓦 code (by-return 𝓦 code) n l r d a x)) parts
          ∙ ap (λ t. then-serial (cond t (fork d (started code r l.slots a c) (behind-fork code l l.slots d w)) (halt 26))) (le-ltb n 31 deep)

      pub serial-lforks : (r d a e : ℕ) (c w : W) → effect 𝓦 tests code l ≡ Lforks r d a e → cut l.window e ≡ some (c, w) → n < 31
          → serial n l m u ≡ then-child r d a c w
      unfolding act_of
      serial-lforks r d a e c w h parts shallow = serial-act-of (Lforks r d a e) h ∙ split-in r d a e c w shallow parts

      pub serial-forks : (r d a e : ℕ) (c w : W) → effect 𝓦 tests code l ≡ Forks r d a e → cut l.window e ≡ some (c, w) → n < 31
          → serial n l m u ≡ then-child r d a c w
      unfolding act_of
      serial-forks r d a e c w h parts shallow = serial-act-of (Forks r d a e) h ∙ split-in r d a e c w shallow parts

      -- "26: plain run too deep"
      pub serial-lforks-deep : (r d a e : ℕ) (c w : W) → effect 𝓦 tests code l ≡ Lforks r d a e → cut l.window e ≡ some (c, w) → 31 ≤ n
          → serial n l m u ≡ stopped 26 m u
      unfolding act_of
      serial-lforks-deep r d a e c w h parts deep = serial-act-of (Lforks r d a e) h ∙ split-deep r d a e c w deep parts

      pub serial-forks-deep : (r d a e : ℕ) (c w : W) → effect 𝓦 tests code l ≡ Forks r d a e → cut l.window e ≡ some (c, w) → 31 ≤ n
          → serial n l m u ≡ stopped 26 m u
      unfolding act_of
      serial-forks-deep r d a e c w h parts deep = serial-act-of (Forks r d a e) h ∙ split-deep r d a e c w deep parts
