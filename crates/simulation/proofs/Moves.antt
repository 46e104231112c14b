-- What an entry of a schedule can be to the theory. Refused, it changes nothing; accepted, it leaves the pool as it is, or is one step of
-- the pool, or the root's return; faulting, its thread's act is a halt. Assumes nothing.
use mathlib.Core.Logic.{inl, inr}
use mathlib.Core.Path.{◌≡◌, ap}
use Prim.Native.Nat.{ℕ, ◌+◌, ◌≤◌}
use native.Mathlib.Omega.{arith}
use Rattle.window.specs.declared.Window.{Window}
use Rattle.window.proofs.Instance.{windows}
use Rattle.forkjoin.proofs.Language.{halt, ret}
use Rattle.forkjoin.proofs.ThreadPool.{Link, root, used}
use Rattle.thread.specs.Effect.{IsFault}
use Rattle.thread.proofs.ThreadState.{ThreadState}
use Rattle.thread.proofs.CarriedThreads.{does}
use Rattle.thread.proofs.MarkedWindows.{window-tests}
use Rattle.thread.proofs.ThreadSteps.{ThreadStep}
use Rattle.rules.specs.State.{Job, State, After, going, finished, faulted}
use Rattle.rules.specs.Update.{refused}
use Rattle.rules.specs.Sound.{GoodJob}
use Rattle.soundness.proofs.Tested.{no-fault}
use Rattle.simulation.proofs.JobCode.{weight_in, code_of}
use Rattle.simulation.proofs.StatePool.{pool_of}

module _ (j : Job) (good : GoodJob j) (s : State) where
  -- an accepted entry that the pool does not see: a take, an enable, a join that waits
  pub record Rests (a : After) : Type 0 where
    pub log : a.log ≡ 0
    pub ongoing : a.state.outcome ≡ going
    pub pool : pool_of j a.state ≡ pool_of j s

  -- an accepted entry that is a step of a thread
  pub record Steps (a : After) : Type 0 where
    pub log : a.log ≡ 0
    pub ongoing : a.state.outcome ≡ going
    pub thread : ℕ
    pub step : ThreadStep windows window-tests (code_of j good) thread (pool_of j s) (pool_of j a.state)

  -- the accepted entry by which the root returns
  pub record Finishes (a : After) : Type 0 where
    pub log : a.log ≡ 0
    pub thread : ℕ
    pub result : ℕ
    pub over : a.state.outcome ≡ finished result
    pub last : ThreadState Window
    pub is-root : (pool_of j s).cell thread ≡ used last root
    pub returns : does windows window-tests (code_of j good) 0 last ≡ ret result
    pub memory : a.state.store.memory ≡ s.store.memory
    pub units : a.state.units ≡ s.units + weight_in j last.routine last.position
    pub paid : a.state.units ≤ j.allowance

  -- an entry that faults
  pub record FaultsBy (a : After) : Type 0 where
    pub number : ℕ
    pub fault : IsFault number
    pub thread : ℕ
    pub offset : ℕ
    pub halted : ThreadState Window
    pub link : Link
    pub there : (pool_of j s).cell thread ≡ used halted link
    pub halts : does windows window-tests (code_of j good) 0 halted ≡ halt number
    pub log : a.log ≡ number
    pub over : a.state.outcome ≡ faulted number thread offset
    pub pool : pool_of j a.state ≡ pool_of j s

  -- what an entry is to the pool
  pub data Moves (a : After) : Type 0 where
    refuses : (n : ℕ) → 14 ≤ n → n ≤ 22 → a ≡ refused n s → Moves a
    rests : s.outcome ≡ going → Rests a → Moves a
    steps : s.outcome ≡ going → Steps a → Moves a
    finishes : s.outcome ≡ going → Finishes a → Moves a
    faults-by : s.outcome ≡ going → FaultsBy a → Moves a

  -- by the log byte: 0 is accepted, 9 to 12 and 31 a fault, any other a refusal
  pub data Accepted (a : After) : Type 0 where
    resting : Rests a → Accepted a
    stepping : Steps a → Accepted a
    finishing : Finishes a → Accepted a

  pub accepted-moves : (a : After) → Moves a → a.log ≡ 0 → Accepted a
  accepted-moves a (refuses n l m e) z = absurd (let y = ap (λ b. b.log) e in omega arith)
  accepted-moves a (rests o m) z = resting m
  accepted-moves a (steps o m) z = stepping m
  accepted-moves a (finishes o m) z = finishing m
  accepted-moves a (faults-by o m) z = absurd (let y = m.log in no-fault m.number m.fault (inl (omega arith)))

  pub faulted-moves : (a : After) → Moves a → IsFault a.log → FaultsBy a
  faulted-moves a (refuses n l m e) x = absurd (let z = ap (λ b. b.log) e in no-fault a.log x (inr (omega arith, omega arith)))
  faulted-moves a (rests o m) x = absurd (let z = m.log in no-fault a.log x (inl (omega arith)))
  faulted-moves a (steps o m) x = absurd (let z = m.log in no-fault a.log x (inl (omega arith)))
  faulted-moves a (finishes o m) x = absurd (let z = m.log in no-fault a.log x (inl (omega arith)))
  faulted-moves a (faults-by o m) x = m

  pub refused-moves : (a : After) → Moves a → 13 ≤ a.log → a.log ≤ 30 → a.state ≡ s
  refused-moves a (refuses n l m e) x y = ap (λ b. b.state) e
  refused-moves a (rests o m) x y = absurd (let z = m.log in omega arith)
  refused-moves a (steps o m) x y = absurd (let z = m.log in omega arith)
  refused-moves a (finishes o m) x y = absurd (let z = m.log in omega arith)
  refused-moves a (faults-by o m) x y = absurd (let z = m.log in no-fault m.number m.fault (inr (omega arith, omega arith)))
