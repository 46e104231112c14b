-- Schedule independence of a thread pool, the statements that a machine rests on: whatever threads stepped in whatever order, when
-- the root returns, the serial run gives the same result, words and units (`machine-agrees`), so where the serial run stops by a
-- number the root does not return (`machine-unfinished`); where the serial run finishes, no thread of any run comes to a fault
-- (`machine-sound`), and no run passes its units (`machine-units`).
use mathlib.Core.Path.{◌∙◌, ◌≡◌, ap, subst, sym}
use mathlib.Core.List.{[]}
use mathlib.Core.Bool.{false}
use Prim.Native.Nat.{◌+◌, ◌≤◌, suc, ℕ}
use native.Mathlib.Omega.{arith}
use lib.ListN.{length}
use Rattle.forkjoin.proofs.Confluence.{Steps, glue, stop, then}
use Rattle.forkjoin.proofs.TaskName.{TaskName}
use Rattle.forkjoin.proofs.Rights.{Within}
use Rattle.forkjoin.proofs.Language.{Language, LawfulAct, halt, ret}
use Rattle.forkjoin.proofs.TaskTree.{State, Step}
use Rattle.forkjoin.proofs.Invariant.{Invariant}
use Rattle.forkjoin.proofs.TreeConfluence.{laws}
use Rattle.forkjoin.proofs.Units.{prefix-units}
use Rattle.forkjoin.proofs.TreeStart.{begin, begin-inv}
use Rattle.forkjoin.proofs.SerialRun.{Outcome, done, out-of-fuel, serial-run, stopped, zeros}
use Rattle.forkjoin.proofs.SerialFuel.{Enough}
use Rattle.forkjoin.proofs.Unroll.{delivered-from-enough}
use Rattle.forkjoin.proofs.SerialAgrees.{agrees, no-fault, units-bounded}
use Rattle.forkjoin.proofs.Carried.{Carried, same-ret}
use Rattle.forkjoin.proofs.ThreadPool.{Link, Pool, free, root, used}
use Rattle.forkjoin.proofs.Represents.{Represents}
use Rattle.forkjoin.proofs.Simulation.{faults, finishes}
use Rattle.forkjoin.proofs.PoolFacts.{PoolFacts, pool-facts}
use Rattle.forkjoin.proofs.DeliveredRun.{Agree, agree, delivered-from}
use Rattle.forkjoin.proofs.DepthBound.{Bounded, Limited}
use Rattle.forkjoin.proofs.PoolRun.{Run, run-simulates}
use Rattle.forkjoin.proofs.PoolStart.{start, start-limited, start-represents}

-- All that is asked of a job: a command language with a lawful abstraction, commands that cost something, a depth limit that
-- only forks look at, and a root thread.
pub record Job : Type 1 where
  pub language : Language
  pub carried : Carried language
  pub limit : ℕ
  pub bounded : Bounded language carried limit
  pub costs : (l : Language.Local language) → 1 ≤ Language.cost language l
  pub root-thread : Carried.Concrete carried
  pub bare : (k : ℕ) → Language.pending language (Carried.abstraction carried root-thread) k ≡ false
  pub valid : Language.Valid language (Carried.abstraction carried root-thread)
  pub own : Within (Language.window language (Carried.abstraction carried root-thread))
      (Language.whole language (Carried.abstraction carried root-thread))

module _ (J : Job) (allowance : ℕ) (m : ℕ → ℕ) where
  open J use {language, carried, limit, bounded, costs, root-thread, bare, valid, own}
  open language use {cost}
  open carried use {Concrete, abstraction, does}

  abbrev pub first-pool : Pool Concrete
  first-pool = start language carried root-thread m

  -- runs from the start, by any threads in any order
  abbrev pub JobRun : Pool Concrete → Type 0
  JobRun N = Run language carried limit first-pool N

  -- the serial run of the job
  abbrev pub job-serial : Outcome
  job-serial = delivered-from language carried allowance 0 root-thread m 0

  serial-same : job-serial ≡ serial-run language allowance (abstraction root-thread) m
  unfolding serial-run Agree delivered-from
  serial-same = agree language carried allowance (suc allowance) 0 root-thread zeros m 0
      (λ k p. let b = bare k in let y : ◌≡◌ {A = ℕ} 0 1 = cc in absurd (omega arith))

  -- what a run has reached is a state that a run of the tree has reached
  reached : (N : Pool Concrete) → JobRun N → (name : ℕ → TaskName) × (s : State (Language.Local language)) × (n : ℕ)
      × Steps (Step language) n (begin language (abstraction root-thread) m) s × Represents language carried name N s × Invariant language s
      × Limited language carried limit N
  reached N run = run-simulates language carried limit bounded (λ _. []) (begin language (abstraction root-thread) m)
      (start-represents language carried root-thread m bare) (begin-inv language (abstraction root-thread) m valid own)
      (start-limited language carried root-thread m limit) run

  concluded : (s : State (Language.Local language)) (v : ℕ) (ms : ℕ → ℕ) (u : ℕ)
      → serial-run language allowance (abstraction root-thread) m ≡ done v s.memory s.units
      → s.memory ≡ ms → s.units ≡ u → job-serial ≡ done v ms u
  concluded s v ms u e ws us = serial-same ∙ e ∙ ap (λ x. done v x s.units) ws ∙ ap (done v ms) us

  -- the root returns v: so does the serial run, with the same words and units
  pub machine-agrees : (N : Pool Concrete) → JobRun N → (t v : ℕ) (q : Concrete) → N.cell t ≡ used q root → does 0 q ≡ ret v
      → N.units + cost (abstraction q) ≤ allowance → job-serial ≡ done v N.words (N.units + cost (abstraction q))
  machine-agrees N run t v q ct e h =
      let (name, s, n, k, R, i, _) = reached N run in
      let (s₁, last, top, ws, us) = finishes language carried name N s R i t v q ct
      (bounded.other (length (name t)) q (λ d c x z. let y : ◌≡◌ {A = ℕ} 0 1 = cc in omega arith) ∙ e) in
      let a = agrees language allowance costs (abstraction root-thread) m valid own (n + 1) s₁ (glue (laws language) k (then last stop)) v top
      (omega arith) in
      concluded s₁ v N.words (N.units + cost (abstraction q)) a ws us

  -- where the serial run stops by a number, the root does not return within the allowance
  pub machine-unfinished : (x u : ℕ) (ms : ℕ → ℕ) → job-serial ≡ stopped x ms u → (N : Pool Concrete) → JobRun N
      → (t v : ℕ) (q : Concrete) → N.cell t ≡ used q root → does 0 q ≡ ret v → N.units + cost (abstraction q) ≤ allowance → ⊥
  machine-unfinished x u ms p N run t v q ct e h =
      let a = machine-agrees N run t v q ct e h in
      let y : ◌≡◌ {A = ℕ} 0 1 = cc in
      omega arith

  -- the serial run returns or stops: its fuel does not run out
  pub serial-ends : job-serial ≡ out-of-fuel → ⊥
  serial-ends p = subst (λ o. Enough o 0) p (delivered-from-enough language carried allowance costs 0 root-thread m 0)

  -- where the serial run finishes, no thread of any run comes to a fault
  pub machine-sound : (v u : ℕ) (ms : ℕ → ℕ) → job-serial ≡ done v ms u → (N : Pool Concrete) → JobRun N
      → (t x : ℕ) (q : Concrete) (k : Link) → N.cell t ≡ used q k → does 0 q ≡ halt x → ⊥
  machine-sound v u ms p N run t x q k ct e =
      let (name, s, n, st, R, i, _) = reached N run in
      no-fault language allowance costs (abstraction root-thread) m valid own v ms u (sym serial-same ∙ p) n s st (name t) x
      (faults language carried name N s R t x q k ct
      (bounded.other (length (name t)) q (λ d c y z. let y : ◌≡◌ {A = ℕ} 0 1 = cc in omega arith) ∙ e))

  -- and no run passes its units
  pub machine-units : (v u : ℕ) (ms : ℕ → ℕ) → job-serial ≡ done v ms u → (N : Pool Concrete) → JobRun N → N.units ≤ u
  machine-units v u ms p N run =
      let (name, s, n, st, R, i, _) = reached N run in
      let most = units-bounded language allowance costs (abstraction root-thread) m valid own v ms u (sym serial-same ∙ p) n s st in
      let same = R.same_units in
      omega arith

  -- a run that is not yet over has at most the units of one in which the root returns
  pub machine-prefix-units : (N N' : Pool Concrete) → JobRun N → JobRun N' → (t v : ℕ) (q : Concrete) → N.cell t ≡ used q root → does 0 q ≡ ret v
      → N'.units ≤ N.units + cost (abstraction q)
  machine-prefix-units N N' run run' t v q ct e =
      let (name, s, n, k, R, i, _) = reached N run in
      let (name', s', n', k', R', i', _) = reached N' run' in
      let (s₁, last, top, ws, us) = finishes language carried name N s R i t v q ct
      (bounded.other (length (name t)) q (λ d c x z. let y : ◌≡◌ {A = ℕ} 0 1 = cc in omega arith) ∙ e) in
      let most = prefix-units language (begin-inv language (abstraction root-thread) m valid own) (record { result = v; root = top })
      (glue (laws language) k (then last stop)) k' in
      let same = R'.same_units in
      omega arith

  -- what holds in every pool that a run reaches
  pub machine-facts : (N : Pool Concrete) → JobRun N → PoolFacts language carried N
  machine-facts N run = let (name, s, n, st, R, i, _) = reached N run in pool-facts language carried name N s R i

  -- when the root returns, no other thread is left
  pub machine-last : (N : Pool Concrete) → JobRun N → (t v : ℕ) (q : Concrete) → N.cell t ≡ used q root → does 0 q ≡ ret v
      → (u : ℕ) → ¬ (u ≡ t) → N.cell u ≡ free
  machine-last N run t v q ct e u n =
      let facts = machine-facts N run in
      facts.root-last t u q ct (nothing-pending (facts.valid t q root ct)) n
    where
      returns : Language.act language 0 (abstraction q) ≡ ret v
      returns = same-ret language Concrete abstraction (Carried.held carried) (Carried.same carried 0 q) e

      nothing-pending : Language.Valid language (abstraction q) → (k : ℕ) → Language.pending language (abstraction q) k ≡ false
      nothing-pending o = subst (λ a. LawfulAct language (abstraction q) a) returns (Language.lawful language 0 (abstraction q) o)
