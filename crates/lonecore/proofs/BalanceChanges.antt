-- The balance of waits and wakes, `Balanced`, of the rules after which no other thread waits: a thread's own commands (`own`), a child
-- born (`bore`) and a take (`took`). The first two charge something, and the last one makes the ready queue shorter. Assumes a sound state.
use mathlib.Core.List.{List, ◌∷◌}
use mathlib.Core.Path.{◌≡◌, ◌∙◌, ap}
use Prim.Native.Nat.{ℕ, ◌+◌, ◌≤◌, ◌<◌}
use native.Mathlib.Omega.{arith}
use lib.ListN.{length, set}
use Rattle.thread.specs.declared.Status.TheVariants.{Running, Waiting}
use Rattle.thread.specs.declared.Thread.{Thread}
use Rattle.thread.specs.Thread.{with_status}
use Rattle.census.specs.Counted.{records_in}
use Rattle.rules.specs.State.{Job, State, After, going, thread_at}
use Rattle.rules.specs.Turn.{turn_at}
use Rattle.rules.specs.Update.{set_ready}
use Rattle.rules.specs.Leave.{runs}
use Rattle.rules.specs.Lists.{Every}
use Rattle.rules.specs.Sound.{Sound, Used, status_at}
use Rattle.soundness.proofs.Changes.{standing, used-below}
use Rattle.soundness.proofs.EntryCases.{Stepped, Taken}
use Rattle.soundness.proofs.Parts.{runs as running}
use Rattle.soundness.proofs.ThreadsMet.{runner, taken-used}
use Rattle.simulation.proofs.JobCode.{code_of}
use Rattle.simulation.proofs.NextCommand.{weight-here}
use Rattle.lonecore.proofs.WaitingRecords.{one-moving, two-moving}

-- the ready threads, and the waiting ones
abbrev pub ready_in : State → ℕ
ready_in s = length s.queues.ready

abbrev pub waiting_in : State → ℕ
waiting_in s = records_in Waiting s.threads

pub record Balanced (s s' : State) : Type 0 where
  -- an entry makes at most one waiting thread ready
  pub any : ready_in s' + waiting_in s ≤ ready_in s + waiting_in s' + 2
  -- one that charges nothing is a join that waits, or a take
  pub rest : s'.units ≡ s.units → ready_in s' + waiting_in s + 1 ≤ ready_in s + waiting_in s'

-- what is shown of each entry
abbrev pub Shown : State → After → Type 0
Shown s a = a.log ≡ 0 → a.state.outcome ≡ going → Balanced s a.state

-- both counts stay, and something is charged
pub record Even (s s' : State) : Type 0 where
  pub ready : ready_in s' ≡ ready_in s
  pub waiting : waiting_in s' ≡ waiting_in s
  pub units : s.units < s'.units

pub even : (s s' : State) → Even s s' → Balanced s s'
even s s' h =
    let r = h.ready in
    let w = h.waiting in
    let u = h.units in
    record { any = omega arith; rest = λ e. absurd (omega arith) }

module _ (j : Job) (s : State) (ok : Sound j s) where
  -- each command weighs something
  pub charged : (c t : ℕ) → Used s t → (s' : State) → s'.units ≡ s.units + (turn_at j s c t).weight → s.units < s'.units
  charged c t h s' e =
      let z = (code_of j ok.job).weighs (thread_at s t).origin.routine (thread_at s t).position in
      let y = weight-here j ok.job s ok.placed t h in
      omega (arith, z, y, e)

  -- the thread of a step runs
  pub runs_on : (c t : ℕ) → Stepped j s c t → status_at s t ≡ 1
  runs_on c t k = running j s ok c t k.core k.seat k.low

  -- a command after which the thread's record is h
  pub own : (c t : ℕ) (h : Thread) (s' : State) → Stepped j s c t → standing h ≡ status_at s t → s'.threads ≡ set s.threads t h
      → s'.queues.ready ≡ s.queues.ready → s'.units ≡ s.units + (turn_at j s c t).weight → Balanced s s'
  own c t h s' k e threads ready units =
      let used = runner j s ok c t k in
      let run = runs_on c t k in
      even s s' (record {
        ready = ap length ready;
        waiting = ap (records_in Waiting) threads ∙ one-moving s.threads t h (used-below s t used) (λ q. omega arith) (λ q. omega arith);
        units = charged c t used s' units;
      })

  -- the number that a child is handed is free
  pub head-free : (n : ℕ) (ns : List ℕ) → s.queues.free_threads ≡ n ∷ ns → (n < 32) × (status_at s n ≡ 0)
  head-free n ns e = let all : Every (λ y. (y < 32) × (status_at s y ≡ 0)) (n ∷ ns) = rw e at ok.free_threads.free in all.0

  -- a child is born of thread t, which does not wait and is lent now; the child runs
  pub bore : (c t n : ℕ) (ns : List ℕ) (g h : Thread) (s' : State) → Used s t → ¬ (status_at s t ≡ 4) → s.queues.free_threads ≡ n ∷ ns
      → standing g ≡ 5 → standing h ≡ 1 → s'.threads ≡ set (set s.threads t g) n h → s'.queues.ready ≡ s.queues.ready
      → s'.units ≡ s.units + (turn_at j s c t).weight → Even s s'
  bore c t n ns g h s' used moves free lent run threads ready units = record {
    ready = ap length ready;
    waiting = ap (records_in Waiting) threads
        ∙ two-moving s.threads t g (used-below s t used) n h (let z = ok.sized.threads in let y = head.0 in omega arith) other moves
        (λ q. let z = head.1 in omega arith) (λ q. omega arith) (λ q. omega arith);
    units = charged c t used s' units;
  }
    where
      head : (n < 32) × (status_at s n ≡ 0)
      head = head-free n ns free

      other : ¬ (t ≡ n)
      other q = let z : status_at s t ≡ status_at s n = ap (status_at s) q in let y = head.1 in let x = used in omega arith

  -- a take: its thread was ready
  pub took : (c t : ℕ) (ts : List ℕ) → Taken s c t ts → Balanced s (runs c t (set_ready ts s))
  took c t ts k =
      let all : Every (λ y. status_at s y ≡ 2) (t ∷ ts) = rw k.head at ok.turns.ready in
      let ready = all.0 in
      let shorter = ap length k.head in
      let still = one-moving s.threads t (with_status Running (thread_at s t)) (used-below s t (taken-used j s ok c t ts k))
      (λ q. omega arith) (λ q. omega arith) in
      record { any = omega arith; rest = λ _. omega arith }
