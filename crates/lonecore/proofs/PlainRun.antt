-- A plain run that finishes and goes at most 32 - k deep: begun k levels down it ends the same, it is a run of the tree begun there that
-- finishes within the allowance (`ending`, `enough`), and its commands carried out are that run's steps (`commands-are-steps`). Assumes an
-- input that a run takes.
use mathlib.Core.List.{List, []}
use mathlib.Core.Path.{◌≡◌, refl, sym, ◌∙◌, ap, subst}
use Prim.Native.Nat.{ℕ, suc, ◌+◌, ◌≤◌, ◌<◌}
use native.Mathlib.Omega.{arith}
use borrow.Author.Tests.{eq-eqb}
use Rattle.forkjoin.proofs.Arrays.{words-from}
use Rattle.forkjoin.proofs.SerialRun.{done as t-done, serial-run, serial-call, zeros}
use Rattle.forkjoin.proofs.SerialAgrees.{agrees}
use Rattle.forkjoin.proofs.TreeStart.{begin}
use Rattle.forkjoin.proofs.Deeper.{serial-deeper}
use Rattle.window.specs.Rights.{root_window}
use Rattle.window.proofs.Instance.{windows}
use Rattle.thread.proofs.LawfulThreads.{threads}
use Rattle.thread.proofs.MarkedWindows.{window-tests}
use Rattle.simulation.proofs.JobCode.{code_of as jobCode}
use Rattle.rules.specs.State.{Job}
use Rattle.rules.specs.Sound.{GoodJob}
use Rattle.serial.specs.Serial.{Ended, done, stopped, started_on, call_within, call_from, serial_from, serial_of}
use Rattle.demands.specs.Input.{Input, job_in}
use Rattle.demands.specs.Demands.{Takes, serial_in}
use Rattle.demands.proofs.Passing.{good}
use Rattle.demands.proofs.SerialTheory.{as_outcome, is-theory-below}
use Rattle.lonecore.specs.Depth.{depth_within, depth_in}
use Rattle.lonecore.specs.Commands.{counting_job, units_of, commands_in}
use Rattle.lonecore.proofs.DepthExact.{Exact, Finishes, depth-exact, depth-least}
use Rattle.lonecore.proofs.Followed.{Ending}
use Rattle.lonecore.proofs.SerialEnding.{the_job, first_local, depth_same, returned, ends, enough as ends-enough}
use Rattle.lonecore.proofs.CommandCount.{counting-good, counted, steps-counted, steps-cost, begin-same}

-- the plain run of a job, begun k levels down
abbrev pub begun_down : Job → List ℕ → List ℕ → ℕ → Ended
begun_down j arguments memory k = call_from j (suc k) (started_on 0 arguments root_window) memory 0

-- the whole plain run is the one from the first level, as is that with other weights
serial-starts : (i : Input) → Takes i → (j : Job) → j.image ≡ i.image → j.parameters ≡ i.parameters
    → serial_of j i.arguments i.memory ≡ begun_down j i.arguments i.memory 0
unfolding serial_of serial_from
serial-starts i t j e f = rw (e, f, t.image, eq-eqb _ _ t.arguments, eq-eqb _ _ t.parameters, eq-eqb _ _ t.memory)

ends_as : (x : Ended) (v n : ℕ) (w : ℕ → ℕ) → as_outcome x ≡ t-done v w n → Finishes x × (units_of x ≡ n)
ends_as (done v m u) v' n w e = (tt, cc)
ends_as (stopped x m u) v' n w e = let z : ◌≡◌ {A = ℕ} 0 1 = cc in absurd (omega arith)

-- begun k levels down, it finishes exactly where it goes at most 32 - k deep, and ends as it does
down-exact : (j : Job) (arguments memory : List ℕ) (k : ℕ) → k < 32
    → Exact k (depth_within j (suc j.allowance) 1 (started_on 0 arguments root_window) memory 0) (begun_down j arguments memory k) (begun_down j arguments memory 0)
unfolding call_from
down-exact j arguments memory k low =
    subst (λ n. Exact k (depth_within j (suc j.allowance) 1 (started_on 0 arguments root_window) memory 0)
    (call_within j (suc j.allowance) n (started_on 0 arguments root_window) memory 0) (call_within j (suc j.allowance) 1 (started_on 0 arguments root_window) memory 0))
    (let z : 1 + k ≡ suc k = omega arith in z) (depth-exact j (suc j.allowance) k 1 (started_on 0 arguments root_window) memory 0 (omega arith))

pub depth-in-exact : (i : Input) (k : ℕ) → k < 32
    → Exact k (depth_in i) (begun_down (job_in i) i.arguments i.memory k) (begun_down (job_in i) i.arguments i.memory 0)
depth-in-exact i k low = down-exact (job_in i) i.arguments i.memory k low

-- so the depth is from 1 to 32
pub depth-some : (i : Input) → 1 ≤ depth_in i
depth-some i = depth-least (job_in i) (suc i.allowance) 1 (started_on 0 i.arguments root_window) i.memory 0 (omega arith)

pub depth-most : (i : Input) → Takes i → (v u : ℕ) (m : List ℕ) → serial_in i ≡ done v m u → depth_in i ≤ 32
depth-most i t v u m e =
    let z = (depth-in-exact i 0 (omega arith)).fits (subst Finishes (sym (sym (serial-starts i t (job_in i) refl refl) ∙ e)) tt) in omega arith

module _ (i : Input) (t : Takes i) (k : ℕ) (low : k ≤ 31) (v u : ℕ) (m : List ℕ) (finishes : serial_in i ≡ done v m u) (deep : depth_in i + k ≤ 32) where
  abbrev j : Job
  j = job_in i

  abbrev g : GoodJob (job_in i)
  g = good i t

  pub down : begun_down (job_in i) i.arguments i.memory k ≡ done v m u
  down = (depth-in-exact i k (omega arith)).same deep ∙ sym (serial-starts i t (job_in i) refl refl) ∙ finishes

  abbrev pub ending : Ending (job_in i) (good i t) i.arguments i.memory k low
  ending = ends j g i.arguments i.memory k low t.arguments t.memory v u m down

  pub enough : ending.end.units ≤ i.allowance
  enough = ends-enough j g i.arguments i.memory k low t.arguments t.memory v u m down

  -- with weights 1, begun k levels down
  counted-down : (w : ℕ → ℕ) × (as_outcome (begun_down (counting_job j) i.arguments i.memory k) ≡ t-done v w ending.count)
  unfolding begin serial-run
  counted-down =
      let ws = words-from 32 i.memory in
      let first = first_local j g i.arguments i.memory in
      let job = the_job j g i.arguments i.memory in
      let (t₁, r₁, q, n) = steps-counted j g k ending.count _ ending.end _ (begin-same j g k first ws) ending.run in
      let least = steps-cost j g k ending.count _ ending.end ending.run in
      let most = enough in
      let a = agrees (counted j g k) i.allowance (λ l. (jobCode (counting_job j) (counting-good j g)).weighs l.routine l.position) first ws
      job.valid job.own ending.count t₁ r₁ v
      (ap (λ f. f []) q.at ∙ (returned j g i.arguments i.memory k low t.arguments t.memory v u m down).node) (omega arith) in (
        t₁.memory,
        is-theory-below (counting_job j) (counting-good j g) i.arguments i.memory t.arguments t.memory k
            ∙ depth_same (counting_job j) (counting-good j g) i.arguments i.memory k
            ∙ sym (serial-deeper k (threads windows window-tests (jobCode (counting_job j) (counting-good j g))) i.allowance (suc i.allowance) 0 first zeros ws 0
            ∙ ap (λ n. serial-call (threads windows window-tests (jobCode (counting_job j) (counting-good j g))) i.allowance (suc i.allowance) n first zeros ws 0)
            (let z : 0 + k ≡ k = omega arith in z))
            ∙ a ∙ ap (t-done v t₁.memory) (let z : t₁.units ≡ ending.count = omega arith in z),
      )

  -- so it does from the first level
  pub commands-are-steps : commands_in i ≡ ending.count
  commands-are-steps =
      let (w, e) = counted-down in
      let (over, units) = ends_as (begun_down (counting_job j) i.arguments i.memory k) v ending.count w e in
      let exact = down-exact (counting_job j) i.arguments i.memory k (omega arith) in
      ap units_of (serial-starts i t (counting_job j) refl refl ∙ sym (exact.same (exact.fits over))) ∙ units
