-- The demands of what a run gives and leaves, from what it gives alone. Assumes nothing.
use mathlib.Core.List.{List}
use mathlib.Core.Path.{◌≡◌, sym, ◌∙◌, subst, ap}
use Prim.Native.Nat.{ℕ, ◌<◌, ◌+◌, ◌≤◌}
use lib.ListN.{length, get_or, drop, length-append, length-drop, replicate}
use native.Mathlib.Decide.{ℕ_discrete}
use native.Mathlib.Omega.{arith}
use Rattle.schedule.specs.declared.Entry.{Entry}
use Rattle.schedule.specs.Meaning.{Schedule, schedule_of}
use Rattle.rules.proofs.Laws.{run-next, logs-many}
use Rattle.rules.specs.Runs.{logs_from, run_from, logged}
use Rattle.rules.specs.State.{State, Outcome, going, finished, faulted}
use Rattle.serial.specs.Serial.{done}
use Rattle.soundness.proofs.Unchanged.{unchanged}
use Rattle.demands.proofs.Shared.{shared-reading}
use Rattle.demands.proofs.Demands.{demand-2-logged, demand-3, sound-after}
use Rattle.demands.proofs.Passing.{takes, has_room}
use Rattle.demands.proofs.SerialNumbers.{serial-numbers}
use Rattle.demands.proofs.WholeRun.{run-numbers}
use Rattle.demands.specs.Input.{Input, job_in, start_in, refusal_of, answer_of, entry_count}
use Rattle.demands.specs.Demands.{Demand1, Demand2, Demand3, serial_in}
use Rattle.demands.specs.declared.RunRefusal.{RunRefusal}
use Rattle.demands.specs.declared.RunAnswer.TheVariants.{Refused, Finished}
use Rattle.run.specs.declared.Ran.{Ran}
use Rattle.run.specs.Run.{IsPlayed, RunsAs}
use Rattle.run.specs.Promise.{RunPromise}
use Rattle.std.proofs.Common.{Ok}

-- log bytes over the front of a log
whole : (bytes log : List ℕ) → length bytes ≤ length log → length (logged log bytes) ≡ length log
whole bytes log h = length-append bytes (drop (length bytes) log) ∙ ap (λ n. length bytes + n) (length-drop (length bytes) log) ∙ omega (arith, h)

-- an answer by entries is no refusal
no-refusal : (o : Outcome) (u : ℕ) (why : RunRefusal) → ¬ (answer_of o u ≡ Refused why)
no-refusal going u n e = let z : ◌≡◌ {A = ℕ} 0 1 = cc in omega arith
no-refusal (finished v) u n e = let z : ◌≡◌ {A = ℕ} 0 1 = cc in omega arith
no-refusal (faulted m t o) u n e = let z : ◌≡◌ {A = ℕ} 0 1 = cc in omega arith

-- an answer that tells a result is a finished machine's
pub finished-by : (o : Outcome) (w v u : ℕ) → answer_of o w ≡ Finished v u → (o ≡ finished v) × (w ≡ u)
finished-by going w v u e = let z : ◌≡◌ {A = ℕ} 0 1 = cc in absurd (omega arith)
finished-by (finished x) w v u e = (cc, cc)
finished-by (faulted m t o) w v u e = let z : ◌≡◌ {A = ℕ} 0 1 = cc in absurd (omega arith)

module _ (i : Input) (schedule log : List ℕ) (bytes : (k : ℕ) → get_or i.image k 0 < 256) (r : Ran) (memory_after logAfter : List ℕ)
    (runs : RunsAs i schedule log r memory_after logAfter) where
  -- a run by entries: the memory and the log have the lengths that they had
  within : refusal_of i schedule log ≡ 0
      → (¬ ((why : RunRefusal) × (r.shown.answer ≡ Refused why))) × (length memory_after ≡ length i.memory) × (length logAfter ≡ length log)
  within passes =
      let (es, means, p) = runs.played passes in
      let k = takes i schedule log passes bytes in
      let room = has_room i schedule log passes in
      let same : ◌≡◌ {A = Schedule} (Ok es) (Ok room.all) = sym means ∙ room.means in
      let many : length es ≡ length room.all = ap entry_count same in (
        λ (n, q). no-refusal (run_from (job_in i) (start_in i) es).outcome (run_from (job_in i) (start_in i) es).units n (sym p.answer ∙ q),
        ap length p.memory ∙ (sound-after i k es).sized.memory ∙ sym k.memory,
        ap length p.log ∙ whole (logs_from (job_in i) (start_in i) es) log (omega (arith, logs-many (job_in i) (start_in i) es, many, room.room)),
      )

  demand-1 : Demand1 i schedule log r.shown.answer memory_after logAfter
  demand-1 = record {
    bad = λ some. let q = runs.refused some in (q.answer, q.memory, q.log);
    good = within;
    untouched = λ before e (low, high).
        run-next (job_in i) (start_in i) before e ∙ unchanged (job_in i) (run_from (job_in i) (start_in i) before) e low high;
  }

  -- an accepted schedule has one list of entries
  entries-same : (xs ys : List Entry) → ◌≡◌ {A = Schedule} (Ok xs) (Ok ys) → xs ≡ ys
  entries-same xs ys e = cc

  at_each : (es : List Entry) → schedule_of schedule ≡ Ok es → refusal_of i schedule log ≡ 0 → Demand2 i es logAfter
  at_each es means passes =
      let (xs, q, p) = runs.played passes in
      let same : xs ≡ es = entries-same xs es (sym q ∙ means) in
      let here = demand-2-logged i (takes i schedule log passes bytes) xs (drop (length (logs_from (job_in i) (start_in i) xs)) log) in
      subst (λ l. Demand2 i l logAfter) same (subst (Demand2 i xs) (sym p.log) here)

  -- a run that tells a result was not refused, and its machine has finished
  pub record Finishes (v u : ℕ) : Type 0 where
    pub passes : refusal_of i schedule log ≡ 0
    pub met : List Entry
    pub played : IsPlayed i met log r memory_after logAfter
    pub over : (run_from (job_in i) (start_in i) met).outcome ≡ finished v
    pub units : (run_from (job_in i) (start_in i) met).units ≡ u

  finishes : (v u : ℕ) → r.shown.answer ≡ Finished v u → Finishes v u
  finishes v u e = go (ℕ_discrete (refusal_of i schedule log) 0)
    where
      go : Dec (refusal_of i schedule log ≡ 0) → Finishes v u
      go (yes passes) =
          let (es, q, p) = runs.played passes in
          let end : State = run_from (job_in i) (start_in i) es in
          let (over, units) = finished-by end.outcome end.units v u (sym p.answer ∙ e) in
          record { passes = passes; met = es; played = p; over = over; units = units }
      go (no some) = let q = (runs.refused some).answer.refused in let z : ◌≡◌ {A = ℕ} 0 1 = cc in absurd (omega arith)

  -- by the demand at its end
  ends : (v u : ℕ) (f : Finishes v u) → Demand3 i (run_from (job_in i) (start_in i) f.met)
  ends v u f = demand-3 i (takes i schedule log f.passes bytes) f.met

  plain-run : (v u : ℕ) → r.shown.answer ≡ Finished v u → serial_in i ≡ done v memory_after u
  plain-run v u e = let f = finishes v u e in (ends v u f).agrees v f.over ∙ (λ ι. done v (sym f.played.memory ι) (f.units ι))

  words-run : (v u : ℕ) → r.shown.answer ≡ Finished v u → r.words ≡ replicate 1024 0
  words-run v u e = let f = finishes v u e in f.played.machine.words ∙ ((ends v u f).free v f.over).words

  pub promised : RunPromise i schedule log r memory_after logAfter
  promised = record {
    runs = runs;
    demand1 = demand-1;
    numbers = run-numbers i schedule log;
    demand2 = at_each;
    demand3 = λ passes es. demand-3 i (takes i schedule log passes bytes) es;
    shared = λ passes es. shared-reading i (takes i schedule log passes bytes) es;
    plain = plain-run;
    words = words-run;
    plain_numbers = serial-numbers i;
  }
