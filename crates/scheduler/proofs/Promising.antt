-- The parts of a run put together: `begin` gives the tests and Start, the rounds give the rest. Assumes nothing.
use mathlib.Core.List.{List, []}
use mathlib.Core.Path.{◌≡◌, refl, sym, ◌∙◌, ap, subst}
use Prim.Native.Nat.{ℕ, zero, suc, ◌*◌, ◌<◌}
use native.Mathlib.Omega.{arith}
use lib.ListN.{get_or, length, replicate}
use Rattle.schedule.specs.declared.Entry.TheVariants.{Step}
use Rattle.schedule.specs.Format.{bytes_of_entries}
use Rattle.thread.specs.Job.{job_of}
use Rattle.rules.specs.State.{State}
use Rattle.tables.specs.Meaning.{size, meaning}
use Rattle.entries.specs.Given.{Sounding}
use Rattle.start.specs.Start.{Starts}
use Rattle.demands.specs.declared.RunAnswer.TheVariants.{Refused, Finished}
use Rattle.demands.specs.Input.{Input, job_in, start_in, answer_of, Numbered}
use Rattle.demands.proofs.Passing.{takes}
use Rattle.demands.proofs.WholeRun.{scheduler-numbers, number-told}
use Rattle.std.specs.Prelude.{Ok, Err}
use Rattle.image.specs.Layout.{program_of, starts_in}
use Rattle.begin.proofs.Beginning.{refused-by, passed-by, starts-by}
use Rattle.demands.proofs.Tests.{not-zero, tells}
use Rattle.demands.specs.declared.RunRefusal.{RunRefusal}
use Rattle.run.specs.declared.Shown.{Shown}
use Rattle.begin.specs.Begins.{Begins}
use Rattle.serial.specs.Serial.{done}
use Rattle.run.specs.Machine.{MachineIs}
use Rattle.run.proofs.Running.{first, ready}
use Rattle.run.proofs.RunDemand.{finished-by}
use Rattle.lonecore.specs.Commands.{commands_in}
use Rattle.lonecore.proofs.LoneCore.{never-dry}
use Rattle.lonecore.proofs.SeveralCores.{few-in-use, never-short}
use Rattle.scheduler.proofs.Equalling.{equals, ends}
use Rattle.scheduler.specs.declared.Scheduled.{Scheduled}
use Rattle.turns.specs.Steps.{Rounded}
use Rattle.scheduler.specs.Promise.{refusal_in, scheduled_of, SchedulerPromise}

-- a step's entry has two bytes
steps-bytes : (n : ℕ) → length (bytes_of_entries (replicate n (Step 0))) ≡ 2 * n
unfolding bytes_of_entries
steps-bytes zero = refl
steps-bytes (suc n) = let z = steps-bytes n in omega arith

-- a refusal tells no result
told_refused : (why : RunRefusal) (v u : ℕ) → ¬ (Refused why ≡ Finished v u)
told_refused why v u e = let z : ◌≡◌ {A = ℕ} 0 1 = cc in omega arith

module _ (i : Input) (xs ys ws vs : List ℕ) (start : Starts i.image i.arguments i.cores xs ys ws vs) (sized : length xs ≡ size) (wide : length ws ≡ 1024) where
  at-start : meaning ys vs i.memory ≡ start_in i
  at-start = first i [] [] xs ys ws vs start sized wide

  -- refused
  pub refuses : (why : RunRefusal) → Begins i [] [] (Err why) → (before : List ℕ) (shown : Shown) → shown.answer ≡ Refused why
      → MachineIs (meaning ys vs i.memory) shown.counts shown.statuses vs
      → SchedulerPromise i before (record { ran = record { shown = shown; words = vs }; used = 0 }) i.memory before
  refuses why begun before shown answer machine =
      let test = refused-by i [] [] why begun in
      let no-result : (v u : ℕ) → shown.answer ≡ Finished v u → ⊥ = λ v u e. told_refused why v u (sym answer ∙ e) in
      record {
        refused = λ _. record {
          answer = tells i [] [] test answer;
          memory = refl;
          buffer = refl;
          used = refl;
          machine = subst (λ (s : State). MachineIs s shown.counts shown.statuses vs) at-start machine;
        };
        scheduled = λ z. absurd (not-zero i [] [] test z);
        equals = λ z. absurd (not-zero i [] [] test z);
        ends = λ z. absurd (not-zero i [] [] test z);
        numbers = scheduler-numbers i;
        plain = λ v u e. absurd (no-result v u e);
        words = λ v u e. absurd (no-result v u e);
        lone_core = λ z. absurd (not-zero i [] [] test z);
        few_in_use = λ z. absurd (not-zero i [] [] test z);
        several_cores = λ z. absurd (not-zero i [] [] test z);
      }

  module _ (starts : List ℕ) (begun : Begins i [] [] (Ok starts)) (bytes : (k : ℕ) → get_or i.image k 0 < 256) where
    passes : refusal_in i ≡ 0
    passes = passed-by i [] [] starts begun

    places : starts ≡ starts_in (program_of i.image)
    places = starts-by i [] [] starts begun

    pub goes : length ys ≡ size → Sounding i.image starts i.parameters i.allowance ys vs i.memory
    goes same = ready i [] [] xs ys ws vs start sized wide starts begun same bytes

    pub schedules : (before zs : List ℕ) (x : Scheduled) (memory_after after : List ℕ)
        → Rounded (job_of i.image starts i.parameters i.allowance) (meaning ys vs i.memory) before (meaning zs x.ran.words memory_after) x.used after
        → x.ran.shown.answer ≡ answer_of (meaning zs x.ran.words memory_after).outcome (meaning zs x.ran.words memory_after).units
        → MachineIs (meaning zs x.ran.words memory_after) x.ran.shown.counts x.ran.shown.statuses x.ran.words
        → SchedulerPromise i before x memory_after after
    unfolding meaning
    schedules before zs x memory_after after q a shows =
        let p : Rounded (job_in i) (start_in i) before (meaning zs x.ran.words memory_after) x.used after = rw (places, at-start) at q in
        let end : State = (scheduled_of i (length before)).state in
        let answer : x.ran.shown.answer ≡ answer_of end.outcome end.units = a ∙ ap (λ (s : State). answer_of s.outcome s.units) p.state in
        let memory : memory_after ≡ end.store.memory = ap (λ (s : State). s.store.memory) p.state in
        record {
          refused = λ n. absurd (n passes);
          scheduled = λ z. record {
            answer = answer;
            number = subst (Numbered end.outcome) (sym answer) (number-told end.outcome end.units);
            memory = memory;
            machine = subst (λ (s : State). MachineIs s x.ran.shown.counts x.ran.shown.statuses x.ran.words) p.state shows;
            buffer = p.buffer;
            used = p.used;
          };
          equals = λ z. equals i (length before) z bytes;
          ends = λ _. ends i (length before);
          numbers = scheduler-numbers i;
          plain = λ v u e.
              let (over, units) = finished-by end.outcome end.units v u (sym answer ∙ e) in
              (equals i (length before) passes bytes).demand.agrees v over ∙ (λ ι. done v (sym memory ι) (units ι));
          words = λ v u e.
              let (over, units) = finished-by end.outcome end.units v u (sym answer ∙ e) in
              ap (λ (s : State). s.store.words) p.state ∙ ((equals i (length before) passes bytes).demand.free v over).words;
          lone_core = λ z v u m h.
              let dry = never-dry i (takes i [] [] passes bytes) (length before) v u m h in
              record {
                answer = answer ∙ (λ ι. answer_of (dry.outcome ι) (dry.units ι));
                memory = memory ∙ dry.memory;
                used = p.used ∙ ap (λ es. length (bytes_of_entries es)) dry.entries ∙ steps-bytes (commands_in i);
                run = dry;
              };
          few_in_use = λ z only v u m finishes. few-in-use i (takes i [] [] passes bytes) only v u m finishes (length before);
          several_cores = λ z v u m h.
              let short = never-short i (takes i [] [] passes bytes) (length before) v u m h in
              record { answer = answer ∙ (λ ι. answer_of (short.outcome ι) (short.units ι)); memory = memory ∙ short.memory; run = short };
        }
