-- The parts of a run put together: Start, the tests, the entries and the answer make what the contract of `run` says. Assumes nothing.
use mathlib.Core.List.{List}
use mathlib.Core.Path.{◌≡◌, refl, sym, ◌∙◌, ap, ap₂, subst}
use Prim.Native.Nat.{ℕ, ◌≤◌, ◌<◌}
use lib.ListN.{length, get_or, take}
use lib.Seq.{take_all}
use Rattle.image.specs.Layout.{program_of, starts_in}
use Rattle.thread.specs.Job.{job_of}
use Rattle.rules.specs.State.{State, going}
use Rattle.rules.specs.Sound.{Sound}
use Rattle.rules.specs.Runs.{run_from, logs_from, logged}
use Rattle.tables.specs.declared.Standing.{Standing}
use Rattle.tables.specs.Meaning.{size, meaning}
use Rattle.tables.specs.Change.{Reads, outcome_by}
use Rattle.entries.specs.Given.{Sounding}
use Rattle.start.specs.Start.{Starts}
use Rattle.schedule.specs.declared.Entry.{Entry}
use Rattle.schedule.specs.Meaning.{schedule_of}
use Rattle.schedule.proofs.Following.{accepted}
use Rattle.play.proofs.Leading.{leads-all}
use Rattle.soundness.proofs.StartSound.{start-sound}
use Rattle.demands.proofs.Passing.{takes, good, has_room}
use Rattle.demands.specs.declared.RunAnswer.TheVariants.{Refused, Open}
use Rattle.demands.specs.Input.{Input, job_in, start_in, refusal_of, answer_of, Numbered}
use Rattle.demands.proofs.WholeRun.{number-told}
use Rattle.play.specs.Entries.{playable, Played}
use Rattle.run.specs.declared.Ran.{Ran}
use Rattle.begin.specs.Begins.{Begins}
use Rattle.begin.proofs.Beginning.{refused-by, passed-by, starts-by}
use Rattle.demands.proofs.Tests.{not-zero, tells}
use Rattle.demands.specs.declared.RunRefusal.{RunRefusal}
use Rattle.run.specs.declared.Shown.{Shown}
use Rattle.std.specs.Prelude.{Ok, Err}
use Rattle.run.specs.Machine.{MachineIs}
use Rattle.run.specs.Run.{RunsAs}
use Rattle.std.proofs.Common.{Ok}

-- how the machine stands as an answer
pub told : (xs : List ℕ) (st : Standing) (u : ℕ) → Reads xs (outcome_by st) (λ s. s.outcome) going → Reads xs u (λ s. s.units) 0
    → Reads xs (answer_of (outcome_by st) u) (λ s. answer_of s.outcome s.units) (Open 0)
told xs st u o n = record {
  means = λ l words memory. ap₂ answer_of (o.means l words memory) (n.means l words memory);
  other = λ l. ap₂ answer_of (o.other l) (n.other l);
}

module _ (i : Input) (schedule log : List ℕ) where
  sound : refusal_of i schedule log ≡ 0 → ((k : ℕ) → get_or i.image k 0 < 256) → Sound (job_in i) (start_in i)
  sound passes bytes =
      let t = takes i schedule log passes bytes in
      start-sound (job_in i) i.cores i.arguments i.memory (good i t) t.some t.most t.memory

  module _ (xs ys ws vs : List ℕ) (start : Starts i.image i.arguments i.cores xs ys ws vs) (sized : length xs ≡ size) (wide : length ws ≡ 1024) where
    pub first : meaning ys vs i.memory ≡ start_in i
    first = start.means sized wide (starts_in (program_of i.image)) i.parameters i.memory i.allowance

    pub refuses : (why : RunRefusal) → Begins i schedule log (Err why) → (shown : Shown) → shown.answer ≡ Refused why
        → MachineIs (meaning ys vs i.memory) shown.counts shown.statuses vs → RunsAs i schedule log (record { shown = shown; words = vs }) i.memory log
    refuses why begun shown answer machine =
        let test = refused-by i schedule log why begun in
        record {
          refused = λ _. record {
            answer = tells i schedule log test answer;
            memory = refl;
            log = refl;
            machine = subst (λ (s : State). MachineIs s shown.counts shown.statuses vs) first machine;
          };
          played = λ z. absurd (not-zero i schedule log test z);
        }

    module _ (starts : List ℕ) (begun : Begins i schedule log (Ok starts)) where
      passes : refusal_of i schedule log ≡ 0
      passes = passed-by i schedule log starts begun

      places : starts ≡ starts_in (program_of i.image)
      places = starts-by i schedule log starts begun

      pub ready : length ys ≡ size → ((k : ℕ) → get_or i.image k 0 < 256) → Sounding i.image starts i.parameters i.allowance ys vs i.memory
      ready same bytes = record { sized = same; sound = rw (places, first) (sound passes bytes) }

      -- all entries of an accepted schedule are met, where the log has room for them
      all-met : (es : List Entry) → schedule_of schedule ≡ Ok es → length es ≤ length log → playable schedule log ≡ es
      all-met es means room = ap (take (length log)) (leads-all schedule es 0 (accepted schedule es means).means) ∙ take_all (length log) es room

      pub plays : (zs : List ℕ) (r : Ran) (memory_after logAfter : List ℕ)
          → Played (job_of i.image starts i.parameters i.allowance) (meaning ys vs i.memory) schedule log (meaning zs r.words memory_after) logAfter
          → r.shown.answer ≡ answer_of (meaning zs r.words memory_after).outcome (meaning zs r.words memory_after).units
          → MachineIs (meaning zs r.words memory_after) r.shown.counts r.shown.statuses r.words
          → RunsAs i schedule log r memory_after logAfter
      unfolding meaning
      plays zs r memory_after logAfter p a shows =
          let q : Played (job_in i) (start_in i) schedule log (meaning zs r.words memory_after) logAfter = rw (places, first) at p in
          let room = has_room i schedule log passes in
          let es = room.all in
          let end : State = run_from (job_in i) (start_in i) es in
          let met : playable schedule log ≡ es = all-met es room.means room.room in
          let state : meaning zs r.words memory_after ≡ end = q.state ∙ ap (run_from (job_in i) (start_in i)) met in
          let answer : r.shown.answer ≡ answer_of end.outcome end.units = a ∙ ap (λ (s : State). answer_of s.outcome s.units) state in
          record {
            refused = λ some. absurd (some passes);
            played = λ _. (
              es,
              room.means,
              record {
                answer = answer;
                number = subst (Numbered end.outcome) (sym answer) (number-told end.outcome end.units);
                memory = ap (λ (s : State). s.store.memory) state;
                log = q.log ∙ ap (λ (l : List Entry). logged log (logs_from (job_in i) (start_in i) l)) met;
                machine = subst (λ (s : State). MachineIs s r.shown.counts r.shown.statuses r.words) state shows;
              },
            );
          }
