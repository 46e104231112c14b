-- Demands 2 and 3 hold for every input that a run takes and every list of entries. Assumes nothing.
use borrow.Author.Tests.{eq-eqb}
use mathlib.Core.Bool.{true}
use mathlib.Core.List.{List, [], ◌∷◌, ◌++◌, append-nil}
use mathlib.Core.Logic.{◌⊎◌}
use mathlib.Core.Path.{◌≡◌, refl, sym, ◌∙◌, ap, subst}
use Prim.Native.Nat.{ℕ, ◌<◌}
use native.Mathlib.Omega.{arith}
use lib.ListN.{length, get_or}
use Rattle.command.proofs.RoundTrip.{reads-back, writes_again}
use Rattle.schedule.specs.declared.Entry.{Entry}
use Rattle.forkjoin.proofs.Arrays.{words-from, words-eq}
use Rattle.forkjoin.proofs.SerialRun.{done as t-done}
use Rattle.stacklets.specs.Tops.{top_at}
use Rattle.thread.specs.declared.Status.TheVariants.{Free}
use Rattle.census.proofs.Totals.{all_in}
use Rattle.rules.specs.State.{Job, State, finished, faulted, is_over}
use Rattle.rules.specs.Rules.{entry_of, step_of, take_of}
use Rattle.rules.specs.Start.{start_state}
use Rattle.rules.specs.Sound.{Sound, status_at, Unused}
use Rattle.rules.proofs.Laws.{run-next, log-at}
use Rattle.rules.specs.Runs.{run_from, logs_from}
use Rattle.serial.specs.Serial.{Ended, done, stopped, serial_of, serial_from}
use Rattle.soundness.proofs.Queues.{every_map, every-member}
use Rattle.soundness.proofs.Kept.{run_sound, entry-sound}
use Rattle.soundness.proofs.KeepSized.{keep-count}
use Rattle.soundness.proofs.StartSound.{start-sound}
use Rattle.soundness.proofs.Finished.{finished-free, finished-numbers, finished-all, finished-words}
use Rattle.soundness.proofs.KeepStacklets.{finished-stacklets}
use Rattle.soundness.proofs.Jam.{jam}
use Rattle.soundness.proofs.Numbers.{numbers}
use Rattle.simulation.proofs.EntriesRun.{entries-agree, entries-faultless}
use Rattle.demands.proofs.Passing.{good}
use Rattle.demands.proofs.SerialTheory.{as_outcome, memory_of, IsTheory, is-theory}
use Rattle.demands.specs.Input.{Input, job_in, start_in}
use Rattle.demands.specs.Demands.{Takes, Demand2, Demand3, AllFree, IsRefusal, IsTight, serial_in}

cores-kept : (j : Job) (s : State) → Sound j s → (es : List Entry) → (run_from j s es).count ≡ s.count
unfolding run_from
cores-kept j s ok [] = refl
cores-kept j s ok (e ∷ es) = cores-kept j (entry_of j s e).state (entry-sound j s ok e) es ∙ keep-count j s ok e

module _ (i : Input) (k : Takes i) where
  start-cores : (start_in i).count ≡ i.cores
  unfolding start_state
  start-cores = refl

  -- the whole-run tests of the serial run pass
  serial-starts : serial_in i ≡ serial_from (job_in i) i.arguments i.memory
  unfolding serial_of
  serial-starts = rw (k.image, eq-eqb _ _ k.arguments, eq-eqb _ _ k.parameters, eq-eqb _ _ k.memory)

  theory : IsTheory (job_in i) (good i k) i.arguments i.memory
  theory = is-theory (job_in i) (good i k) i.arguments i.memory k.arguments k.memory

  module _ (es : List Entry) where
    abbrev end : State
    end = run_from (job_in i) (start_in i) es

    sound : Sound (job_in i) end
    sound = run_sound (job_in i) i.cores i.arguments i.memory (good i k) k.some k.most k.memory es

    same_end : (x : Ended) (v u : ℕ) (m : List ℕ) → length m ≡ 992 → length (memory_of x) ≡ 992 → as_outcome x ≡ t-done v (words-from 32 m) u → x ≡ done v m u
    same_end (done w n t) v u m h l e =
        let a : w ≡ v = cc in
        let b : t ≡ u = cc in
        let c : words-from 32 n ≡ words-from 32 m = cc in
        let d : n ≡ m = words-eq 32 n m (l ∙ sym h) c in
        λ ι. done (a ι) (d ι) (b ι)
    same_end (stopped w n t) v u m h l e = let z : ◌≡◌ {A = ℕ} 0 1 = cc in absurd (omega arith)

    agree : (v : ℕ) → end.outcome ≡ finished v → serial_in i ≡ done v end.store.memory end.units
    agree v over =
        serial-starts
        ∙ same_end (serial_from (job_in i) i.arguments i.memory) v end.units end.store.memory sound.sized.memory theory.size
        (theory.same ∙ entries-agree (job_in i) (good i k) i.arguments i.memory i.cores k.some k.most k.arguments k.memory es v over)

    free : (v : ℕ) → end.outcome ≡ finished v → AllFree end
    free v over = record {
      records = λ t h. finished-free (job_in i) end sound v over t;
      counted = all_in Free end.threads (λ t h. finished-free (job_in i) end sound v over t) ∙ sound.sized.threads;
      threads = finished-numbers (job_in i) end sound v over;
      stacklets = (finished-stacklets (job_in i) end sound v over).1;
      threads_once = record {
        many = finished-all (job_in i) end sound v over;
        once = sound.free_threads.once;
        below = every_map (λ n h. h.0) end.queues.free_threads sound.free_threads.free;
      };
      stacklets_once = record {
        many = (finished-stacklets (job_in i) end sound v over).0;
        once = (finished-stacklets (job_in i) end sound v over).2;
        below = every_map (λ x h. h.0) end.queues.free_stacklets sound.free_stacklets.free;
      };
      tops = λ x h. (every-member (λ y. (y < 16) × (top_at end.store.tops y ≡ 0) × Unused end y) end.queues.free_stacklets sound.free_stacklets.free x
          ((finished-stacklets (job_in i) end sound v over).1 x h)).1;
      words = finished-words (job_in i) end sound v over;
    }

    unfinished : (n u : ℕ) (m : List ℕ) → serial_in i ≡ stopped n m u → (v : ℕ) → end.outcome ≡ finished v → ⊥
    unfinished n u m e v over = let a = agree v over in let z : ◌≡◌ {A = ℕ} 0 1 = cc in omega arith

    unfaulted : (v u : ℕ) (m : List ℕ) → serial_in i ≡ done v m u → (n t o : ℕ) → end.outcome ≡ faulted n t o → ⊥
    unfaulted v u m e n t o over =
        entries-faultless (job_in i) (good i k) i.arguments i.memory i.cores k.some k.most k.arguments k.memory v u (words-from 32 m)
        (sym theory.same ∙ ap as_outcome (sym serial-starts ∙ e)) es n t o over

    -- the machine's cores are as many as the run was given
    count_kept : end.count ≡ i.cores
    count_kept = cores-kept (job_in i) (start_in i) (start-sound (job_in i) i.cores i.arguments i.memory (good i k) k.some k.most k.memory) es ∙ start-cores

    never-jams : ((c : ℕ) → c < i.cores → IsRefusal (step_of (job_in i) end c).log × IsRefusal (take_of end c).log)
        → (is_over end.outcome ≡ true)
        ⊎ (((t : ℕ) × (t < 32) × (status_at end t ≡ 3)) ⊎ ((c : ℕ) × (c < i.cores) × IsTight (step_of (job_in i) end c).log))
    never-jams stuck =
        subst
        (λ n. (is_over end.outcome ≡ true) ⊎ (((t : ℕ) × (t < 32) × (status_at end t ≡ 3)) ⊎ ((c : ℕ) × (c < n) × IsTight (step_of (job_in i) end c).log)))
        count_kept
        (jam (job_in i) end sound (λ c h. stuck c (rw count_kept at h)))

    at-end : Demand3 i end
    at-end = record { agrees = agree; free = free; free_words = sound.free_words; unfinished = unfinished; unfaulted = unfaulted; jam = never-jams }

pub demand-3 : (i : Input) → Takes i → (es : List Entry) → Demand3 i (run_from (job_in i) (start_in i) es)
demand-3 i k es = at-end i k es

pub sound-after : (i : Input) → Takes i → (es : List Entry) → Sound (job_in i) (run_from (job_in i) (start_in i) es)
sound-after i k es = sound i k es

-- demand 2, whatever stands behind the log bytes
pub demand-2-logged : (i : Input) → Takes i → (es : List Entry) (rest : List ℕ) → Demand2 i es (logs_from (job_in i) (start_in i) es ++ rest)
demand-2-logged i k es rest = record {
  moves = λ before after e q. (
    ap (λ l. get_or (logs_from (job_in i) (start_in i) l ++ rest) (length before) 0) q ∙ log-at (job_in i) (start_in i) before after e rest,
    run-next (job_in i) (start_in i) before e,
  );
  numbers = λ before after q. numbers (job_in i) (run_from (job_in i) (start_in i) before) (sound-after i k before);
  back = reads-back;
  again = writes_again;
}

pub demand-2 : (i : Input) → Takes i → (es : List Entry) → Demand2 i es (logs_from (job_in i) (start_in i) es)
demand-2 i k es = subst (Demand2 i es) (append-nil (logs_from (job_in i) (start_in i) es)) (demand-2-logged i k es [])
