-- The document's worked case: its image is a good job, its twelve entries finish the machine with 10 and 20 units by computation, and so the
-- serial run, by the theorem, returns 10 with 20 units. The statements of `EntriesRun` are not empty.
use mathlib.Core.Bool.{Bool, true, ◌&&◌}
use mathlib.Core.List.{List, [], ◌∷◌}
use mathlib.Core.Path.{◌≡◌, refl, ◌∙◌}
use Prim.Native.Nat.{ℕ, zero, suc, ◌<◌}
use native.Mathlib.Omega.{arith}
use lib.Dec.{ltb}
use lib.ListN.{get_or, replicate, length-replicate}
use borrow.Author.Tests.{ltb-true}
use Rattle.command.proofs.Tables.{weight-least}
use Rattle.command.specs.Command.{decoded, command_at}
use Rattle.command.proofs.Bools.{both}
use Rattle.image.specs.Layout.{start_of}
use Rattle.image.specs.Code.{commands_from, commands_of, is_start, verdict_from, last_ends, targets_good, routine_verdict}
use Rattle.image.specs.Image.{in_range, rows_good, routines_verdict, image_verdict}
use Rattle.schedule.specs.declared.Entry.{Entry}
use Rattle.schedule.specs.declared.Entry.TheVariants.{Step, Take, Steal, Enable}
use Rattle.queue.specs.Contents.{appended}
use Rattle.window.specs.Rights.{may_store, may_load, cut_at}
use Rattle.stacklets.specs.Tops.{fits_on, pushed_tops}
use Rattle.stacklets.specs.Frames.{arguments_at, framed, pushed_words}
use Rattle.forkjoin.proofs.Arrays.{words-from}
use Rattle.forkjoin.proofs.SerialRun.{done}
use Rattle.thread.specs.Effect.{run, any_pending, unless_pending, provided, forking, effect_of}
use Rattle.thread.specs.Thread.{is_pending, with_pending}
use Rattle.rules.specs.State.{Job, State, finished, job_of}
use Rattle.rules.specs.Sound.{GoodJob}
use Rattle.rules.specs.Turn.{effect_at}
use Rattle.rules.specs.Leave.{leaves}
use Rattle.rules.specs.Fork.{goes_above, place_of, born, fork_on, fork_with, fork_of}
use Rattle.rules.specs.Return.{stacklets_without, wakes, status_after, ready_after, return_to_parent, return_of}
use Rattle.rules.specs.Rules.{carried_of, turn_of, step_of, take_into, take_of, is_seed, stolen_of, steal_of, enable_of, entry_of}
use Rattle.rules.specs.Start.{start_state}
use Rattle.rules.specs.Runs.{run_from}
use Rattle.simulation.proofs.EntriesRun.{serial_run, end_of, entries-agree}

abbrev image : List ℕ
image = 2 ∷ 3 ∷ 0 ∷ 21 ∷ 0 ∷ 1 ∷ 0 ∷ 6 ∷ 0 ∷ 1 ∷ 2 ∷ 32 ∷ 0 ∷ 8 ∷ 1 ∷ 0 ∷ 0 ∷ 2 ∷ 8 ∷ 1 ∷ 1 ∷ 1 ∷ 2 ∷ 10 ∷ 2 ∷ 0 ∷ 0 ∷ 1 ∷ 13 ∷ 0 ∷ 1 ∷ 0 ∷ 5 ∷ 0 ∷ 13 ∷ 0 ∷ []

abbrev job : Job
job = job_of image (9 ∷ 30 ∷ []) (replicate 32 0) 100

abbrev entries : List Entry
entries = Step 0 ∷ Step 0 ∷ Steal 1 0 ∷ Take 1 ∷ Step 1 ∷ Step 1 ∷ Step 0 ∷ Step 0 ∷ Step 0 ∷ Step 0 ∷ Step 0 ∷ Enable 1 ∷ []

abbrev all_bytes : List ℕ → Bool
all_bytes [] = true
all_bytes (x ∷ xs) = ltb x 256 && all_bytes xs

bytes_below : (s : List ℕ) → all_bytes s ≡ true → (i : ℕ) → get_or s i 0 < 256
bytes_below [] h i = omega arith
bytes_below (x ∷ xs) h zero = ltb-true x 256 (both (ltb x 256) (all_bytes xs) h).0
bytes_below (x ∷ xs) h (suc i) = bytes_below xs (both (ltb x 256) (all_bytes xs) h).1 i

starts : (r : ℕ) → r < 2 → get_or (9 ∷ 30 ∷ []) r 0 ≡ start_of image r
unfolding start_of
starts zero l = refl
starts (suc zero) l = refl
starts (suc (suc r)) l = absurd (omega arith)

pub good : GoodJob job
unfolding image_verdict start_of rows_good routines_verdict routine_verdict verdict_from last_ends commands_of commands_from command_at decoded in_range is_start targets_good
good = record {
  image = refl;
  bytes = bytes_below image refl;
  starts = starts;
  parameters = length-replicate {A = ℕ} 32 0;
  weighs = weight-least;
}

-- two cores, no arguments, words that start zero
abbrev end : State
end = end_of job good [] (replicate 992 0) 2 (omega arith) (omega arith) refl (length-replicate {A = ℕ} 992 0) entries

-- the machine's end, computed by the rules
pub computed : (end.outcome ≡ finished 10) × (end.units ≡ 20) × (end.store.memory ≡ replicate 992 0)
unfolding run_from effect_at leaves goes_above place_of born fork_on fork_with fork_of stacklets_without wakes status_after ready_after return_to_parent return_of carried_of turn_of step_of take_into take_of is_seed stolen_of steal_of enable_of entry_of start_state appended fits_on pushed_tops arguments_at framed pushed_words run any_pending unless_pending provided forking effect_of is_pending with_pending may_store may_load cut_at decoded
computed = (refl, refl, refl)

-- and so the serial run's, by the theorem
pub serial : serial_run job good [] (replicate 992 0) ≡ done 10 (words-from 32 (replicate 992 0)) 20
serial = entries-agree job good [] (replicate 992 0) 2 (omega arith) (omega arith) refl (length-replicate {A = ℕ} 992 0) entries 10 computed.0
    ∙ (λ ι. done 10 (words-from 32 (computed.2 ι)) (computed.1 ι))
