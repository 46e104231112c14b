-- The table of printed inputs holds, computed by the definition that `print` is proved equal to. Assumes nothing.
use mathlib.Core.Path.{◌≡◌, refl}
use Rattle.command.specs.Command.{command_at, decoded}
use Rattle.image.specs.Layout.{start_of, rows_of, starts_up_to}
use Rattle.image.specs.Code.{commands_from, commands_of, verdict_from, last_ends, is_start, targets_good, routine_verdict}
use Rattle.image.specs.Image.{rows_good, in_range, routines_verdict, image_verdict}
use Rattle.schedule.specs.Meaning.{schedule_of, entries_of}
use Rattle.queue.specs.Contents.{appended}
use Rattle.window.specs.Rights.{may_store, may_load, cut_at}
use Rattle.stacklets.specs.Tops.{fits_on, pushed_tops}
use Rattle.stacklets.specs.Frames.{arguments_at, framed, pushed_words}
use Rattle.thread.specs.Effect.{run, any_pending, unless_pending, provided, forking, effect_of}
use Rattle.thread.specs.Thread.{is_pending, with_pending}
use Rattle.rules.specs.Turn.{effect_at}
use Rattle.rules.specs.Leave.{leaves}
use Rattle.rules.specs.Fork.{goes_above, place_of, born, fork_on, fork_with, fork_of}
use Rattle.rules.specs.Return.{stacklets_without, wakes, status_after, ready_after, return_to_parent, return_of}
use Rattle.rules.specs.Rules.{carried_of, turn_of, step_of, take_into, take_of, is_seed, stolen_of, steal_of, enable_of, entry_of}
use Rattle.rules.specs.Start.{start_state}
use Rattle.rules.specs.Runs.{run_from, logs_from}
use Rattle.demands.specs.Input.{tests_of, refusal_of}
use Rattle.reading.specs.Reading.{words_from}
use Rattle.text.specs.Text.{digits_of, decimal_of, entry_lines}
use Rattle.transcript.specs.Transcript.{played_text, number_of_run, run_text, text_of}
use Rattle.transcript.specs.Cases.{printed, printed_text, text_by_hand}

pub printed-hold : printed_text printed ≡ text_by_hand printed
unfolding command_at decoded start_of rows_of starts_up_to commands_from commands_of verdict_from last_ends is_start targets_good routine_verdict rows_good in_range routines_verdict image_verdict appended schedule_of entries_of fits_on pushed_tops arguments_at framed pushed_words run any_pending unless_pending provided forking effect_of is_pending with_pending may_store may_load cut_at effect_at leaves goes_above place_of born fork_on fork_with fork_of stacklets_without wakes status_after ready_after return_to_parent return_of carried_of turn_of step_of take_into take_of is_seed stolen_of steal_of enable_of entry_of start_state tests_of refusal_of run_from logs_from digits_of decimal_of words_from entry_lines played_text number_of_run run_text text_of
printed-hold = refl
