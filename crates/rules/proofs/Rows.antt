-- The worked rows hold, computed by the rules. Assumes nothing.
use mathlib.Core.Path.{◌≡◌, refl}
use Rattle.command.specs.Command.{decoded}
use Rattle.image.specs.Layout.{start_of, rows_of, starts_up_to}
use Rattle.queue.specs.Contents.{appended}
use Rattle.window.specs.Rights.{may_store, may_load, cut_at, share_at}
use Rattle.stacklets.specs.Tops.{fits_on, pushed_tops}
use Rattle.stacklets.specs.Frames.{arguments_at, framed, pushed_words}
use Rattle.thread.specs.Effect.{run, any_pending, unless_pending, provided, forking, effect_of}
use Rattle.thread.specs.Thread.{is_pending, with_pending}
use Rattle.rules.specs.Start.{start_state}
use Rattle.rules.specs.Turn.{effect_at}
use Rattle.rules.specs.Leave.{leaves}
use Rattle.rules.specs.Fork.{goes_above, place_of, born, fork_on, fork_with, fork_of}
use Rattle.rules.specs.Return.{stacklets_without, wakes, status_after, ready_after, return_to_parent, return_of}
use Rattle.rules.specs.Rules.{carried_of, turn_of, step_of, take_into, take_of, is_seed, stolen_of, steal_of, enable_of, entry_of}
use Rattle.rules.specs.Runs.{run_from, logs_from}
use Rattle.rules.specs.Row.{each, told_by_rules, told_by_hand}
use Rattle.rules.specs.Rows.{rows}
use Rattle.rules.specs.RowsFree.{each_free, free_rows}
use Rattle.rules.specs.WordsRow.{each_words}
use Rattle.rules.specs.RowsWords.{words_rows}

pub rows-hold : each told_by_rules rows ≡ each told_by_hand rows
unfolding decoded start_of rows_of starts_up_to appended fits_on pushed_tops arguments_at framed pushed_words run any_pending unless_pending provided forking effect_of is_pending with_pending may_store may_load cut_at share_at start_state effect_at leaves goes_above place_of born fork_on fork_with fork_of stacklets_without wakes status_after ready_after return_to_parent return_of carried_of turn_of step_of take_into take_of is_seed stolen_of steal_of enable_of entry_of run_from logs_from
rows-hold = refl

pub free-rows-hold : each_free free_rows ≡ free_rows
unfolding decoded start_of rows_of starts_up_to appended fits_on pushed_tops arguments_at framed pushed_words run any_pending unless_pending provided forking effect_of is_pending with_pending may_store may_load cut_at share_at start_state effect_at leaves goes_above place_of born fork_on fork_with fork_of stacklets_without wakes status_after ready_after return_to_parent return_of carried_of turn_of step_of take_into take_of is_seed stolen_of steal_of enable_of entry_of run_from logs_from
free-rows-hold = refl

pub words-rows-hold : each_words words_rows ≡ words_rows
unfolding decoded start_of rows_of starts_up_to appended fits_on pushed_tops arguments_at framed pushed_words run any_pending unless_pending provided forking effect_of is_pending with_pending may_store may_load cut_at share_at start_state effect_at leaves goes_above place_of born fork_on fork_with fork_of stacklets_without wakes status_after ready_after return_to_parent return_of carried_of turn_of step_of take_into take_of is_seed stolen_of steal_of enable_of entry_of run_from logs_from
words-rows-hold = refl
