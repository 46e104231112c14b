-- The worked rows of T-12's numbers hold, computed by their definitions. Assumes nothing.
use mathlib.Core.Path.{◌≡◌, refl}
use Rattle.command.specs.Command.{command_at, decoded}
use Rattle.image.specs.Layout.{start_of, rows_of, starts_up_to}
use Rattle.image.specs.Code.{commands_from, commands_of, verdict_from, last_ends, is_start, targets_good, routine_verdict}
use Rattle.image.specs.Image.{rows_good, in_range, routines_verdict, image_verdict}
use Rattle.queue.specs.Contents.{appended}
use Rattle.window.specs.Rights.{may_store, may_load, cut_at, share_at}
use Rattle.stacklets.specs.Tops.{fits_on, pushed_tops}
use Rattle.stacklets.specs.Frames.{arguments_at, framed, pushed_words}
use Rattle.thread.specs.Effect.{run, any_pending, unless_pending, provided, forking, effect_of}
use Rattle.thread.specs.Thread.{is_pending, with_pending}
use Rattle.census.specs.Counted.{records_in}
use Rattle.rules.specs.Start.{start_state}
use Rattle.rules.specs.Turn.{effect_at}
use Rattle.rules.specs.Leave.{leaves}
use Rattle.rules.specs.Fork.{goes_above, place_of, born, fork_on, fork_with, fork_of}
use Rattle.rules.specs.Return.{stacklets_without, wakes, status_after, ready_after, return_to_parent, return_of}
use Rattle.rules.specs.Rules.{carried_of, turn_of, step_of, is_seed, stolen_of, steal_of, entry_of}
use Rattle.rules.specs.Runs.{run_from}
use Rattle.search.specs.Search.{choice_of, suspended_from}
use Rattle.rounds.specs.Rounds.{recorded, tried, turns, wakened, rounds}
use Rattle.rounds.specs.Rows.{scheduled_by_rounds, scheduled_by_hand, each_scheduled}
use Rattle.serial.specs.Serial.{next_effect, carried, call_within, call_from, serial_from, serial_of}
use Rattle.lonecore.specs.Depth.{carried_depth, depth_within}
use Rattle.lonecore.specs.Rows.{each_plain, commands_for, depth_for, by_hand, command_rows, depth_rows, lone_rows, bounds, bounds_by_hand, used, used_by_hand}

pub command-rows-hold : each_plain commands_for command_rows ≡ each_plain by_hand command_rows
unfolding command_at decoded start_of rows_of starts_up_to commands_from commands_of verdict_from last_ends is_start targets_good routine_verdict rows_good in_range routines_verdict image_verdict may_store may_load cut_at share_at run any_pending unless_pending provided forking effect_of is_pending with_pending next_effect carried call_within call_from serial_from serial_of
command-rows-hold = refl

pub depth-rows-hold : each_plain depth_for depth_rows ≡ each_plain by_hand depth_rows
unfolding decoded start_of rows_of starts_up_to may_store may_load cut_at share_at run any_pending unless_pending provided forking effect_of is_pending with_pending next_effect carried call_within carried_depth depth_within
depth-rows-hold = refl

pub lone-rows-hold : each_scheduled scheduled_by_rounds lone_rows ≡ each_scheduled scheduled_by_hand lone_rows
unfolding decoded start_of rows_of starts_up_to appended fits_on pushed_tops arguments_at framed pushed_words run any_pending unless_pending provided forking effect_of is_pending with_pending may_store may_load cut_at share_at start_state effect_at leaves goes_above place_of born fork_on fork_with fork_of stacklets_without wakes status_after ready_after return_to_parent return_of carried_of turn_of step_of entry_of choice_of suspended_from recorded tried turns wakened rounds
lone-rows-hold = refl

pub bounds-hold : bounds ≡ bounds_by_hand
unfolding decoded start_of rows_of starts_up_to may_store may_load cut_at share_at run any_pending unless_pending provided forking effect_of is_pending with_pending next_effect carried call_within carried_depth depth_within
bounds-hold = refl

pub used-hold : used ≡ used_by_hand
unfolding decoded start_of rows_of starts_up_to appended fits_on pushed_tops arguments_at framed pushed_words run any_pending unless_pending provided forking effect_of is_pending with_pending may_store may_load cut_at share_at start_state effect_at goes_above place_of born fork_on fork_with fork_of carried_of turn_of step_of is_seed stolen_of steal_of entry_of run_from records_in
used-hold = refl
