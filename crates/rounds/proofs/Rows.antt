-- The worked rows of the built-in scheduler hold, computed by its definition and the rules. Assumes nothing.
use mathlib.Core.Path.{◌≡◌, refl}
use Rattle.command.specs.Command.{decoded}
use Rattle.image.specs.Layout.{start_of, rows_of, starts_up_to}
use Rattle.queue.specs.Contents.{appended}
use Rattle.window.specs.Rights.{may_store, may_load, cut_at, share_at}
use Rattle.stacklets.specs.Tops.{fits_on, pushed_tops}
use Rattle.stacklets.specs.Frames.{arguments_at, framed, pushed_words}
use Rattle.thread.specs.Effect.{run, any_pending, unless_pending, provided, forking, effect_of}
use Rattle.thread.specs.Thread.{is_pending, with_pending}
use Rattle.rules.specs.Start.{start_state}
use Rattle.rules.specs.Turn.{effect_at}
use Rattle.rules.specs.Leave.{leaves}
use Rattle.rules.specs.Fork.{goes_above, place_of, born, fork_on, fork_with, fork_of}
use Rattle.rules.specs.Return.{stacklets_without, wakes, status_after, ready_after, return_to_parent, return_of}
use Rattle.rules.specs.Rules.{carried_of, turn_of, step_of, take_into, take_of, is_seed, stolen_of, steal_of, enable_of, entry_of}
use Rattle.search.specs.Search.{seed_above, seed_from, idle_choice, choice_of, suspended_from}
use Rattle.rounds.specs.Rounds.{recorded, tried, turns, wakened, rounds}
use Rattle.rounds.specs.Rows.{scheduled_by_rounds, scheduled_by_hand, each_scheduled, scheduled_rows}

pub scheduled-rows-hold : each_scheduled scheduled_by_rounds scheduled_rows ≡ each_scheduled scheduled_by_hand scheduled_rows
unfolding decoded start_of rows_of starts_up_to appended fits_on pushed_tops arguments_at framed pushed_words run any_pending unless_pending provided forking effect_of is_pending with_pending may_store may_load cut_at share_at start_state effect_at leaves goes_above place_of born fork_on fork_with fork_of stacklets_without wakes status_after ready_after return_to_parent return_of carried_of turn_of step_of take_into take_of is_seed stolen_of steal_of enable_of entry_of seed_above seed_from idle_choice choice_of suspended_from recorded tried turns wakened rounds
scheduled-rows-hold = refl
