-- The worked cases of the serial run hold, computed by its definition. Assumes nothing.
use mathlib.Core.List.{◌++◌}
use mathlib.Core.Path.{◌≡◌, refl}
use Rattle.command.specs.Command.{command_at, decoded}
use Rattle.image.specs.Layout.{start_of, rows_of, starts_up_to}
use Rattle.image.specs.Code.{commands_from, commands_of, verdict_from, last_ends, is_start, targets_good, routine_verdict}
use Rattle.image.specs.Image.{rows_good, in_range, routines_verdict, image_verdict}
use Rattle.window.specs.Rights.{may_store, may_load, cut_at, share_at}
use Rattle.thread.specs.Effect.{run, any_pending, unless_pending, provided, forking, effect_of}
use Rattle.thread.specs.Thread.{is_pending, with_pending}
use Rattle.serial.specs.Cases.{serial_by_run, serial_by_hand, each_serial, serial_cases}
use Rattle.serial.specs.SharesCases.{share_cases}
use Rattle.serial.specs.Serial.{next_effect, carried, call_within, call_from, serial_from, serial_of}

pub worked-cases : each_serial serial_by_run (serial_cases ++ share_cases) ≡ each_serial serial_by_hand (serial_cases ++ share_cases)
unfolding command_at decoded start_of rows_of starts_up_to commands_from commands_of verdict_from last_ends is_start targets_good routine_verdict rows_good in_range routines_verdict image_verdict may_store may_load cut_at share_at run any_pending unless_pending provided forking effect_of is_pending with_pending next_effect carried call_within call_from serial_from serial_of
worked-cases = refl
