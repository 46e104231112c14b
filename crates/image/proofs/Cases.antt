-- The starred cases that concern images, and the worked images, hold: one test, computed over a table, and read off at each of its rows. Assumes
-- nothing.
use mathlib.Core.Bool.{Bool, true, false, ◌&&◌}
use mathlib.Core.List.{List, [], ◌∷◌, Mem, not-mem-nil, forall_mem-cons}
use mathlib.Core.Path.{◌≡◌}
use lib.Dec.{T, T_prop, eqb, eqb→eq}
use Rattle.command.specs.Command.{decoded, command_at}
use Rattle.image.specs.Layout.{start_of}
use Rattle.image.specs.Code.{commands_from, commands_of, verdict_from, last_ends, is_start, targets_good, routine_verdict}
use Rattle.image.specs.Image.{rows_good, in_range, routines_verdict, image_verdict, number_in}
use Rattle.image.specs.Cases.{ImageCase, starred_images}
use Rattle.image.specs.Worked.{worked_images}

-- is a row's number the image's?
abbrev right : ImageCase → Bool
right c = eqb (number_in (image_verdict c.image)) c.number

abbrev every : List ImageCase → Bool
every [] = true
every (c ∷ cs) = right c && every cs

both : (a b : Bool) → T (a && b) → T a × T b
both true b t = (tt, t)
both false b t = absurd t

-- what the test found holds of each row
each : (cs : List ImageCase) → T (every cs) → (c : ImageCase) → Mem c cs → T (right c)
each [] t c m = absurd (not-mem-nil m)
each (d ∷ ds) t c m =
    (forall_mem-cons {p = λ (x : ImageCase). T (right x)} (λ x. T_prop (right x))).1 ((both (right d) (every ds) t).0, each ds (both (right d) (every ds) t).1) c m

-- each row of a table whose test was computed
rows-hold : (cs : List ImageCase) → T (every cs) → (c : ImageCase) → Mem c cs → number_in (image_verdict c.image) ≡ c.number
rows-hold cs t c m = eqb→eq (number_in (image_verdict c.image)) c.number (each cs t c m)

pub starred-hold : (c : ImageCase) → Mem c starred_images → number_in (image_verdict c.image) ≡ c.number
unfolding image_verdict routines_verdict rows_good in_range start_of routine_verdict verdict_from last_ends is_start targets_good commands_of commands_from command_at decoded
starred-hold = rows-hold starred_images tt

pub worked-hold : (c : ImageCase) → Mem c worked_images → number_in (image_verdict c.image) ≡ c.number
unfolding image_verdict routines_verdict rows_good in_range start_of routine_verdict verdict_from last_ends is_start targets_good commands_of commands_from command_at decoded
worked-hold = rows-hold worked_images tt
