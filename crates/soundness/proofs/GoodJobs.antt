-- Jobs that a machine may be started on: an accepted image's, with the standard weights; and one of them, so that Start's soundness is said
-- of something. Assumes nothing.
use mathlib.Core.List.{List, [], ◌∷◌}
use mathlib.Core.Path.{◌≡◌, refl}
use Prim.Native.Nat.{ℕ, zero, suc, ◌<◌}
use native.Mathlib.Omega.{arith}
use lib.ListN.{get_or, length, replicate}
use Rattle.std.specs.Prelude.{Ok}
use Rattle.command.specs.Command.{command_at, decoded}
use Rattle.command.proofs.Tables.{weight-least}
use Rattle.image.specs.Layout.{routine_count, start_of}
use Rattle.image.specs.Code.{commands_from, commands_of, verdict_from, last_ends, is_start, targets_good, routine_verdict}
use Rattle.image.specs.Image.{image_verdict, rows_good, in_range, routines_verdict}
use Rattle.rules.specs.State.{job_of}
use Rattle.rules.specs.Start.{start_state}
use Rattle.rules.specs.Lists.{Every}
use Rattle.rules.specs.Sound.{GoodJob, Sound}
use Rattle.soundness.proofs.StartSound.{start-sound}

pub good-job : (image starts parameters : List ℕ) (allowance : ℕ) → image_verdict image ≡ Ok tt → ((i : ℕ) → get_or image i 0 < 256)
    → ((r : ℕ) → r < routine_count image → get_or starts r 0 ≡ start_of image r) → length parameters ≡ 32 → GoodJob (job_of image starts parameters allowance)
good-job image starts parameters allowance accepted bytes begin many =
    record { image = accepted; bytes = bytes; starts = begin; parameters = many; weighs = weight-least }

-- bytes that are all below 256 read so at every place
every_byte : (s : List ℕ) → Every (λ b. b < 256) s → (i : ℕ) → get_or s i 0 < 256
every_byte [] h i = omega arith
every_byte (x ∷ xs) h zero = h.0
every_byte (x ∷ xs) h (suc i) = every_byte xs h.1 i

-- "`01 01 00 02 00 0D 00`": one routine, which returns its slot
abbrev pub return_image : List ℕ
return_image = 1 ∷ 1 ∷ 0 ∷ 2 ∷ 0 ∷ 13 ∷ 0 ∷ []

return-accepted : image_verdict return_image ≡ Ok tt
unfolding image_verdict rows_good in_range routines_verdict commands_from commands_of verdict_from last_ends is_start targets_good routine_verdict command_at decoded start_of
return-accepted = refl

pub return-job : (allowance : ℕ) → GoodJob (job_of return_image (5 ∷ []) (replicate 32 0) allowance)
unfolding start_of
return-job allowance = good-job return_image (5 ∷ []) (replicate 32 0) allowance return-accepted
    (every_byte return_image (omega arith, (omega arith, (omega arith, (omega arith, (omega arith, (omega arith, (omega arith, tt)))))))) first refl
  where
    first : (r : ℕ) → r < 1 → get_or (5 ∷ []) r 0 ≡ start_of return_image r
    first zero l = refl
    first (suc r) l = absurd (omega arith)

pub return-start : (allowance : ℕ) → Sound (job_of return_image (5 ∷ []) (replicate 32 0) allowance)
    (start_state (job_of return_image (5 ∷ []) (replicate 32 0) allowance) 1 [] (replicate 992 0))
return-start allowance = start-sound _ 1 [] (replicate 992 0) (return-job allowance) (omega arith) (omega arith) refl
