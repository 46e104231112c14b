-- The conditions can be met: document 01's worked case "Whole" on one core with 21 bytes (`whole-alone`), and on two with 60 (`whole-on-two`); and
-- at their edges, so that none is stricter than it says (`sixteen-deep`, `sixteen-threads`). Assumes nothing.
use mathlib.Core.Bool.{Bool, true, false, ◌&&◌, not}
use mathlib.Core.List.{List, [], ◌∷◌}
use mathlib.Core.Logic.{⊎_elim}
use mathlib.Core.Path.{◌≡◌, refl, sym, ◌∙◌, ap}
use Prim.Native.Nat.{ℕ, zero, suc, ◌+◌}
use native.Mathlib.Omega.{arith}
use borrow.Author.Tests.{eqb-true}
use lib.Dec.{eqb}
use lib.ListN.{get_or, replicate}
use Rattle.command.specs.Command.{command_at, decoded}
use Rattle.command.proofs.Bools.{both}
use Rattle.image.specs.Cases.{whole}
use Rattle.image.specs.Layout.{start_of, rows_of, starts_up_to, code_of}
use Rattle.image.specs.Code.{Placed, commands_from, commands_of, verdict_from, last_ends, is_start, targets_good, routine_verdict}
use Rattle.image.specs.Image.{rows_good, in_range, routines_verdict, image_verdict}
use Rattle.window.specs.Rights.{may_store, may_load, cut_at}
use Rattle.thread.specs.Effect.{run, any_pending, unless_pending, provided, forking, effect_of}
use Rattle.thread.specs.Thread.{is_pending, with_pending}
use Rattle.serial.specs.Serial.{next_effect, carried, call_within, call_from, serial_from, serial_of}
use Rattle.serial.specs.Cases.{counting}
use Rattle.demands.specs.Input.{input_of}
use Rattle.demands.specs.Cases.{given}
use Rattle.soundness.proofs.EntryCases.{or-true}
use Rattle.lonecore.specs.LforksOnly.{is_excluded, LforksOnly}
use Rattle.lonecore.specs.Depth.{carried_depth, depth_within}
use Rattle.lonecore.specs.NeverDry.{LoneCore}
use Rattle.lonecore.specs.SeveralCores.{SeveralCores}

-- no command of a list is excluded
abbrev none_excluded : List ℕ → ℕ → List Placed → Bool
none_excluded image start [] = true
none_excluded image start (p ∷ ps) = not (is_excluded (get_or image (start + p.at) 0)) && none_excluded image start ps

not-false : (b : Bool) → not b ≡ true → b ≡ false
not-false true h = let z : ◌≡◌ {A = ℕ} 0 1 = cc in absurd (omega arith)
not-false false h = refl

included : (image : List ℕ) (start : ℕ) (ps : List Placed) → none_excluded image start ps ≡ true → (p : ℕ) → is_start ps p ≡ true
    → is_excluded (get_or image (start + p) 0) ≡ false
unfolding is_start
included image start [] h p q = let z : ◌≡◌ {A = ℕ} 0 1 = cc in absurd (omega arith)
included image start (x ∷ ps) h p q =
    let (first, rest) = both (not (is_excluded (get_or image (start + x.at) 0))) (none_excluded image start ps) h in
    ⊎_elim (λ e. ap (λ a. is_excluded (get_or image (start + a) 0)) (sym (eqb-true x.at p e)) ∙ not-false _ first) (λ e. included image start ps rest p e)
    (or-true (eqb x.at p) (is_start ps p) q)

whole-lforks-only : LforksOnly whole
unfolding command_at decoded start_of commands_from commands_of is_start
whole-lforks-only zero p l h = included whole 9 (commands_of (code_of whole 0)) refl p h
whole-lforks-only (suc zero) p l h = included whole 30 (commands_of (code_of whole 1)) refl p h
whole-lforks-only (suc (suc r)) p l h = absurd (omega arith)

pub whole-alone : LoneCore (given whole 1 100) 21 10 20 (replicate 992 0)
unfolding command_at decoded start_of rows_of starts_up_to commands_from commands_of verdict_from last_ends is_start targets_good routine_verdict rows_good in_range routines_verdict image_verdict may_store may_load cut_at run any_pending unless_pending provided forking effect_of is_pending with_pending next_effect carried call_within call_from serial_from serial_of carried_depth depth_within
whole-alone = record {
  image = whole-lforks-only;
  finishes = refl;
  shallow = omega arith;
  cores = refl;
  buffer = omega arith;
  most = omega arith;
}

pub whole-on-two : SeveralCores (given whole 2 100) 60 10 20 (replicate 992 0)
unfolding command_at decoded start_of rows_of starts_up_to commands_from commands_of verdict_from last_ends is_start targets_good routine_verdict rows_good in_range routines_verdict image_verdict may_store may_load cut_at run any_pending unless_pending provided forking effect_of is_pending with_pending next_effect carried call_within call_from serial_from serial_of carried_depth depth_within
whole-on-two = record { image = whole-lforks-only; finishes = refl; room = omega arith; buffer = omega arith; most = omega arith }

-- AT THE EDGES. A job of one routine that calls itself
counting-lforks-only : LforksOnly counting
unfolding command_at decoded start_of commands_from commands_of is_start
counting-lforks-only zero p l h = included counting 5 (commands_of (code_of counting 0)) refl p h
counting-lforks-only (suc r) p l h = absurd (omega arith)

-- 16 deep on one core: 122 commands, and exactly twice so many bytes and one more, with exactly its units
pub sixteen-deep : LoneCore (input_of counting 1 (15 ∷ []) (replicate 32 0) (replicate 992 0) 197) 245 15 197 (replicate 992 0)
unfolding command_at decoded start_of rows_of starts_up_to commands_from commands_of verdict_from last_ends is_start targets_good routine_verdict rows_good in_range routines_verdict image_verdict may_store may_load cut_at run any_pending unless_pending provided forking effect_of is_pending with_pending next_effect carried call_within call_from serial_from serial_of carried_depth depth_within
sixteen-deep = record { image = counting-lforks-only; finishes = refl; shallow = omega arith; cores = refl; buffer = omega arith; most = omega arith }

-- 6 deep on three cores, whose bound is 16: 42 commands, and exactly six times so many bytes
pub sixteen-threads : SeveralCores (input_of counting 3 (5 ∷ []) (replicate 32 0) (replicate 992 0) 67) 252 5 67 (replicate 992 0)
unfolding command_at decoded start_of rows_of starts_up_to commands_from commands_of verdict_from last_ends is_start targets_good routine_verdict rows_good in_range routines_verdict image_verdict may_store may_load cut_at run any_pending unless_pending provided forking effect_of is_pending with_pending next_effect carried call_within call_from serial_from serial_of carried_depth depth_within
sixteen-threads = record { image = counting-lforks-only; finishes = refl; room = omega arith; buffer = omega arith; most = omega arith }
