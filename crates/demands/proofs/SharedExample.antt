-- T-04's promise has something to speak of: a run in which the root shares 1,020 to 1,023, its child shares nothing and its grandchild reads them.
-- The first word and the last one are shared and read, those beside them are not. Assumes nothing.
use mathlib.Core.List.{[], ◌∷◌, ◌++◌}
use mathlib.Core.Path.{◌≡◌, refl, ap}
use native.Mathlib.Omega.{arith}
use lib.ListN.{replicate}
use Rattle.command.specs.Command.{command_at, decoded}
use Rattle.image.specs.Layout.{start_of, rows_of, starts_up_to}
use Rattle.image.specs.Code.{commands_from, commands_of, verdict_from, last_ends, is_start, targets_good, routine_verdict}
use Rattle.image.specs.Image.{rows_good, in_range, routines_verdict, image_verdict}
use Rattle.schedule.specs.declared.Entry.TheVariants.{Step}
use Rattle.schedule.specs.Meaning.{schedule_of, entries_of}
use Rattle.queue.specs.Contents.{appended}
use Rattle.window.specs.Rights.{may_store, may_load, cut_at, share_at}
use Rattle.stacklets.specs.Tops.{fits_on, pushed_tops}
use Rattle.stacklets.specs.Frames.{arguments_at, framed, pushed_words}
use Rattle.thread.specs.Effect.{run, any_pending, unless_pending, provided, forking, effect_of}
use Rattle.thread.specs.Thread.{is_pending, with_pending}
use Rattle.rules.specs.State.{State}
use Rattle.rules.specs.Turn.{effect_at}
use Rattle.rules.specs.Leave.{leaves}
use Rattle.rules.specs.Fork.{goes_above, place_of, born, fork_on, fork_with, fork_of}
use Rattle.rules.specs.Return.{stacklets_without, wakes, status_after, ready_after, return_to_parent, return_of}
use Rattle.rules.specs.Rules.{carried_of, turn_of, step_of, take_into, take_of, is_seed, stolen_of, steal_of, enable_of, entry_of}
use Rattle.rules.specs.Start.{start_state}
use Rattle.rules.specs.Runs.{run_from, logs_from}
use Rattle.rules.specs.Sound.{status_at, parent_at, window_held}
use Rattle.demands.specs.Input.{Input, tests_of, refusal_of}
use Rattle.demands.specs.Demands.{state_after}
use Rattle.demands.specs.Shared.{Shares, Reads, Ancestor, parent, further}
use Rattle.demands.specs.Cases.{given}

-- 01 0 1020; 0E 0; 01 1 64; 08 1 2 0 1; 0A; 0D 2, then 01 1 40; 08 2 2 0 1; 0A; 0D 2, then 0D 0
abbrev job : Input
job = given ((0x03 ∷ 0x03 ∷ 0x00 ∷ 0x12 ∷ 0x00 ∷ 0x03 ∷ 0x00 ∷ 0x0C ∷ 0x00 ∷ 0x01 ∷ 0x00 ∷ 0x02 ∷ 0x00 ∷ [])
    ++ (0x01 ∷ 0x00 ∷ 0xFC ∷ 0x03 ∷ 0x0E ∷ 0x00 ∷ 0x01 ∷ 0x01 ∷ 0x40 ∷ 0x00 ∷ 0x08 ∷ 0x01 ∷ 0x02 ∷ 0x00 ∷ 0x01 ∷ 0x0A ∷ 0x0D ∷ 0x02 ∷ [])
    ++ (0x01 ∷ 0x01 ∷ 0x28 ∷ 0x00 ∷ 0x08 ∷ 0x02 ∷ 0x02 ∷ 0x00 ∷ 0x01 ∷ 0x0A ∷ 0x0D ∷ 0x02 ∷ []) ++ (0x0D ∷ 0x00 ∷ [])) 1 100

-- both forks are done: the root and its child are lent
abbrev there : State
there = state_after job (replicate 6 (Step 0))

-- the three windows, who is whose child, and that all are in use
record Stands : Type 0 where
  root : window_held there 0 ≡ record { lo = 32; mark = 64; ceiling = 1020; hi = 1024; from = 1024; to = 1024 }
  child : window_held there 1 ≡ record { lo = 32; mark = 40; ceiling = 64; hi = 64; from = 1020; to = 1024 }
  grandchild : window_held there 2 ≡ record { lo = 32; mark = 32; ceiling = 40; hi = 40; from = 1020; to = 1024 }
  parents : (parent_at there 1 ≡ 0) × (parent_at there 2 ≡ 1)
  statuses : (status_at there 0 ≡ 5) × (status_at there 1 ≡ 5) × (status_at there 2 ≡ 1)

stands : Stands
unfolding command_at decoded start_of rows_of starts_up_to commands_from commands_of verdict_from last_ends is_start targets_good routine_verdict rows_good in_range routines_verdict image_verdict appended schedule_of entries_of fits_on pushed_tops arguments_at framed pushed_words run any_pending unless_pending provided forking effect_of is_pending with_pending may_store may_load cut_at share_at effect_at leaves goes_above place_of born fork_on fork_with fork_of stacklets_without wakes status_after ready_after return_to_parent return_of carried_of turn_of step_of take_into take_of is_seed stolen_of steal_of enable_of entry_of start_state tests_of refusal_of run_from logs_from
stands = record { root = refl; child = refl; grandchild = refl; parents = (refl, refl); statuses = (refl, refl, refl) }

-- the root's ceiling and end
ceiling : (window_held there 0).ceiling ≡ 1020
ceiling = ap (λ w. w.ceiling) stands.root

end : (window_held there 0).hi ≡ 1024
end = ap (λ w. w.hi) stands.root

pub first-shared : Shares there 0 1020
first-shared = let s = stands.statuses.0 in record { used = omega arith; from = omega (arith, ceiling); to = omega (arith, end) }

pub last-shared : Shares there 0 1023
last-shared = let s = stands.statuses.0 in record { used = omega arith; from = omega (arith, ceiling); to = omega (arith, end) }

pub not-before : Shares there 0 1019 → ⊥
not-before x = omega (arith, x.from, ceiling)

pub not_behind : Shares there 0 1024 → ⊥
not_behind x = omega (arith, x.to, end)

-- the grandchild reads what the root shares
span-from : (window_held there 2).from ≡ 1020
span-from = ap (λ w. w.from) stands.grandchild

span_to : (window_held there 2).to ≡ 1024
span_to = ap (λ w. w.to) stands.grandchild

pub first_read : Reads there 2 1020
first_read = let s = stands.statuses.2 in record { used = omega arith; from = omega (arith, span-from); to = omega (arith, span_to) }

pub last-read : Reads there 2 1023
last-read = let s = stands.statuses.2 in record { used = omega arith; from = omega (arith, span-from); to = omega (arith, span_to) }

pub none_before : Reads there 2 1019 → ⊥
none_before x = omega (arith, x.from, span-from)

pub none-behind : Reads there 2 1024 → ⊥
none-behind x = omega (arith, x.to, span_to)

-- through its parent
pub ancestor : Ancestor there 0 2
ancestor = further 2 (λ e. omega arith) (ap-ancestor stands.parents.1)
  where
    ap-ancestor : parent_at there 2 ≡ 1 → Ancestor there 0 (parent_at there 2)
    ap-ancestor e = rw e (parent 1 (λ z. omega arith) stands.parents.0)
