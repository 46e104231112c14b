-- Schedules of document 01's bench cases, computed. Assumes nothing.
use mathlib.Core.Path.{◌≡◌, refl}
use mathlib.Core.List.{[], ◌∷◌}
use Rattle.schedule.specs.Format.{entry_at, entry_in}
use Rattle.schedule.specs.Meaning.{entries_of, schedule_of}
use Rattle.schedule.specs.declared.Entry.TheVariants.{Step, Take, Steal, Enable}
use Rattle.std.proofs.Common.{Some, Ok, Err}

-- "empty schedule"
empty : schedule_of [] ≡ Ok []
unfolding schedule_of entries_of
empty = refl

-- "schedule byte 05: 13"
unknown : schedule_of (5 ∷ 0 ∷ []) ≡ Err (record {})
unfolding schedule_of entries_of
unknown = refl

-- the schedule of the whole case, 25 bytes and 12 entries
whole : schedule_of (1 ∷ 0 ∷ 1 ∷ 0 ∷ 3 ∷ 1 ∷ 0 ∷ 2 ∷ 1 ∷ 1 ∷ 1 ∷ 1 ∷ 1 ∷ 1 ∷ 0 ∷ 1 ∷ 0 ∷ 1 ∷ 0 ∷ 1 ∷ 0 ∷ 1 ∷ 0 ∷ 4 ∷ 1 ∷ [])
    ≡ Ok (Step 0 ∷ Step 0 ∷ Steal 1 0 ∷ Take 1 ∷ Step 1 ∷ Step 1 ∷ Step 0 ∷ Step 0 ∷ Step 0 ∷ Step 0 ∷ Step 0 ∷ Enable 1 ∷ [])
unfolding schedule_of entries_of
whole = refl

-- its entry 2 stands at byte 4
third : entry_at (1 ∷ 0 ∷ 1 ∷ 0 ∷ 3 ∷ 1 ∷ 0 ∷ 2 ∷ 1 ∷ []) 4 ≡ Ok (Some (Steal 1 0, 7))
unfolding entry_at entry_in
third = refl
