-- An entry that is met again and again.
use Rattle.std.specs.Prelude.{◌≡◌, ℕ, zero, suc, ◌<◌, ◌≤◌, Bool, true, false}
use Rattle.schedule.specs.declared.Entry.{Entry}
use Rattle.schedule.specs.declared.Entry.TheVariants.{Step, Take, Steal, Enable}
use Rattle.rules.specs.State.{Job, State}
use Rattle.rules.specs.Rules.{entry_of}
use Rattle.entries.specs.declared.Carried.{Carried}

-- the state once an entry was met so many times
unfoldable pub repeated : Job → Entry → State → ℕ → State
repeated j e s zero = s
repeated j e s (suc n) = (entry_of j (repeated j e s n) e).state

-- whether an entry is a step: none but a step is met again
abbrev pub is_step : Entry → Bool
is_step (Step c) = true
is_step (Take c) = false
is_step (Steal c t) = false
is_step (Enable t) = false

-- an entry was carried out once and then again, at most so often as may be: each time but the last it was accepted and left the cores and
-- the outcome as they were; the last time it led to the state `end`, with its log byte
pub record Repeats (j : Job) (s : State) (e : Entry) (more : ℕ) (r : Carried) (end : State) : Type 0 where
  pub few : r.again ≤ more
  pub steps : 0 < r.again → is_step e ≡ true
  pub accepts : (i : ℕ) → i < r.again → (entry_of j (repeated j e s i) e).log ≡ 0
  pub stays : (i : ℕ) → i ≤ r.again → (repeated j e s i).cores ≡ s.cores
  pub going : (i : ℕ) → i ≤ r.again → (repeated j e s i).outcome ≡ s.outcome
  pub last : record { state = end; log = r.log } ≡ entry_of j (repeated j e s r.again) e
