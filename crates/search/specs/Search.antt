-- Which entry a core tries, and which thread is enabled. Document 01, "Schedule", of the house run, here the built-in scheduler.
use Rattle.std.specs.Prelude.{Bool, false, cond, List, ℕ, zero, suc, leb, ltb, get_or, length}
use Rattle.schedule.specs.declared.Entry.{Entry}
use Rattle.schedule.specs.declared.Entry.TheVariants.{Step, Take, Steal, Enable}
use Rattle.thread.specs.declared.Thread.{Thread}
use Rattle.thread.specs.declared.Status.TheVariants.{Suspended}
use Rattle.thread.specs.Thread.{blank_thread, none, ◌is◌}
use Rattle.rules.specs.State.{Job, State, thread_at, on_core, is_busy}
use Rattle.rules.specs.Rules.{is_seed}

-- the lent parent of a connected thread; of another thread none
abbrev pub lent_parent : Thread → ℕ
lent_parent h = cond h.connected h.origin.parent none

-- "up its chain of lent parents, until the first seed is met": from thread t on, over n threads at most; none where no seed is met. A chain
-- starts at a core's running thread, which is not lent and so is no seed itself
unfoldable pub seed_above : ℕ → Job → State → ℕ → ℕ
seed_above zero j s t = none
seed_above (suc n) j s t = cond (ltb t none) (cond (is_seed j s t) t (seed_above n j s (lent_parent (thread_at s t)))) none

-- the first seed on core c's chain, which has at most all 32 threads; an idle core has none
abbrev pub seed_on : Job → State → ℕ → ℕ
seed_on j s c = seed_above 32 j s (on_core s c)

-- "cores are gone through from 0, each up its chain ..": n cores from core c on
unfoldable pub seed_from : ℕ → Job → State → ℕ → ℕ
seed_from zero j s c = none
seed_from (suc n) j s c = cond (ltb (seed_on j s c) none) (seed_on j s c) (seed_from n j s (suc c))

abbrev pub first_seed : Job → State → ℕ
first_seed j s = seed_from s.count j s 0

-- the order in which an idle core looks: "an idle one takes if the line is not empty, else steals". Where there is no seed it makes no try,
-- which is the steal of none: refused by 18, so nothing is written and nothing changes
unfoldable pub idle_choice : Job → State → ℕ → Entry
idle_choice j s c = cond (ltb 0 (length s.queues.ready)) (Take c) (Steal c (first_seed j s))

-- "a busy core steps"
unfoldable pub choice_of : Job → State → ℕ → Entry
choice_of j s c = cond (is_busy s c) (Step c) (idle_choice j s c)

-- the lowest suspended one of n threads from thread t on, or none
unfoldable pub suspended_from : ℕ → List Thread → ℕ → ℕ
suspended_from zero threads t = none
suspended_from (suc n) threads t = cond ((get_or threads t blank_thread).status is Suspended) t (suspended_from n threads (suc t))

-- "the lowest suspended thread"
abbrev pub lowest_suspended : State → ℕ
lowest_suspended s = suspended_from 32 s.threads 0

-- the steal of none, where there is no seed
abbrev pub is_nothing : Entry → Bool
is_nothing (Step c) = false
is_nothing (Take c) = false
is_nothing (Steal c t) = leb none t
is_nothing (Enable t) = false
