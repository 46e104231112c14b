-- Each number of an entry, exactly under its condition: document 01, "The schedule's author", "The tables and the allowance" and "The
-- running job". The tests stand in the order "19, 14, 15, 16 to 18, 22, 12, 9, 10 or 11, 20, 21", so a condition also says that none
-- before it is met; T-04's 31 stands with 10 and 11.
use Rattle.std.specs.Prelude.{true, false, [], ◌⊎◌, ◌↔◌, ◌≡◌, ℕ, ◌+◌, ◌-◌, ◌/◌, ◌%◌, ◌<◌, ◌≤◌}
use Rattle.image.specs.Layout.{slots_of}
use Rattle.stacklets.specs.Tops.{top_at}
use Rattle.thread.specs.declared.Effect.TheVariants.{Lforks, Forks}
use Rattle.thread.specs.Effect.{IsFault}
use Rattle.thread.specs.Thread.{none}
use Rattle.rules.specs.declared.ForkKind.{ForkKind}
use Rattle.rules.specs.declared.ForkKind.TheVariants.{Called, Queued, Stolen}
use Rattle.rules.specs.State.{Job, State, going, is_over, thread_at, on_core}
use Rattle.rules.specs.Statuses.{IsSuspended, IsLent}
use Rattle.rules.specs.Turn.{turn_at, byte_of, effect_at, waits}
use Rattle.rules.specs.Rules.{step_of, take_of, steal_of, enable_of}
use Rattle.soundness.specs.Faults.{Condition9, Condition10, Condition11, Condition12, Condition31, Next}

-- thread t on core c carries out its next command
pub record Stepped (j : Job) (s : State) (c t : ℕ) : Type 0 where
  pub ongoing : s.outcome ≡ going
  pub core : c < s.count
  pub seat : on_core s c ≡ t
  pub low : t < 32
  pub passes : waits j (thread_at s t) ≡ false
  pub paid : (turn_at j s c t).weight ≤ j.allowance - s.units

-- a command is met that the allowance does not pay for: "22: units plus the command's weight pass the allowance"
pub record Dear (j : Job) (s : State) (c t : ℕ) : Type 0 where
  pub ongoing : s.outcome ≡ going
  pub core : c < s.count
  pub seat : on_core s c ≡ t
  pub low : t < 32
  pub passes : waits j (thread_at s t) ≡ false
  pub dear : j.allowance < s.units + (turn_at j s c t).weight

-- the next command of thread t is a fork of routine r, of a kind: by a step
pub data StepForks (j : Job) (s : State) (t : ℕ) (kind : ForkKind) (r : ℕ) : Type 0 where
  is_lfork : kind ≡ Called → (d a e : ℕ) → effect_at j s (thread_at s t) ≡ Lforks r d a e → StepForks j s t kind r
  is_fork : kind ≡ Queued → (d a e : ℕ) → effect_at j s (thread_at s t) ≡ Forks r d a e → StepForks j s t kind r

-- core c's thread forks, and no thread number is free
abbrev pub FewThreads : Job → State → ℕ → Type 0
FewThreads j s c = Stepped j s c (on_core s c) × (kind : ForkKind) × (r : ℕ) × StepForks j s (on_core s c) kind r × (s.queues.free_threads ≡ [])

-- thread t's frame "is topmost there": it ends, within its stacklet of 64 words, where that stacklet's frames end
abbrev pub IsTopmost : Job → State → ℕ → Type 0
IsTopmost j s t =
    (thread_at s t).origin.base % 64 + slots_of j.image (thread_at s t).origin.routine ≡ top_at s.store.tops ((thread_at s t).origin.base / 64)

-- "and it fits": a frame of routine r, "as many words as the routine has slots", above those on thread t's stacklet; "16 stacklets of 64 words"
abbrev pub FitsAbove : Job → State → ℕ → ℕ → Type 0
FitsAbove j s t r = top_at s.store.tops ((thread_at s t).origin.base / 64) + slots_of j.image r ≤ 64

-- "a stacklet is needed" for a child of thread t, of routine r, by the kind of its fork; the rule's own test is not cited
abbrev pub NeedsStacklet : Job → State → ℕ → ForkKind → ℕ → Type 0
-- an lfork's, unless "the parent's frame is topmost there and it fits"
NeedsStacklet j s t Called r = (¬ (IsTopmost j s t)) ⊎ (¬ (FitsAbove j s t r))
-- a fork's always: above its parent's frame only "when an lfork makes it .. otherwise on a free stacklet"
NeedsStacklet j s t Queued r = Unit {0}
-- a steal's always: "its child independent and running on idle core c, on a free stacklet"
NeedsStacklet j s t Stolen r = Unit {0}

-- core c's thread forks, its child's frame needs a stacklet, and none is free
abbrev pub FewStacklets : Job → State → ℕ → Type 0
FewStacklets j s c =
    Stepped j s c (on_core s c) × (kind : ForkKind) × (r : ℕ) × StepForks j s (on_core s c) kind r × (¬ (s.queues.free_threads ≡ []))
    × NeedsStacklet j s (on_core s c) kind r × (s.queues.free_stacklets ≡ [])

-- a step of core c
pub record StepNumbers (j : Job) (s : State) (c : ℕ) : Type 0 where
  -- "19 machine over"
  pub number19 : ((step_of j s c).log ≡ 19) ↔ (is_over s.outcome ≡ true)
  -- "14 core not below the count"
  pub number14 : ((step_of j s c).log ≡ 14) ↔ ((s.outcome ≡ going) × (s.count ≤ c))
  -- "15 step of an idle core"
  pub number15 : ((step_of j s c).log ≡ 15) ↔ ((s.outcome ≡ going) × (c < s.count) × (none ≤ on_core s c))
  -- "22: units plus the command's weight pass the allowance"
  pub number22 : ((step_of j s c).log ≡ 22) ↔ (Dear j s c (on_core s c))
  -- "12: return with pending slots"
  pub number12 : ((step_of j s c).log ≡ 12) ↔ (Stepped j s c (on_core s c) × Next j s (on_core s c) Condition12)
  -- "9: a pending slot read or written (a fork writes its d)"
  pub number9 : ((step_of j s c).log ≡ 9) ↔ (Stepped j s c (on_core s c) × Next j s (on_core s c) Condition9)
  -- "10: address not allowed"
  pub number10 : ((step_of j s c).log ≡ 10) ↔ (Stepped j s c (on_core s c) × Next j s (on_core s c) Condition10)
  -- "11: cut out of range"
  pub number11 : ((step_of j s c).log ≡ 11) ↔ (Stepped j s c (on_core s c) × Next j s (on_core s c) Condition11)
  -- T-04: "31 s out of range, a fault, tested after 9"
  pub number31 : ((step_of j s c).log ≡ 31) ↔ (Stepped j s c (on_core s c) × Next j s (on_core s c) Condition31)
  -- "20: no free thread number"
  pub number20 : ((step_of j s c).log ≡ 20) ↔ (FewThreads j s c)
  -- "21: a stacklet is needed and none is free"
  pub number21 : ((step_of j s c).log ≡ 21) ↔ (FewStacklets j s c)
  -- no other number is logged
  pub others : ((step_of j s c).log ≡ 0) ⊎ (IsFault (step_of j s c).log
      ⊎ (((14 ≤ (step_of j s c).log) × ((step_of j s c).log ≤ 15)) ⊎ ((19 ≤ (step_of j s c).log) × ((step_of j s c).log ≤ 22))))

-- a take by core c
pub record TakeNumbers (s : State) (c : ℕ) : Type 0 where
  pub number19 : ((take_of s c).log ≡ 19) ↔ (is_over s.outcome ≡ true)
  pub number14 : ((take_of s c).log ≡ 14) ↔ ((s.outcome ≡ going) × (s.count ≤ c))
  -- "15 .. take or steal for a busy one"
  pub number15 : ((take_of s c).log ≡ 15) ↔ ((s.outcome ≡ going) × (c < s.count) × (on_core s c < none))
  -- "16 line empty"
  pub number16 : ((take_of s c).log ≡ 16) ↔ ((s.outcome ≡ going) × (c < s.count) × (none ≤ on_core s c) × (s.queues.ready ≡ []))
  pub others : ((take_of s c).log ≡ 0) ⊎ (((14 ≤ (take_of s c).log) × ((take_of s c).log ≤ 16)) ⊎ ((take_of s c).log ≡ 19))

-- thread t's next command is a seed: it is lent, and the command is an 08 or 09
abbrev pub Seed : Job → State → ℕ → Type 0
Seed j s t = (t < 32) × IsLent s t × ((byte_of j (thread_at s t) ≡ 8) ⊎ (byte_of j (thread_at s t) ≡ 9))

-- the next command of lent thread t, an 08 or 09, is carried out as a seed for idle core c
pub record Seeded (j : Job) (s : State) (c t : ℕ) : Type 0 where
  pub ongoing : s.outcome ≡ going
  pub core : c < s.count
  pub idle : none ≤ on_core s c
  pub low : t < 32
  pub lent : IsLent s t
  pub byte : (byte_of j (thread_at s t) ≡ 8) ⊎ (byte_of j (thread_at s t) ≡ 9)
  pub paid : (turn_at j s c t).weight ≤ j.allowance - s.units

-- a seed is met that the allowance does not pay for
pub record DearSeed (j : Job) (s : State) (c t : ℕ) : Type 0 where
  pub ongoing : s.outcome ≡ going
  pub core : c < s.count
  pub idle : none ≤ on_core s c
  pub seed : Seed j s t
  pub dear : j.allowance < s.units + (turn_at j s c t).weight

-- a seed forks routine r
abbrev pub SeedForks : Job → State → ℕ → ℕ → Type 0
SeedForks j s t r = (d : ℕ) × (a : ℕ) × (e : ℕ) × ((effect_at j s (thread_at s t) ≡ Lforks r d a e) ⊎ (effect_at j s (thread_at s t) ≡ Forks r d a e))

-- a steal of thread t's seed for core c
pub record StealNumbers (j : Job) (s : State) (c t : ℕ) : Type 0 where
  pub number19 : ((steal_of j s c t).log ≡ 19) ↔ (is_over s.outcome ≡ true)
  pub number14 : ((steal_of j s c t).log ≡ 14) ↔ ((s.outcome ≡ going) × (s.count ≤ c))
  pub number15 : ((steal_of j s c t).log ≡ 15) ↔ ((s.outcome ≡ going) × (c < s.count) × (on_core s c < none))
  -- "18 thread above 31, not lent, or its next command not 08 or 09"
  pub number18 : ((steal_of j s c t).log ≡ 18) ↔ ((s.outcome ≡ going) × (c < s.count) × (none ≤ on_core s c) × (¬ (Seed j s t)))
  pub number22 : ((steal_of j s c t).log ≡ 22) ↔ (DearSeed j s c t)
  pub number12 : ((steal_of j s c t).log ≡ 12) ↔ (Seeded j s c t × Next j s t Condition12)
  pub number9 : ((steal_of j s c t).log ≡ 9) ↔ (Seeded j s c t × Next j s t Condition9)
  pub number10 : ((steal_of j s c t).log ≡ 10) ↔ (Seeded j s c t × Next j s t Condition10)
  pub number11 : ((steal_of j s c t).log ≡ 11) ↔ (Seeded j s c t × Next j s t Condition11)
  -- a seed is an 08 or 09, so no steal meets 31
  pub number31 : ¬ ((steal_of j s c t).log ≡ 31)
  pub number20 : ((steal_of j s c t).log ≡ 20) ↔ (Seeded j s c t × (r : ℕ) × SeedForks j s t r × (s.queues.free_threads ≡ []))
  -- a seed's child always needs a free stacklet
  pub number21 : ((steal_of j s c t).log ≡ 21) ↔ (Seeded j s c t × (r : ℕ) × SeedForks j s t r × (¬ (s.queues.free_threads ≡ [])) ×
      (s.queues.free_stacklets ≡ []))
  pub others : ((steal_of j s c t).log ≡ 0) ⊎ (IsFault (steal_of j s c t).log
      ⊎ (((14 ≤ (steal_of j s c t).log) × ((steal_of j s c t).log ≤ 15)) ⊎ ((18 ≤ (steal_of j s c t).log) × ((steal_of j s c t).log ≤ 22))))

-- an enable of thread t
pub record EnableNumbers (s : State) (t : ℕ) : Type 0 where
  pub number19 : ((enable_of s t).log ≡ 19) ↔ (is_over s.outcome ≡ true)
  -- "17 thread not suspended or above 31"
  pub number17 : ((enable_of s t).log ≡ 17) ↔ ((s.outcome ≡ going) × (¬ ((t < 32) × IsSuspended s t)))
  pub others : ((enable_of s t).log ≡ 0) ⊎ (((enable_of s t).log ≡ 17) ⊎ ((enable_of s t).log ≡ 19))

-- every entry that can meet this state
pub record Numbers (j : Job) (s : State) : Type 0 where
  pub steps : (c : ℕ) → StepNumbers j s c
  pub takes : (c : ℕ) → TakeNumbers s c
  pub steals : (c t : ℕ) → StealNumbers j s c t
  pub enables : (t : ℕ) → EnableNumbers s t
