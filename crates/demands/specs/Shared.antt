-- T-04, "words shared for reading", as a promise beside demand 3: what holds of shared words at every state of a run. Document 02 asks that "a
-- job that shares still ends alike under all schedules"; that is demand 3 itself, since the plain run follows the same rules. What follows is why
-- it can: nobody may store what somebody else may load.
use Rattle.std.specs.Prelude.{true, false, ◌≡◌, ℕ, ◌-◌, ◌≤◌, ◌<◌, get_or}
use Rattle.schedule.specs.declared.Entry.{Entry}
use Rattle.window.specs.Rights.{may_load, may_store}
use Rattle.rules.specs.State.{State}
use Rattle.rules.specs.Rules.{entry_of}
use Rattle.rules.specs.Sound.{Used, parent_at, window_held}
use Rattle.demands.specs.Input.{Input, job_in}

-- thread t shares the word at a: "from s up to the parent's hi", s being the ceiling
pub record Shares (s : State) (t a : ℕ) : Type 0 where
  pub used : Used s t
  pub from : (window_held s t).ceiling ≤ a
  pub to : a < (window_held s t).hi

-- thread t was given the word at a to read, at its fork
pub record Reads (s : State) (t a : ℕ) : Type 0 where
  pub used : Used s t
  pub from : (window_held s t).from ≤ a
  pub to : a < (window_held s t).to

-- thread p is thread t's parent, or its parent's, and so on
pub data Ancestor (s : State) (p : ℕ) : ℕ → Type 0 where
  parent : (t : ℕ) → (t ≡ 0 → ⊥) → parent_at s t ≡ p → Ancestor s p t
  further : (t : ℕ) → (t ≡ 0 → ⊥) → Ancestor s p (parent_at s t) → Ancestor s p t

pub record SharedReading (i : Input) (end : State) : Type 0 where
  -- what a thread may store no other thread may load; no exception is made for those that wait for their join
  pub apart : (t u a : ℕ) → Used end t → Used end u → (t ≡ u → ⊥) → may_store (window_held end t) a ≡ true → may_load (window_held end u) a ≡ false
  -- while a word is shared no thread of the job may store it: neither the sharer nor any other
  pub unstored : (t u a : ℕ) → Shares end t a → Used end u → may_store (window_held end u) a ≡ false
  -- so it holds its value: no entry changes it
  pub steady : (t a : ℕ) → Shares end t a → (e : Entry)
      → get_or (entry_of (job_in i) end e).state.store.memory (a - 32) 0 ≡ get_or end.store.memory (a - 32) 0
  -- "Until the join": it stays shared as long as the sharer has a child
  pub lasting : (t u a : ℕ) → Shares end t a → Used end u → (u ≡ 0 → ⊥) → parent_at end u ≡ t → (e : Entry)
      → Shares (entry_of (job_in i) end e).state t a
  -- "A child forked meanwhile may also load from s up to the parent's hi": what it was given may be loaded
  pub loaded : (t a : ℕ) → Reads end t a → may_load (window_held end t) a ≡ true
  -- and is shared still: T-07, "a read span lies in what an ancestor shares"
  pub given : (t a : ℕ) → Reads end t a → (p : ℕ) × Ancestor end p t × Shares end p a
