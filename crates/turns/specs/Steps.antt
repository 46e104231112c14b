-- What the rounds' functions give.
use Rattle.std.specs.Prelude.{cond, List, [], ◌∷◌, ◌++◌, ◌≡◌, ℕ, ◌+◌, ◌-◌, ◌/◌, eqb, length, take, drop, replicate}
use Rattle.schedule.specs.declared.Entry.{Entry}
use Rattle.schedule.specs.Format.{bytes_of_entries}
use Rattle.rules.specs.State.{Job, State}
use Rattle.rounds.specs.Rounds.{is_written, scheduled_from, filled}

-- how many steps of an only core may follow a first one: each has 2 bytes, and before each 3 must be left
abbrev pub steps_behind : ℕ → ℕ → ℕ
steps_behind cores left = cond (eqb cores 1) ((left - 3) / 2) 0

-- bytes stand at a position, and all others stay
pub record Puts (bytes before : List ℕ) (at r : ℕ) (after : List ℕ) : Type 0 where
  pub position : r ≡ at + length bytes
  pub buffer : after ≡ take at before ++ (bytes ++ drop (at + length bytes) before)

-- what is written of an entry with a log byte: it, or nothing where it is refused
abbrev pub last_kept : Entry → ℕ → List Entry
last_kept e log = cond (is_written log) (e ∷ []) []

-- what is written of an entry that was carried out once and then again, each time accepted but perhaps the last
abbrev pub kept : Entry → ℕ → ℕ → List Entry
kept e again log = replicate again e ++ last_kept e log

-- its bytes stand at a position
abbrev pub Keeps : Entry → ℕ → ℕ → List ℕ → ℕ → ℕ → List ℕ → Type 0
Keeps e again log before at r after = Puts (bytes_of_entries (kept e again log)) before at r after

-- the rounds from a state on: the state that they end in, and their entries at the buffer's front
pub record Rounded (j : Job) (s : State) (before : List ℕ) (end : State) (position : ℕ) (after : List ℕ) : Type 0 where
  pub state : end ≡ (scheduled_from j s (length before)).state
  pub used : position ≡ length (bytes_of_entries (scheduled_from j s (length before)).written)
  pub buffer : after ≡ filled before (scheduled_from j s (length before)).written
