-- T-12, "A lone core never runs dry": of which jobs it speaks, and what the built-in scheduler, document 01's house run, promises of them.
use Rattle.std.specs.Prelude.{List, ◌≡◌, ℕ, ◌+◌, ◌*◌, ◌≤◌, ◌<◌, replicate}
use Rattle.schedule.specs.declared.Entry.TheVariants.{Step}
use Rattle.rules.specs.State.{State, finished}
use Rattle.rules.specs.Rules.{entry_of}
use Rattle.search.specs.Search.{choice_of}
use Rattle.rounds.specs.Rounds.{Progress}
use Rattle.serial.specs.Serial.{done}
use Rattle.demands.specs.Input.{Input, job_in}
use Rattle.demands.specs.Demands.{serial_in, state_after}
use Rattle.lonecore.specs.LforksOnly.{LforksOnly}
use Rattle.lonecore.specs.Depth.{depth_in}
use Rattle.lonecore.specs.Commands.{commands_in}

-- "For an image without 09, 0B and 0C, whose plain run finishes and goes at most 16 routines deep, the house run on one core with the same
-- allowance .., given an entry buffer of twice the commands carried out plus one byte, if that is at most 32,768": of an input and a buffer of
-- so many bytes, where the plain run finishes with result v, memory m and units u. That a run takes the input is said beside it (`never-dry`)
pub record LoneCore (i : Input) (size v u : ℕ) (m : List ℕ) : Type 0 where
  pub image : LforksOnly i.image
  pub finishes : serial_in i ≡ done v m u
  pub shallow : depth_in i ≤ 16
  pub cores : i.cores ≡ 1
  pub buffer : 2 * commands_in i + 1 ≤ size
  pub most : 2 * commands_in i + 1 ≤ 32768

-- the state behind k steps of core 0
abbrev pub after_steps : Input → ℕ → State
after_steps i k = state_after i (replicate k (Step 0))

-- what is promised of the scheduler's end
pub record NeverDry (i : Input) (v u : ℕ) (m : List ℕ) (end : Progress) : Type 0 where
  -- "finishes": with the plain run's result, memory and units
  pub outcome : end.state.outcome ≡ finished v
  pub memory : end.state.store.memory ≡ m
  pub units : end.state.units ≡ u
  -- its entries are a step of core 0 for each command, of 2 bytes each
  pub entries : end.written ≡ replicate (commands_in i) (Step 0)
  -- "No entry meets 20 or 21 on the way": at each state on the way the core tries a step, and it is accepted; so no try is refused at all
  pub tries : (k : ℕ) → k < commands_in i → choice_of (job_in i) (after_steps i k) 0 ≡ Step 0
  pub accepted : (k : ℕ) → k < commands_in i → (entry_of (job_in i) (after_steps i k) (Step 0)).log ≡ 0
