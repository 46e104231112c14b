-- Beyond T-12: such images on any number of cores. Running and ready threads are together at most as many as the cores, and every thread in use is
-- one of them or an ancestor of one; these chains share the root. So by the built-in scheduler threads in use are at most cores * (depth - 1) + 1
-- at every state. Where that is at most 16, no thread number and no stacklet is ever short, and the run finishes. It rests on the order of sources:
-- an idle core takes a ready thread before it steals.
use Rattle.std.specs.Prelude.{List, ◌++◌, ◌⊎◌, ◌≡◌, ℕ, ◌+◌, ◌-◌, ◌*◌, ◌≤◌, ◌<◌}
use Rattle.schedule.specs.declared.Entry.{Entry}
use Rattle.thread.specs.declared.Status.TheVariants.{Free}
use Rattle.census.specs.Counted.{records_in}
use Rattle.rules.specs.State.{State, going, finished}
use Rattle.rules.specs.Rules.{entry_of}
use Rattle.search.specs.Search.{choice_of}
use Rattle.rounds.specs.Rounds.{Progress}
use Rattle.serial.specs.Serial.{done}
use Rattle.demands.specs.Input.{Input, job_in}
use Rattle.demands.specs.Demands.{serial_in, state_after}
use Rattle.lonecore.specs.LforksOnly.{LforksOnly}
use Rattle.lonecore.specs.Depth.{depth_in}
use Rattle.lonecore.specs.Commands.{commands_in}

-- the threads in use: the records that are not free
abbrev pub used_in : State → ℕ
used_in s = 32 - records_in Free s.threads

-- the bound on them
abbrev pub most_used : Input → ℕ
most_used i = i.cores * (depth_in i - 1) + 1

-- at every state on the way, whatever the buffer and the bound: behind any first entries of those that are written
abbrev pub FewInUse : Input → Progress → Type 0
FewInUse i end = (before after : List Entry) → end.written ≡ before ++ after → used_in (state_after i before) ≤ most_used i

-- an image without 09, 0B and 0C, whose plain run finishes with result v, memory m and units u; room for its threads; and a buffer of six bytes for
-- each command carried out: a command has two, a stolen fork three, and a join that waited six, by its wait, the take behind it and its step
pub record SeveralCores (i : Input) (size v u : ℕ) (m : List ℕ) : Type 0 where
  pub image : LforksOnly i.image
  pub finishes : serial_in i ≡ done v m u
  pub room : most_used i ≤ 16
  pub buffer : 6 * commands_in i ≤ size
  pub most : 6 * commands_in i ≤ 32768

-- what is promised of the scheduler's end
pub record NeverShort (i : Input) (v u : ℕ) (m : List ℕ) (end : Progress) : Type 0 where
  pub outcome : end.state.outcome ≡ finished v
  pub memory : end.state.store.memory ≡ m
  pub units : end.state.units ≡ u
  -- at every open state on the way each core's try is accepted, or the core is idle and finds no seed (18): no try meets 20, 21 or 22
  pub tries : (before after : List Entry) → end.written ≡ before ++ after → (state_after i before).outcome ≡ going → (c : ℕ) → c < i.cores
      → ((entry_of (job_in i) (state_after i before) (choice_of (job_in i) (state_after i before) c)).log ≡ 0)
      ⊎ ((entry_of (job_in i) (state_after i before) (choice_of (job_in i) (state_after i before) c)).log ≡ 18)
