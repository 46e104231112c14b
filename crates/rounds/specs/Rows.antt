-- Worked rows of the built-in scheduler: small runs with the entries that it writes, worked out by hand from document 01, "Schedule". A second
-- witness of its definition: one that chooses, orders or ends in another way writes other entries (proofs/Rows.antt computes them).
use Rattle.std.specs.Prelude.{List, [], ◌∷◌, ◌++◌, ℕ, zero, suc, replicate}
use Rattle.image.specs.Cases.{one_routine}
use Rattle.schedule.specs.declared.Entry.{Entry}
use Rattle.schedule.specs.declared.Entry.TheVariants.{Step, Take, Steal, Enable}
use Rattle.rules.specs.State.{Outcome, going, finished, faulted}
use Rattle.rules.specs.Row.{job_for, start_for, five, nought, resting, calls, calls_two, forks_two}
use Rattle.rounds.specs.Rounds.{Progress, scheduled_from}

-- a run by the scheduler on so many cores, with a buffer of so many bytes
pub record ScheduledRow : Type 0 where
  pub image : List ℕ
  pub cores : ℕ
  pub allowance : ℕ
  pub size : ℕ
  pub written : List Entry
  pub outcome : Outcome
  pub units : ℕ

-- what is told of it
pub record ScheduledEnd : Type 0 where
  pub entries : List Entry
  pub ends : Outcome
  pub charged : ℕ

abbrev end_in : Progress → ScheduledEnd
end_in p = record { entries = p.written; ends = p.state.outcome; charged = p.state.units }

-- by the definition, and by hand
abbrev pub scheduled_by_rounds : ScheduledRow → ScheduledEnd
scheduled_by_rounds r = end_in (scheduled_from (job_for r.image r.allowance) (start_for (job_for r.image r.allowance) r.cores) r.size)

abbrev pub scheduled_by_hand : ScheduledRow → ScheduledEnd
scheduled_by_hand r = record { entries = r.written; ends = r.outcome; charged = r.units }

-- of each row
abbrev pub each_scheduled : (ScheduledRow → ScheduledEnd) → List ScheduledRow → List ScheduledEnd
each_scheduled end [] = []
each_scheduled end (r ∷ rs) = end r ∷ each_scheduled end rs

-- n rounds in which two busy cores step
abbrev pub in_turn : ℕ → List Entry
in_turn zero = []
in_turn (suc n) = Step 0 ∷ Step 1 ∷ in_turn n

-- "In rounds, cores in ascending order: a busy core steps; an idle one takes if the line is not empty": in the second and the third round
-- core 0 forks, and the child is taken in the same round, by core 1, then by core 2; of the cores that are idle when the root is ready again
-- the lowest takes it. Units: 1 + 12 + 12, twice 1 + 1, and 1 + 1
abbrev pub forks_are_taken : ScheduledRow
forks_are_taken = record {
  image = (0x02 ∷ 0x03 ∷ 0x00 ∷ 0x11 ∷ 0x00 ∷ 0x01 ∷ 0x00 ∷ 0x06 ∷ 0x00 ∷ []) ++ forks_two ++ five;
  cores = 3;
  allowance = 100;
  size = 128;
  written =
      Step 0
      ∷ Step 0 ∷ Take 1
      ∷ Step 0 ∷ Step 1 ∷ Take 2
      ∷ Step 0 ∷ Step 1 ∷ Step 2
      ∷ Step 2
      ∷ Take 0
      ∷ Step 0
      ∷ Step 0 ∷ [];
  outcome = finished 5;
  units = 31;
}

-- "an idle one takes if the line is not empty, else steals": when core 1 is idle again, in the fifth round, thread 2 is ready and the lent root
-- is at an 08. It takes. Units: 1 + 12 + 12 + 6 + 6, four times 1 + 1, and 1 + 1
abbrev pub takes_before_it_steals : ScheduledRow
takes_before_it_steals = record {
  image =
      (0x02 ∷ 0x05 ∷ 0x00 ∷ 0x1B ∷ 0x00 ∷ 0x01 ∷ 0x00 ∷ 0x06 ∷ 0x00 ∷ [])
      ++ (0x01 ∷ 0x04 ∷ 0x20 ∷ 0x00 ∷ 0x09 ∷ 0x01 ∷ 0x00 ∷ 0x00 ∷ 0x04 ∷ 0x09 ∷ 0x01 ∷ 0x01 ∷ 0x00 ∷ 0x04 ∷ [])
      ++ (0x08 ∷ 0x01 ∷ 0x02 ∷ 0x00 ∷ 0x04 ∷ 0x08 ∷ 0x01 ∷ 0x03 ∷ 0x00 ∷ 0x04 ∷ 0x0A ∷ 0x0D ∷ 0x00 ∷ []) ++ five;
  cores = 2;
  allowance = 100;
  size = 128;
  written =
      Step 0
      ∷ Step 0 ∷ Take 1
      ∷ Step 0 ∷ Step 1
      ∷ Step 0 ∷ Step 1
      ∷ Step 0 ∷ Take 1
      ∷ Step 0 ∷ Step 1
      ∷ Step 0 ∷ Step 1
      ∷ Step 0
      ∷ Step 0
      ∷ Step 0
      ∷ Step 0 ∷ [];
  outcome = finished 5;
  units = 47;
}

-- "For a steal, cores are gone through from 0": in the fourth round threads 1, on core 0's chain, and 2, on core 1's, are lent at an 08 each.
-- Core 2 steals from 1. Thread 2's end makes the root ready, and core 2, whose turn is next, takes it. Units: three times 1 + 6 + 6 + 1 + 1, and
-- four times 1 + 1
abbrev pub seed_of_the_lowest_core : ScheduledRow
seed_of_the_lowest_core = record {
  image =
      (0x03 ∷ 0x03 ∷ 0x00 ∷ 0x11 ∷ 0x00 ∷ 0x03 ∷ 0x00 ∷ 0x11 ∷ 0x00 ∷ 0x01 ∷ 0x00 ∷ 0x06 ∷ 0x00 ∷ [])
      ++ calls_two 1 1 ++ calls_two 2 2 ++ five;
  cores = 3;
  allowance = 100;
  size = 128;
  written =
      Step 0
      ∷ Step 0 ∷ Steal 1 0
      ∷ Step 0 ∷ Step 1
      ∷ Step 0 ∷ Step 1 ∷ Steal 2 1
      ∷ Step 0 ∷ Step 1 ∷ Step 2
      ∷ Step 0 ∷ Step 1 ∷ Step 2
      ∷ Step 0 ∷ Step 1
      ∷ Step 0 ∷ Step 1
      ∷ Step 0 ∷ Step 1
      ∷ Step 1
      ∷ Step 1 ∷ Take 2
      ∷ Step 2
      ∷ Step 2 ∷ [];
  outcome = finished 5;
  units = 53;
}

-- the image of the next two rows: routine 0 lforks routine 1, then routine 2 twice; routine 1 lforks routine 2, then forks it
abbrev pub two_seeds_on_a_chain : List ℕ
two_seeds_on_a_chain =
    (0x03 ∷ 0x04 ∷ 0x00 ∷ 0x16 ∷ 0x00 ∷ 0x03 ∷ 0x00 ∷ 0x11 ∷ 0x00 ∷ 0x01 ∷ 0x00 ∷ 0x06 ∷ 0x00 ∷ [])
    ++ (0x01 ∷ 0x03 ∷ 0x20 ∷ 0x00 ∷ 0x08 ∷ 0x01 ∷ 0x00 ∷ 0x00 ∷ 0x03 ∷ 0x08 ∷ 0x02 ∷ 0x01 ∷ 0x00 ∷ 0x03 ∷ [])
    ++ (0x08 ∷ 0x02 ∷ 0x02 ∷ 0x00 ∷ 0x03 ∷ 0x0A ∷ 0x0D ∷ 0x00 ∷ [])
    ++ (0x01 ∷ 0x02 ∷ 0x20 ∷ 0x00 ∷ 0x08 ∷ 0x02 ∷ 0x00 ∷ 0x00 ∷ 0x02 ∷ 0x09 ∷ 0x02 ∷ 0x01 ∷ 0x00 ∷ 0x02 ∷ 0x0A ∷ 0x0D ∷ 0x00 ∷ [])
    ++ five

-- "each up its chain of lent parents, until the first seed is met": in the fifth round core 0 has thread 3, its parent 1 is lent at a 09, and
-- 1's parent, the root, at an 08. Core 1 steals from 1. Units: 1 + 18 + 1 + 1, thread 1's 1 + 6 + 12 + 1 + 1, and four times 1 + 1
abbrev pub youngest_seed_first : ScheduledRow
youngest_seed_first = record {
  image = two_seeds_on_a_chain;
  cores = 2;
  allowance = 100;
  size = 128;
  written =
      Step 0
      ∷ Step 0 ∷ Steal 1 0
      ∷ Step 0 ∷ Step 1
      ∷ Step 0 ∷ Step 1
      ∷ Step 0 ∷ Steal 1 1
      ∷ Step 0 ∷ Step 1
      ∷ Step 0 ∷ Step 1
      ∷ Step 0 ∷ Take 1
      ∷ Step 0 ∷ Step 1
      ∷ Step 0 ∷ Step 1
      ∷ Step 0
      ∷ Step 0 ∷ [];
  outcome = finished 5;
  units = 50;
}

-- the same with an allowance of 34, of which 23 are used in the fifth round: thread 1's 09 passes it (22), and is not written. "until the first
-- seed is met": the root's 08, which would be paid for, is not tried before the next round, when it is the first seed. Then thread 1's 09 is
-- refused on core 0 in each round, and "It ends .. when nothing can be enabled". Units: 23, 1 + 6, and 1 + 1
abbrev pub first_seed_is_refused : ScheduledRow
first_seed_is_refused = record {
  image = two_seeds_on_a_chain;
  cores = 2;
  allowance = 34;
  size = 128;
  written =
      Step 0
      ∷ Step 0 ∷ Steal 1 0
      ∷ Step 0 ∷ Step 1
      ∷ Step 0 ∷ Step 1
      ∷ Step 0
      ∷ Step 0 ∷ Steal 1 0
      ∷ Step 1
      ∷ Step 1 ∷ [];
  outcome = going;
  units = 32;
}

-- "each up its chain of lent parents": thread 3 on core 0 is a stolen child of the root, which is lent at an 08 on core 1's chain; so it is on
-- no chain of core 0's, which has no seed, and in the fifth round core 2 steals from thread 1, the youngest on core 1's. The root came to core 1
-- by a yield, taken in the same round. Units: 3 + 1 + 24 + 1 + 1, thread 1's 1 + 6 + 6 + 1 + 1, and 1, 2, 1, 1, 1
abbrev pub chain_ends_at_a_stolen_child : ScheduledRow
chain_ends_at_a_stolen_child = record {
  image =
      (0x04 ∷ 0x05 ∷ 0x00 ∷ 0x1C ∷ 0x00 ∷ 0x03 ∷ 0x00 ∷ 0x11 ∷ 0x00 ∷ 0x01 ∷ 0x00 ∷ 0x06 ∷ 0x00 ∷ 0x01 ∷ 0x00 ∷ 0x02 ∷ 0x00 ∷ [])
      ++ (0x0C ∷ 0x01 ∷ 0x04 ∷ 0x20 ∷ 0x00 ∷ 0x08 ∷ 0x01 ∷ 0x00 ∷ 0x00 ∷ 0x04 ∷ 0x08 ∷ 0x03 ∷ 0x01 ∷ 0x00 ∷ 0x04 ∷ [])
      ++ (0x08 ∷ 0x02 ∷ 0x02 ∷ 0x00 ∷ 0x04 ∷ 0x08 ∷ 0x03 ∷ 0x03 ∷ 0x00 ∷ 0x04 ∷ 0x0A ∷ 0x0D ∷ 0x00 ∷ [])
      ++ calls_two 3 3 ++ five ++ nought;
  cores = 3;
  allowance = 100;
  size = 128;
  written =
      Step 0 ∷ Take 1
      ∷ Step 1
      ∷ Step 1 ∷ Steal 2 0
      ∷ Steal 0 0 ∷ Step 1 ∷ Step 2
      ∷ Step 0 ∷ Step 1 ∷ Steal 2 1
      ∷ Step 0 ∷ Step 1 ∷ Step 2
      ∷ Steal 0 0 ∷ Step 1
      ∷ Step 0 ∷ Step 1
      ∷ Step 1
      ∷ Step 1 ∷ [];
  outcome = finished 0;
  units = 51;
}

-- "cores are gone through from 0", up to the last: the root goes by three yields to core 3, and core 0 steals its seed there. Units: three times 3,
-- 1 + 6 + 6, twice 1 + 1, and 1 + 1
abbrev pub seed_of_the_last_core : ScheduledRow
seed_of_the_last_core = record {
  image =
      (0x02 ∷ 0x03 ∷ 0x00 ∷ 0x14 ∷ 0x00 ∷ 0x01 ∷ 0x00 ∷ 0x06 ∷ 0x00 ∷ []) ++ (0x0C ∷ 0x0C ∷ 0x0C ∷ []) ++ calls_two 1 1 ++ five;
  cores = 4;
  allowance = 100;
  size = 128;
  written =
      Step 0 ∷ Take 1
      ∷ Step 1 ∷ Take 2
      ∷ Step 2 ∷ Take 3
      ∷ Step 3
      ∷ Step 3
      ∷ Steal 0 0 ∷ Step 3
      ∷ Step 0 ∷ Step 3
      ∷ Step 0 ∷ Step 3
      ∷ Step 3 ∷ [];
  outcome = finished 5;
  units = 28;
}

-- the seed at the far end of a chain of nine: the root lforks routine 1, which calls itself, then routine 2, which core 1 steals and is busy with
-- for 12 joins and a return, then routine 3. In the sixteenth round core 0 has thread 9; 8 to 3 and 1 are lent at joins, and the root at its last
-- 08. Its steal leaves 2 of 66 bytes. Units: 1 + 6 + 6, seven times 1 + 6, 12 + 1, and 6
abbrev pub seed_at_the_far_end : ScheduledRow
seed_at_the_far_end = record {
  image =
      (0x04 ∷ 0x04 ∷ 0x00 ∷ 0x16 ∷ 0x00 ∷ 0x02 ∷ 0x00 ∷ 0x0C ∷ 0x00 ∷ 0x01 ∷ 0x00 ∷ 0x0E ∷ 0x00 ∷ 0x01 ∷ 0x00 ∷ 0x02 ∷ 0x00 ∷ [])
      ++ (0x01 ∷ 0x03 ∷ 0x20 ∷ 0x00 ∷ 0x08 ∷ 0x01 ∷ 0x00 ∷ 0x00 ∷ 0x03 ∷ 0x08 ∷ 0x02 ∷ 0x01 ∷ 0x00 ∷ 0x03 ∷ [])
      ++ (0x08 ∷ 0x03 ∷ 0x02 ∷ 0x00 ∷ 0x03 ∷ 0x0A ∷ 0x0D ∷ 0x00 ∷ []) ++ calls 1 ++ (replicate 12 0x0A ++ nought) ++ nought;
  cores = 2;
  allowance = 100;
  size = 66;
  written = Step 0 ∷ Step 0 ∷ Steal 1 0 ∷ (in_turn 13 ++ (Step 0 ∷ Steal 1 0 ∷ []));
  outcome = going;
  units = 81;
}

-- two called children that suspend
abbrev pub two_that_rest : List ℕ
two_that_rest = (0x02 ∷ 0x03 ∷ 0x00 ∷ 0x11 ∷ 0x00 ∷ 0x01 ∷ 0x00 ∷ 0x03 ∷ 0x00 ∷ []) ++ calls_two 1 1 ++ resting

-- "After a round with nothing accepted the lowest suspended thread is enabled": thread 1 is suspended in the third round and thread 2 in the
-- fifth; the root waits in the sixth, and in the seventh nothing is accepted. Thread 1 is enabled first, and 2 after the next such round.
-- Units: 1, twice 6 + 3 + 1, and 1 + 1
abbrev pub lowest_is_enabled : ScheduledRow
lowest_is_enabled = record {
  image = two_that_rest;
  cores = 1;
  allowance = 100;
  size = 128;
  written =
      Step 0 ∷ Step 0 ∷ Step 0 ∷ Step 0 ∷ Step 0 ∷ Step 0 ∷ Enable 1 ∷ Take 0 ∷ Step 0 ∷ Enable 2 ∷ Take 0 ∷ Step 0 ∷ Take 0 ∷ Step 0
      ∷ Step 0 ∷ [];
  outcome = finished 0;
  units = 23;
}

-- the root too: thread 0 is the lowest of all. Units: 3 + 1
abbrev pub root_is_enabled : ScheduledRow
root_is_enabled = record {
  image = one_routine resting;
  cores = 1;
  allowance = 100;
  size = 128;
  written = Step 0 ∷ Enable 0 ∷ Take 0 ∷ Step 0 ∷ [];
  outcome = finished 0;
  units = 4;
}

-- "when before a try fewer than 3 bytes are left of its buffer": the six steps take 12 bytes, so that of 14 bytes 2 are left, and the enable is
-- not tried
abbrev pub enable_with_two_bytes : ScheduledRow
enable_with_two_bytes = record {
  image = two_that_rest;
  cores = 1;
  allowance = 100;
  size = 14;
  written = Step 0 ∷ Step 0 ∷ Step 0 ∷ Step 0 ∷ Step 0 ∷ Step 0 ∷ [];
  outcome = going;
  units = 19;
}

-- the same with 15 bytes: it is tried, and one byte is left
abbrev pub enable_with_three_bytes : ScheduledRow
enable_with_three_bytes = record {
  image = two_that_rest;
  cores = 1;
  allowance = 100;
  size = 15;
  written = Step 0 ∷ Step 0 ∷ Step 0 ∷ Step 0 ∷ Step 0 ∷ Step 0 ∷ Enable 1 ∷ [];
  outcome = going;
  units = 19;
}

-- an enabled thread whose command is refused (22): no step of it is written, and then no thread is suspended. Units: 1 + 6 + 3
abbrev pub nothing_to_enable : ScheduledRow
nothing_to_enable = record {
  image = (0x02 ∷ 0x02 ∷ 0x00 ∷ 0x0C ∷ 0x00 ∷ 0x01 ∷ 0x00 ∷ 0x03 ∷ 0x00 ∷ []) ++ calls 1 ++ resting;
  cores = 1;
  allowance = 10;
  size = 128;
  written = Step 0 ∷ Step 0 ∷ Step 0 ∷ Step 0 ∷ Enable 1 ∷ Take 0 ∷ [];
  outcome = going;
  units = 10;
}

-- two called children
abbrev pub two_that_return : List ℕ
two_that_return = (0x02 ∷ 0x03 ∷ 0x00 ∷ 0x11 ∷ 0x00 ∷ 0x01 ∷ 0x00 ∷ 0x06 ∷ 0x00 ∷ []) ++ calls_two 1 1 ++ five

-- of 6 bytes the two steps leave 2, and the steal is not tried
abbrev pub steal_with_two_bytes : ScheduledRow
steal_with_two_bytes = record {
  image = two_that_return;
  cores = 2;
  allowance = 100;
  size = 6;
  written = Step 0 ∷ Step 0 ∷ [];
  outcome = going;
  units = 7;
}

-- of 9 bytes the steps and the steal, of 3 bytes, leave 2
abbrev pub steal_takes_three_bytes : ScheduledRow
steal_takes_three_bytes = record {
  image = two_that_return;
  cores = 2;
  allowance = 100;
  size = 9;
  written = Step 0 ∷ Step 0 ∷ Steal 1 0 ∷ [];
  outcome = going;
  units = 13;
}

-- "it writes the accepted or faulting entries it uses": the stolen lfork's cut is slot 1, which is 0 and below the mark (11), in thread 0 at
-- byte 18. "It ends when over"
abbrev pub faulting_steal : ScheduledRow
faulting_steal = record {
  image =
      (0x02 ∷ 0x03 ∷ 0x00 ∷ 0x11 ∷ 0x00 ∷ 0x01 ∷ 0x00 ∷ 0x06 ∷ 0x00 ∷ [])
      ++ (0x01 ∷ 0x02 ∷ 0x20 ∷ 0x00 ∷ 0x08 ∷ 0x01 ∷ 0x00 ∷ 0x00 ∷ 0x02 ∷ 0x08 ∷ 0x01 ∷ 0x01 ∷ 0x00 ∷ 0x01 ∷ 0x0A ∷ 0x0D ∷ 0x00 ∷ []) ++ five;
  cores = 2;
  allowance = 100;
  size = 128;
  written = Step 0 ∷ Step 0 ∷ Steal 1 0 ∷ [];
  outcome = faulted 11 0 18;
  units = 7;
}

-- a faulting step: a store at address 0 (10), at byte 5
abbrev pub faulting_step : ScheduledRow
faulting_step = record {
  image = one_routine (0x05 ∷ 0x00 ∷ 0x00 ∷ 0x0D ∷ 0x00 ∷ []);
  cores = 2;
  allowance = 100;
  size = 128;
  written = Step 0 ∷ [];
  outcome = faulted 10 0 5;
  units = 0;
}

-- a pending slot is read (9), at byte 18. Units: 1 + 6, and the child's 1 + 1
abbrev pub pending_is_read : ScheduledRow
pending_is_read = record {
  image =
      (0x02 ∷ 0x03 ∷ 0x00 ∷ 0x0F ∷ 0x00 ∷ 0x01 ∷ 0x00 ∷ 0x06 ∷ 0x00 ∷ [])
      ++ (0x01 ∷ 0x02 ∷ 0x20 ∷ 0x00 ∷ 0x08 ∷ 0x01 ∷ 0x00 ∷ 0x00 ∷ 0x02 ∷ 0x02 ∷ 0x01 ∷ 0x00 ∷ 0x00 ∷ 0x0D ∷ 0x01 ∷ []) ++ five;
  cores = 1;
  allowance = 100;
  size = 128;
  written = Step 0 ∷ Step 0 ∷ Step 0 ∷ Step 0 ∷ Step 0 ∷ [];
  outcome = faulted 9 0 18;
  units = 9;
}

-- a return with a pending slot (12), at byte 18
abbrev pub return_with_pending : ScheduledRow
return_with_pending = record {
  image =
      (0x02 ∷ 0x03 ∷ 0x00 ∷ 0x0B ∷ 0x00 ∷ 0x01 ∷ 0x00 ∷ 0x06 ∷ 0x00 ∷ [])
      ++ (0x01 ∷ 0x02 ∷ 0x20 ∷ 0x00 ∷ 0x08 ∷ 0x01 ∷ 0x00 ∷ 0x00 ∷ 0x02 ∷ 0x0D ∷ 0x02 ∷ []) ++ five;
  cores = 1;
  allowance = 100;
  size = 128;
  written = Step 0 ∷ Step 0 ∷ Step 0 ∷ Step 0 ∷ Step 0 ∷ [];
  outcome = faulted 12 0 18;
  units = 9;
}

-- one step finishes, with a buffer of 3 bytes
abbrev pub step_with_three_bytes : ScheduledRow
step_with_three_bytes = record {
  image = one_routine (0x0D ∷ 0x00 ∷ []);
  cores = 4;
  allowance = 100;
  size = 3;
  written = Step 0 ∷ [];
  outcome = finished 0;
  units = 1;
}

-- with 2 bytes there is no try
abbrev pub step_with_two_bytes : ScheduledRow
step_with_two_bytes = record {
  image = one_routine (0x0D ∷ 0x00 ∷ []);
  cores = 4;
  allowance = 100;
  size = 2;
  written = [];
  outcome = going;
  units = 0;
}

-- a faulting 0E, of slot 0, which is 0 and below the mark (31), at byte 5: it is written like any fault
abbrev pub faulting_share : ScheduledRow
faulting_share = record {
  image = one_routine (0x0E ∷ 0x00 ∷ 0x0D ∷ 0x00 ∷ []);
  cores = 1;
  allowance = 100;
  size = 128;
  written = Step 0 ∷ [];
  outcome = faulted 31 0 5;
  units = 0;
}

abbrev pub scheduled_rows : List ScheduledRow
scheduled_rows =
    forks_are_taken
    ∷ takes_before_it_steals
    ∷ seed_of_the_lowest_core
    ∷ youngest_seed_first
    ∷ first_seed_is_refused
    ∷ chain_ends_at_a_stolen_child
    ∷ seed_of_the_last_core
    ∷ seed_at_the_far_end
    ∷ lowest_is_enabled
    ∷ root_is_enabled
    ∷ enable_with_two_bytes
    ∷ enable_with_three_bytes
    ∷ nothing_to_enable
    ∷ steal_with_two_bytes
    ∷ steal_takes_three_bytes
    ∷ faulting_steal
    ∷ faulting_step
    ∷ pending_is_read
    ∷ return_with_pending
    ∷ faulting_share
    ∷ step_with_three_bytes
    ∷ step_with_two_bytes
    ∷ []
