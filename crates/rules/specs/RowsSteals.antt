-- Worked rows: steals (document 01, "Schedule", and the slip of a stolen fork).
use Rattle.std.specs.Prelude.{List, [], ◌∷◌, ◌++◌, replicate}
use Rattle.schedule.specs.declared.Entry.TheVariants.{Step, Take, Steal}
use Rattle.thread.specs.declared.Status.TheVariants.{Free, Running, Lent}
use Rattle.rules.specs.State.{going, finished, faulted}
use Rattle.rules.specs.Row.{WorkedRow, untouched, none_left, five, storing, calls_two}

-- "steal: carry out thread t's next command .., its child independent and running on idle core c, .. t staying lent": of three lforks the
-- second and the third are stolen while the first child has core 0. A stolen child leaves its core idle when it returns (16); when the first
-- child returns the parent goes on behind all three, to its join. Units: 1, three times 6, three times 1 + 1, and 1 + 1 + 1 + 1
abbrev pub stolen_twice : WorkedRow
stolen_twice = record {
  image =
      (0x02 ∷ 0x04 ∷ 0x00 ∷ 0x1E ∷ 0x00 ∷ 0x01 ∷ 0x00 ∷ 0x06 ∷ 0x00 ∷ [])
      ++ (0x01 ∷ 0x03 ∷ 0x20 ∷ 0x00 ∷ 0x08 ∷ 0x01 ∷ 0x00 ∷ 0x00 ∷ 0x03 ∷ 0x08 ∷ 0x01 ∷ 0x01 ∷ 0x00 ∷ 0x03 ∷ [])
      ++ (0x08 ∷ 0x01 ∷ 0x02 ∷ 0x00 ∷ 0x03 ∷ 0x0A ∷ 0x02 ∷ 0x00 ∷ 0x00 ∷ 0x01 ∷ 0x02 ∷ 0x00 ∷ 0x00 ∷ 0x02 ∷ 0x0D ∷ 0x00 ∷ [])
      ++ five;
  cores = 3;
  allowance = 100;
  entries =
      Step 0 ∷ Step 0 ∷ Steal 1 0 ∷ Steal 2 0 ∷ Step 1 ∷ Step 1 ∷ Take 1 ∷ Step 2 ∷ Step 2 ∷ Step 0 ∷ Step 0 ∷ Step 0 ∷ Step 0
      ∷ Step 0 ∷ Step 0 ∷ [];
  log = 0 ∷ 0 ∷ 0 ∷ 0 ∷ 0 ∷ 0 ∷ 16 ∷ 0 ∷ 0 ∷ 0 ∷ 0 ∷ 0 ∷ 0 ∷ 0 ∷ 0 ∷ [];
  outcome = finished 15;
  units = 29;
  memory = untouched;
  statuses = none_left;
}

-- "14 core not below the count; 15 .. steal for a busy one; .. 18 thread above 31, not lent, or its next command not 08 or 09": the root runs
-- at an 08 (18); lent at one, it is robbed by neither core 0 (15) nor core 2 (14); thread 32 (18), the running child (18) and the free thread
-- 5 (18) are not lent. A second steal for core 1 meets 15, and behind both forks the next command is a join (18). Units: 1 + 6 + 6, twice
-- 1 + 1, and 1 + 1
abbrev pub steals_that_are_refused : WorkedRow
steals_that_are_refused = record {
  image = (0x02 ∷ 0x03 ∷ 0x00 ∷ 0x11 ∷ 0x00 ∷ 0x01 ∷ 0x00 ∷ 0x06 ∷ 0x00 ∷ []) ++ calls_two 1 1 ++ five;
  cores = 2;
  allowance = 100;
  entries =
      Step 0 ∷ Steal 1 0 ∷ Step 0 ∷ Steal 0 0 ∷ Steal 2 0 ∷ Steal 1 32 ∷ Steal 1 1 ∷ Steal 1 5 ∷ Steal 1 0 ∷ Steal 1 0 ∷ Step 1
      ∷ Step 1 ∷ Steal 1 0 ∷ Step 0 ∷ Step 0 ∷ Step 0 ∷ Step 0 ∷ [];
  log = 0 ∷ 18 ∷ 0 ∷ 15 ∷ 14 ∷ 18 ∷ 18 ∷ 18 ∷ 0 ∷ 15 ∷ 0 ∷ 0 ∷ 18 ∷ 0 ∷ 0 ∷ 0 ∷ 0 ∷ [];
  outcome = finished 5;
  units = 19;
  memory = untouched;
  statuses = none_left;
}

-- "steal: carry out thread t's next command, an 08 or 09, .. its child independent and running on idle core c": a stolen 09's child runs on
-- core 3 and is not ready (16); when it returns, core 3 is idle (15) and the lent parent is not ready (16). Units: 1 + 6, 12 for the steal,
-- twice 1 + 1, and 1 + 1
abbrev pub stolen_fork : WorkedRow
stolen_fork = record {
  image =
      (0x02 ∷ 0x03 ∷ 0x00 ∷ 0x11 ∷ 0x00 ∷ 0x01 ∷ 0x00 ∷ 0x06 ∷ 0x00 ∷ [])
      ++ (0x01 ∷ 0x02 ∷ 0x20 ∷ 0x00 ∷ 0x08 ∷ 0x01 ∷ 0x00 ∷ 0x00 ∷ 0x02 ∷ 0x09 ∷ 0x01 ∷ 0x01 ∷ 0x00 ∷ 0x02 ∷ 0x0A ∷ [])
      ++ (0x0D ∷ 0x01 ∷ []) ++ five;
  cores = 4;
  allowance = 100;
  entries = Step 0 ∷ Step 0 ∷ Steal 3 0 ∷ Take 1 ∷ Step 3 ∷ Step 3 ∷ Step 3 ∷ Take 3 ∷ Step 0 ∷ Step 0 ∷ Step 0 ∷ Step 0 ∷ [];
  log = 0 ∷ 0 ∷ 0 ∷ 16 ∷ 0 ∷ 0 ∷ 15 ∷ 16 ∷ 0 ∷ 0 ∷ 0 ∷ 0 ∷ [];
  outcome = finished 5;
  units = 25;
  memory = untouched;
  statuses = none_left;
}

-- "steal: carry out thread t's next command, .. t staying lent", for each of two lent threads: threads 0, 1 and 2 stand on core 0; core 1
-- steals from 0 (thread 3) and core 2 from 1 (thread 4). Thread 2 returns, thread 1 meets its join and waits, then the root; 4's end wakes 1,
-- which returns 10, and the root waits on (16) until 3 has ended. Units: twice 1 + 6 + 6, three times 1 + 1, thread 1's 1 + 1 + 1, and 1 + 1
abbrev pub steals_up_the_chain : WorkedRow
steals_up_the_chain = record {
  image =
      (0x03 ∷ 0x03 ∷ 0x00 ∷ 0x11 ∷ 0x00 ∷ 0x03 ∷ 0x00 ∷ 0x15 ∷ 0x00 ∷ 0x01 ∷ 0x00 ∷ 0x06 ∷ 0x00 ∷ []) ++ calls_two 1 2
      ++ (0x01 ∷ 0x02 ∷ 0x20 ∷ 0x00 ∷ 0x08 ∷ 0x02 ∷ 0x00 ∷ 0x00 ∷ 0x02 ∷ 0x08 ∷ 0x02 ∷ 0x01 ∷ 0x00 ∷ 0x02 ∷ 0x0A ∷ [])
      ++ (0x02 ∷ 0x00 ∷ 0x00 ∷ 0x01 ∷ 0x0D ∷ 0x00 ∷ []) ++ five;
  cores = 3;
  allowance = 100;
  entries =
      Step 0 ∷ Step 0 ∷ Step 0 ∷ Step 0 ∷ Steal 1 0 ∷ Steal 2 1 ∷ Step 0 ∷ Step 0 ∷ Step 0 ∷ Step 0 ∷ Step 2 ∷ Step 2 ∷ Take 2
      ∷ Step 2 ∷ Step 2 ∷ Step 2 ∷ Take 2 ∷ Step 1 ∷ Step 1 ∷ Take 1 ∷ Step 1 ∷ Step 1 ∷ [];
  log = 0 ∷ 0 ∷ 0 ∷ 0 ∷ 0 ∷ 0 ∷ 0 ∷ 0 ∷ 0 ∷ 0 ∷ 0 ∷ 0 ∷ 0 ∷ 0 ∷ 0 ∷ 0 ∷ 16 ∷ 0 ∷ 0 ∷ 0 ∷ 0 ∷ 0 ∷ [];
  outcome = finished 10;
  units = 37;
  memory = untouched;
  statuses = none_left;
}

-- "The child's window runs from mark to e, and the mark becomes e", "arguments from slot a on", also by a steal: the called child stores its
-- argument 32 at 32, in the part up to 33; the stolen one 33 at 33, in the part from 33 up to 34. Units: 3, 6 + 6, twice 2 + 1, and 1 + 1
abbrev pub stolen_part_of_the_window : WorkedRow
stolen_part_of_the_window = record {
  image =
      (0x02 ∷ 0x05 ∷ 0x00 ∷ 0x19 ∷ 0x00 ∷ 0x01 ∷ 0x01 ∷ 0x05 ∷ 0x00 ∷ [])
      ++ (0x01 ∷ 0x02 ∷ 0x21 ∷ 0x00 ∷ 0x01 ∷ 0x03 ∷ 0x22 ∷ 0x00 ∷ 0x01 ∷ 0x04 ∷ 0x20 ∷ 0x00 ∷ [])
      ++ (0x08 ∷ 0x01 ∷ 0x00 ∷ 0x04 ∷ 0x02 ∷ 0x08 ∷ 0x01 ∷ 0x01 ∷ 0x02 ∷ 0x03 ∷ 0x0A ∷ 0x0D ∷ 0x01 ∷ []) ++ storing;
  cores = 2;
  allowance = 100;
  entries = Step 0 ∷ Step 0 ∷ Step 0 ∷ Step 0 ∷ Steal 1 0 ∷ Step 1 ∷ Step 1 ∷ Step 0 ∷ Step 0 ∷ Step 0 ∷ Step 0 ∷ [];
  log = replicate 11 0;
  outcome = finished 33;
  units = 23;
  memory = 32 ∷ 33 ∷ 0 ∷ 0 ∷ [];
  statuses = none_left;
}

-- "A step or steal that faults logs the fault's number: .. charges nothing, and changes only that the machine is now over": the stolen lfork's
-- cut is slot 1, which is 0 and below the mark (11), in thread 0 at byte 18. Units: 1 + 6
abbrev pub steal_that_faults : WorkedRow
steal_that_faults = record {
  image =
      (0x02 ∷ 0x03 ∷ 0x00 ∷ 0x11 ∷ 0x00 ∷ 0x01 ∷ 0x00 ∷ 0x06 ∷ 0x00 ∷ [])
      ++ (0x01 ∷ 0x02 ∷ 0x20 ∷ 0x00 ∷ 0x08 ∷ 0x01 ∷ 0x00 ∷ 0x00 ∷ 0x02 ∷ 0x08 ∷ 0x01 ∷ 0x01 ∷ 0x00 ∷ 0x01 ∷ 0x0A ∷ [])
      ++ (0x0D ∷ 0x00 ∷ []) ++ five;
  cores = 2;
  allowance = 100;
  entries = Step 0 ∷ Step 0 ∷ Steal 1 0 ∷ Step 0 ∷ Steal 1 0 ∷ [];
  log = 0 ∷ 0 ∷ 11 ∷ 19 ∷ 19 ∷ [];
  outcome = faulted 11 0 18;
  units = 7;
  memory = untouched;
  statuses = Lent ∷ Running ∷ Free ∷ Free ∷ [];
}

-- "22: units plus the command's weight pass the allowance": 7 units are used, and a steal of 6 passes 12; "changing nothing", so that the
-- called child goes on
abbrev pub steal_passes_the_allowance : WorkedRow
steal_passes_the_allowance = record {
  image = (0x02 ∷ 0x03 ∷ 0x00 ∷ 0x11 ∷ 0x00 ∷ 0x01 ∷ 0x00 ∷ 0x06 ∷ 0x00 ∷ []) ++ calls_two 1 1 ++ five;
  cores = 2;
  allowance = 12;
  entries = Step 0 ∷ Step 0 ∷ Steal 1 0 ∷ Step 0 ∷ [];
  log = 0 ∷ 0 ∷ 22 ∷ 0 ∷ [];
  outcome = going;
  units = 8;
  memory = untouched;
  statuses = Lent ∷ Running ∷ Free ∷ Free ∷ [];
}

-- the same with an allowance of 13, which the steal reaches and does not pass; then nothing is left (22), and the root is lent at its join: 18
-- comes before 22
abbrev pub steal_reaches_the_allowance : WorkedRow
steal_reaches_the_allowance = record {
  image = (0x02 ∷ 0x03 ∷ 0x00 ∷ 0x11 ∷ 0x00 ∷ 0x01 ∷ 0x00 ∷ 0x06 ∷ 0x00 ∷ []) ++ calls_two 1 1 ++ five;
  cores = 3;
  allowance = 13;
  entries = Step 0 ∷ Step 0 ∷ Steal 1 0 ∷ Step 1 ∷ Step 0 ∷ Steal 2 0 ∷ [];
  log = 0 ∷ 0 ∷ 0 ∷ 22 ∷ 22 ∷ 18 ∷ [];
  outcome = going;
  units = 13;
  memory = untouched;
  statuses = Lent ∷ Running ∷ Running ∷ Free ∷ [];
}

abbrev pub steal_rows : List WorkedRow
steal_rows =
    stolen_twice ∷ steals_that_are_refused ∷ stolen_fork ∷ steals_up_the_chain ∷ stolen_part_of_the_window ∷ steal_that_faults
    ∷ steal_passes_the_allowance ∷ steal_reaches_the_allowance ∷ []
