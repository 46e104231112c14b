-- Worked rows: entries that are refused, suspend and yield, and the allowance (document 01, "Schedule" and its numbers 14 to 19 and 22).
use Rattle.std.specs.Prelude.{List, [], ◌∷◌, ◌++◌}
use Rattle.schedule.specs.declared.Entry.TheVariants.{Step, Take, Steal, Enable}
use Rattle.thread.specs.declared.Status.TheVariants.{Free, Running, Ready, Suspended, Waiting, Lent}
use Rattle.rules.specs.State.{going, finished, faulted}
use Rattle.rules.specs.Row.{WorkedRow, untouched, none_left, five, nought, resting, yielding, storing, calls}

-- "Start: thread 0 runs routine 0 on core 0, its frame on stacklet 0; other cores are idle"; "all zero but the arguments in its first slots":
-- core 1 is idle (15); slot 2, less the first argument, 7, plus the second, 8, is 1. Units: 3
abbrev pub starts_on_its_arguments : WorkedRow
starts_on_its_arguments = record {
  image = (0x01 ∷ 0x03 ∷ 0x02 ∷ 0x0A ∷ 0x00 ∷ []) ++ (0x03 ∷ 0x02 ∷ 0x02 ∷ 0x00 ∷ 0x02 ∷ 0x02 ∷ 0x02 ∷ 0x01 ∷ 0x0D ∷ 0x02 ∷ []);
  cores = 2;
  allowance = 100;
  entries = Step 1 ∷ Step 0 ∷ Step 0 ∷ Step 0 ∷ [];
  log = 15 ∷ 0 ∷ 0 ∷ 0 ∷ [];
  outcome = finished 1;
  units = 3;
  memory = untouched;
  statuses = none_left;
}

-- "Entry: 19, 14, 15, 16 to 18": step, take and steal for cores 2 and 3 of two (14); a step of idle core 1, a take and a steal for busy core 0
-- (15); an empty queue (16); threads 0, which runs, 1, which is free, and 32 are not suspended (17); threads 0 and 32 are not lent (18). Then
-- the root returns, and every entry meets 19, for core 5 and thread 32 too. Units: 1
abbrev pub entries_that_are_refused : WorkedRow
entries_that_are_refused = record {
  image = (0x01 ∷ 0x01 ∷ 0x00 ∷ 0x02 ∷ 0x00 ∷ []) ++ nought;
  cores = 2;
  allowance = 100;
  entries =
      Step 2 ∷ Take 2 ∷ Steal 3 0 ∷ Step 1 ∷ Take 0 ∷ Steal 0 0 ∷ Take 1 ∷ Enable 0 ∷ Enable 1 ∷ Enable 32 ∷ Steal 1 0 ∷ Steal 1 32
      ∷ Step 0 ∷ Step 5 ∷ Take 5 ∷ Steal 5 0 ∷ Step 0 ∷ Take 0 ∷ Steal 0 0 ∷ Enable 32 ∷ [];
  log = 14 ∷ 14 ∷ 14 ∷ 15 ∷ 15 ∷ 15 ∷ 16 ∷ 17 ∷ 17 ∷ 17 ∷ 18 ∷ 18 ∷ 0 ∷ 19 ∷ 19 ∷ 19 ∷ 19 ∷ 19 ∷ 19 ∷ 19 ∷ [];
  outcome = finished 0;
  units = 1;
  memory = untouched;
  statuses = none_left;
}

-- "yield: the command is done, then the thread .. stands at the tail of the ready line": it is not suspended (17), and its core is idle (15)
-- until it is taken again. Units: 3 + 1
abbrev pub yields_and_returns : WorkedRow
yields_and_returns = record {
  image = (0x01 ∷ 0x01 ∷ 0x00 ∷ 0x03 ∷ 0x00 ∷ []) ++ yielding;
  cores = 1;
  allowance = 100;
  entries = Step 0 ∷ Enable 0 ∷ Step 0 ∷ Take 0 ∷ Step 0 ∷ [];
  log = 0 ∷ 17 ∷ 15 ∷ 0 ∷ 0 ∷ [];
  outcome = finished 0;
  units = 4;
  memory = untouched;
  statuses = none_left;
}

-- "suspend ..: the command is done, then the thread is suspended"; "enable: suspended t joins the ready line". It is not ready before (16), and
-- not suspended behind (17)
abbrev pub suspends_and_returns : WorkedRow
suspends_and_returns = record {
  image = (0x01 ∷ 0x01 ∷ 0x00 ∷ 0x03 ∷ 0x00 ∷ []) ++ resting;
  cores = 1;
  allowance = 100;
  entries = Step 0 ∷ Take 0 ∷ Enable 0 ∷ Enable 0 ∷ Take 0 ∷ Step 0 ∷ [];
  log = 0 ∷ 16 ∷ 0 ∷ 17 ∷ 0 ∷ 0 ∷ [];
  outcome = finished 0;
  units = 4;
  memory = untouched;
  statuses = none_left;
}

-- "enable: suspended t joins the ready line": it is ready. Units: 3
abbrev pub enabled_thread_is_ready : WorkedRow
enabled_thread_is_ready = record {
  image = (0x01 ∷ 0x01 ∷ 0x00 ∷ 0x03 ∷ 0x00 ∷ []) ++ resting;
  cores = 1;
  allowance = 100;
  entries = Step 0 ∷ Enable 0 ∷ [];
  log = 0 ∷ 0 ∷ [];
  outcome = going;
  units = 3;
  memory = untouched;
  statuses = Ready ∷ Free ∷ Free ∷ Free ∷ [];
}

-- "A thread record is free, running, ready, suspended, waiting or lent (its connected child has the core)": of three called children the first
-- suspends, the second yields, and the third has the core. Units: 1, 6 + 3, 6 + 3 and 6
abbrev pub statuses_of_threads : WorkedRow
statuses_of_threads = record {
  image =
      (0x04 ∷ 0x04 ∷ 0x00 ∷ 0x16 ∷ 0x00 ∷ 0x01 ∷ 0x00 ∷ 0x03 ∷ 0x00 ∷ 0x01 ∷ 0x00 ∷ 0x03 ∷ 0x00 ∷ 0x01 ∷ 0x00 ∷ 0x02 ∷ 0x00 ∷ [])
      ++ (0x01 ∷ 0x03 ∷ 0x20 ∷ 0x00 ∷ 0x08 ∷ 0x01 ∷ 0x00 ∷ 0x00 ∷ 0x03 ∷ 0x08 ∷ 0x02 ∷ 0x01 ∷ 0x00 ∷ 0x03 ∷ [])
      ++ (0x08 ∷ 0x03 ∷ 0x02 ∷ 0x00 ∷ 0x03 ∷ 0x0A ∷ 0x0D ∷ 0x00 ∷ []) ++ resting ++ yielding ++ nought;
  cores = 1;
  allowance = 100;
  entries = Step 0 ∷ Step 0 ∷ Step 0 ∷ Step 0 ∷ Step 0 ∷ Step 0 ∷ [];
  log = 0 ∷ 0 ∷ 0 ∷ 0 ∷ 0 ∷ 0 ∷ [];
  outcome = going;
  units = 25;
  memory = untouched;
  statuses = Lent ∷ Suspended ∷ Ready ∷ Running ∷ [];
}

-- "22: units plus the command's weight pass the allowance": the second command reaches 2 and does not pass it
abbrev pub allowance_is_reached : WorkedRow
allowance_is_reached = record {
  image = (0x01 ∷ 0x01 ∷ 0x00 ∷ 0x06 ∷ 0x00 ∷ []) ++ five;
  cores = 1;
  allowance = 2;
  entries = Step 0 ∷ Step 0 ∷ [];
  log = 0 ∷ 0 ∷ [];
  outcome = finished 5;
  units = 2;
  memory = untouched;
  statuses = none_left;
}

-- the same with an allowance of 1, which the second command passes, each time: it is "changing nothing"
abbrev pub allowance_is_passed : WorkedRow
allowance_is_passed = record {
  image = (0x01 ∷ 0x01 ∷ 0x00 ∷ 0x06 ∷ 0x00 ∷ []) ++ five;
  cores = 1;
  allowance = 1;
  entries = Step 0 ∷ Step 0 ∷ Step 0 ∷ [];
  log = 0 ∷ 22 ∷ 22 ∷ [];
  outcome = going;
  units = 1;
  memory = untouched;
  statuses = Running ∷ Free ∷ Free ∷ Free ∷ [];
}

-- "a join that waits is not tested" for 22: the allowance of 10 is used by 1, 6 and 3 when the root meets its join. The child's return passes
-- it (22)
abbrev pub waiting_join_is_not_tested : WorkedRow
waiting_join_is_not_tested = record {
  image = (0x02 ∷ 0x02 ∷ 0x00 ∷ 0x0C ∷ 0x00 ∷ 0x01 ∷ 0x00 ∷ 0x03 ∷ 0x00 ∷ []) ++ calls 1 ++ resting;
  cores = 1;
  allowance = 10;
  entries = Step 0 ∷ Step 0 ∷ Step 0 ∷ Step 0 ∷ Enable 1 ∷ Take 0 ∷ Step 0 ∷ [];
  log = 0 ∷ 0 ∷ 0 ∷ 0 ∷ 0 ∷ 0 ∷ 22 ∷ [];
  outcome = going;
  units = 10;
  memory = untouched;
  statuses = Waiting ∷ Running ∷ Free ∷ Free ∷ [];
}

-- "Entry: .. 22, 12, 9, 10 or 11": a store at address 0 weighs 2; with an allowance of 1 it is refused and no fault
abbrev pub allowance_before_the_fault : WorkedRow
allowance_before_the_fault = record {
  image = (0x01 ∷ 0x01 ∷ 0x00 ∷ 0x05 ∷ 0x00 ∷ []) ++ storing;
  cores = 1;
  allowance = 1;
  entries = Step 0 ∷ Step 0 ∷ [];
  log = 22 ∷ 22 ∷ [];
  outcome = going;
  units = 0;
  memory = untouched;
  statuses = Running ∷ Free ∷ Free ∷ Free ∷ [];
}

-- the same with an allowance of 2: 10, at byte 5, "charges nothing", and the machine is over (19)
abbrev pub fault_charges_nothing : WorkedRow
fault_charges_nothing = record {
  image = (0x01 ∷ 0x01 ∷ 0x00 ∷ 0x05 ∷ 0x00 ∷ []) ++ storing;
  cores = 1;
  allowance = 2;
  entries = Step 0 ∷ Step 0 ∷ Enable 0 ∷ [];
  log = 10 ∷ 19 ∷ 19 ∷ [];
  outcome = faulted 10 0 5;
  units = 0;
  memory = untouched;
  statuses = Running ∷ Free ∷ Free ∷ Free ∷ [];
}

abbrev pub entry_rows : List WorkedRow
entry_rows =
    starts_on_its_arguments ∷ entries_that_are_refused ∷ yields_and_returns ∷ suspends_and_returns ∷ enabled_thread_is_ready ∷ statuses_of_threads
    ∷ allowance_is_reached ∷ allowance_is_passed ∷ waiting_join_is_not_tested ∷ allowance_before_the_fault ∷ fault_charges_nothing ∷ []
