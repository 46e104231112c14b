-- Worked rows: join and pending slots, and a child that leaves its core (document 01, "Step rules" and the slips of pending slots and joins).
use Rattle.std.specs.Prelude.{List, [], ◌∷◌, ◌++◌, replicate}
use Rattle.schedule.specs.declared.Entry.TheVariants.{Step, Take, Enable}
use Rattle.thread.specs.declared.Status.TheVariants.{Free, Running, Ready, Waiting}
use Rattle.rules.specs.State.{going, finished, faulted}
use Rattle.rules.specs.Row.{WorkedRow, untouched, none_left, five, nought, resting, yielding, calls, forks, calls_two, forks_two}

-- "join: .. Otherwise the thread waits, nothing is charged": the parent is waiting, and its child stands ready. Units: 1 + 12
abbrev pub waits_at_its_join : WorkedRow
waits_at_its_join = record {
  image = (0x02 ∷ 0x02 ∷ 0x00 ∷ 0x0C ∷ 0x00 ∷ 0x01 ∷ 0x00 ∷ 0x06 ∷ 0x00 ∷ []) ++ forks 1 ++ five;
  cores = 1;
  allowance = 100;
  entries = Step 0 ∷ Step 0 ∷ Step 0 ∷ [];
  log = 0 ∷ 0 ∷ 0 ∷ [];
  outcome = going;
  units = 13;
  memory = untouched;
  statuses = Waiting ∷ Ready ∷ Free ∷ Free ∷ [];
}

-- "a waiting parent whose children have all ended joins the ready line and is ready"; the child's number is free. Units: 1 + 12, and 1 + 1
abbrev pub ready_behind_its_child : WorkedRow
ready_behind_its_child = record {
  image = (0x02 ∷ 0x02 ∷ 0x00 ∷ 0x0C ∷ 0x00 ∷ 0x01 ∷ 0x00 ∷ 0x06 ∷ 0x00 ∷ []) ++ forks 1 ++ five;
  cores = 1;
  allowance = 100;
  entries = Step 0 ∷ Step 0 ∷ Step 0 ∷ Take 0 ∷ Step 0 ∷ Step 0 ∷ [];
  log = 0 ∷ 0 ∷ 0 ∷ 0 ∷ 0 ∷ 0 ∷ [];
  outcome = going;
  units = 15;
  memory = untouched;
  statuses = Ready ∷ Free ∷ Free ∷ Free ∷ [];
}

-- "a waiting parent whose children have all ended joins the ready line and is ready"; "Otherwise the thread waits, nothing is charged, and the
-- join is met again later". Both children run at once; when the first has ended no thread is ready (16). Units: 1 + 12 + 12, twice 1 + 1, and
-- 1 + 1 for the join that passes and the return
abbrev pub woken_by_the_last_child : WorkedRow
woken_by_the_last_child = record {
  image = (0x02 ∷ 0x03 ∷ 0x00 ∷ 0x11 ∷ 0x00 ∷ 0x01 ∷ 0x00 ∷ 0x06 ∷ 0x00 ∷ []) ++ forks_two ++ five;
  cores = 2;
  allowance = 100;
  entries =
      Step 0 ∷ Step 0 ∷ Step 0 ∷ Step 0 ∷ Take 0 ∷ Take 1 ∷ Step 0 ∷ Step 0 ∷ Take 0 ∷ Step 1 ∷ Step 1 ∷ Take 0 ∷ Step 0 ∷ Step 0 ∷ [];
  log = 0 ∷ 0 ∷ 0 ∷ 0 ∷ 0 ∷ 0 ∷ 0 ∷ 0 ∷ 16 ∷ 0 ∷ 0 ∷ 0 ∷ 0 ∷ 0 ∷ [];
  outcome = finished 5;
  units = 31;
  memory = untouched;
  statuses = none_left;
}

-- "A forked result slot is pending until the join, even when the child has ended": the parent reads slot 0 before its join, at byte 18
abbrev pub pending_until_the_join : WorkedRow
pending_until_the_join = record {
  image =
      (0x02 ∷ 0x02 ∷ 0x00 ∷ 0x0F ∷ 0x00 ∷ 0x01 ∷ 0x00 ∷ 0x06 ∷ 0x00 ∷ [])
      ++ (0x01 ∷ 0x01 ∷ 0x20 ∷ 0x00 ∷ 0x08 ∷ 0x01 ∷ 0x00 ∷ 0x00 ∷ 0x01 ∷ 0x02 ∷ 0x01 ∷ 0x00 ∷ 0x00 ∷ 0x0D ∷ 0x01 ∷ []) ++ five;
  cores = 1;
  allowance = 100;
  entries = Step 0 ∷ Step 0 ∷ Step 0 ∷ Step 0 ∷ Step 0 ∷ [];
  log = 0 ∷ 0 ∷ 0 ∷ 0 ∷ 9 ∷ [];
  outcome = faulted 9 0 18;
  units = 9;
  memory = untouched;
  statuses = Running ∷ Free ∷ Free ∷ Free ∷ [];
}

-- "passes when every child has ended, clearing pending slots": behind the join slot 0 is forked to again. Units: 1, twice 6 + 1 + 1 + 1, and 1
abbrev pub join_clears_the_pending_slot : WorkedRow
join_clears_the_pending_slot = record {
  image =
      (0x02 ∷ 0x02 ∷ 0x00 ∷ 0x12 ∷ 0x00 ∷ 0x01 ∷ 0x00 ∷ 0x06 ∷ 0x00 ∷ [])
      ++ (0x01 ∷ 0x01 ∷ 0x20 ∷ 0x00 ∷ 0x08 ∷ 0x01 ∷ 0x00 ∷ 0x00 ∷ 0x01 ∷ 0x0A ∷ 0x08 ∷ 0x01 ∷ 0x00 ∷ 0x00 ∷ 0x01 ∷ 0x0A ∷ [])
      ++ (0x0D ∷ 0x00 ∷ []) ++ five;
  cores = 1;
  allowance = 100;
  entries = replicate 10 (Step 0);
  log = replicate 10 0;
  outcome = finished 5;
  units = 20;
  memory = untouched;
  statuses = none_left;
}

-- "9: a pending slot read or written (a fork writes its d)": the second lfork, at byte 18, names slot 0 again. Its cut, slot 2, is 0 and out
-- of range, but 9 comes before 11. Units: 1 + 6, and the child's 1 + 1
abbrev pub pending_slot_is_not_forked_to : WorkedRow
pending_slot_is_not_forked_to = record {
  image =
      (0x02 ∷ 0x03 ∷ 0x00 ∷ 0x11 ∷ 0x00 ∷ 0x01 ∷ 0x00 ∷ 0x06 ∷ 0x00 ∷ [])
      ++ (0x01 ∷ 0x01 ∷ 0x20 ∷ 0x00 ∷ 0x08 ∷ 0x01 ∷ 0x00 ∷ 0x00 ∷ 0x01 ∷ 0x08 ∷ 0x01 ∷ 0x00 ∷ 0x00 ∷ 0x02 ∷ 0x0A ∷ [])
      ++ (0x0D ∷ 0x00 ∷ []) ++ five;
  cores = 1;
  allowance = 100;
  entries = Step 0 ∷ Step 0 ∷ Step 0 ∷ Step 0 ∷ Step 0 ∷ [];
  log = 0 ∷ 0 ∷ 0 ∷ 0 ∷ 9 ∷ [];
  outcome = faulted 9 0 18;
  units = 9;
  memory = untouched;
  statuses = Running ∷ Free ∷ Free ∷ Free ∷ [];
}

-- "9: a pending slot read": the second lfork's argument is slot 0, which is pending. Units: 1 + 6, and the child's 1
abbrev pub pending_slot_is_no_argument : WorkedRow
pending_slot_is_no_argument = record {
  image = (0x02 ∷ 0x03 ∷ 0x00 ∷ 0x11 ∷ 0x00 ∷ 0x01 ∷ 0x01 ∷ 0x02 ∷ 0x00 ∷ []) ++ calls_two 1 1 ++ nought;
  cores = 1;
  allowance = 100;
  entries = Step 0 ∷ Step 0 ∷ Step 0 ∷ Step 0 ∷ [];
  log = 0 ∷ 0 ∷ 0 ∷ 9 ∷ [];
  outcome = faulted 9 0 18;
  units = 8;
  memory = untouched;
  statuses = Running ∷ Free ∷ Free ∷ Free ∷ [];
}

-- "A connected thread that .. suspends .. is disconnected and its parent runs on this core": the child is enabled and taken by core 1. When it
-- returns, its parent stays on core 0: core 1 is idle (15) and no thread is ready (16). Units: 1 + 6, the child's 3 + 1, and 1 + 1
abbrev pub suspended_child_is_disconnected : WorkedRow
suspended_child_is_disconnected = record {
  image = (0x02 ∷ 0x02 ∷ 0x00 ∷ 0x0C ∷ 0x00 ∷ 0x01 ∷ 0x00 ∷ 0x03 ∷ 0x00 ∷ []) ++ calls 1 ++ resting;
  cores = 2;
  allowance = 100;
  entries = Step 0 ∷ Step 0 ∷ Step 0 ∷ Enable 1 ∷ Take 1 ∷ Step 1 ∷ Step 1 ∷ Take 1 ∷ Step 0 ∷ Step 0 ∷ [];
  log = 0 ∷ 0 ∷ 0 ∷ 0 ∷ 0 ∷ 0 ∷ 15 ∷ 16 ∷ 0 ∷ 0 ∷ [];
  outcome = finished 0;
  units = 13;
  memory = untouched;
  statuses = none_left;
}

-- "A connected thread that .. yields is disconnected and its parent runs on this core; an unconnected one leaves the core idle": the parent
-- meets its join on core 0 and waits, so that core 0 takes the child. When it returns, core 0 is idle (15), and the parent is ready. Units:
-- 1 + 6, the child's 3 + 1, and 1 + 1: the join is charged once
abbrev pub yielding_child_is_disconnected : WorkedRow
yielding_child_is_disconnected = record {
  image = (0x02 ∷ 0x02 ∷ 0x00 ∷ 0x0C ∷ 0x00 ∷ 0x01 ∷ 0x00 ∷ 0x03 ∷ 0x00 ∷ []) ++ calls 1 ++ yielding;
  cores = 1;
  allowance = 100;
  entries = Step 0 ∷ Step 0 ∷ Step 0 ∷ Step 0 ∷ Take 0 ∷ Step 0 ∷ Step 0 ∷ Take 0 ∷ Step 0 ∷ Step 0 ∷ [];
  log = 0 ∷ 0 ∷ 0 ∷ 0 ∷ 0 ∷ 0 ∷ 15 ∷ 0 ∷ 0 ∷ 0 ∷ [];
  outcome = finished 0;
  units = 13;
  memory = untouched;
  statuses = none_left;
}

-- "A connected thread that waits .. is disconnected and its parent runs on this core": thread 1 forks thread 2 and waits, so it is not
-- suspended (17); the root runs on to its join and waits too (15). Thread 2 ends, thread 1 goes on on core 1, which is idle when it returns
-- (15). Units: 1 + 6, thread 1's 1 + 12, thread 2's 1 + 1, and twice 1 + 1 for the joins and the returns
abbrev pub waiting_child_is_disconnected : WorkedRow
waiting_child_is_disconnected = record {
  image =
      (0x03 ∷ 0x02 ∷ 0x00 ∷ 0x0C ∷ 0x00 ∷ 0x02 ∷ 0x00 ∷ 0x0C ∷ 0x00 ∷ 0x01 ∷ 0x00 ∷ 0x06 ∷ 0x00 ∷ []) ++ calls 1 ++ forks 2
      ++ five;
  cores = 2;
  allowance = 100;
  entries =
      Step 0 ∷ Step 0 ∷ Step 0 ∷ Step 0 ∷ Step 0 ∷ Enable 1 ∷ Step 0 ∷ Step 0 ∷ Take 0 ∷ Step 0 ∷ Step 0 ∷ Take 1 ∷ Step 1 ∷ Step 1
      ∷ Step 1 ∷ Take 0 ∷ Step 0 ∷ Step 0 ∷ [];
  log = 0 ∷ 0 ∷ 0 ∷ 0 ∷ 0 ∷ 17 ∷ 0 ∷ 15 ∷ 0 ∷ 0 ∷ 0 ∷ 0 ∷ 0 ∷ 0 ∷ 15 ∷ 0 ∷ 0 ∷ 0 ∷ [];
  outcome = finished 5;
  units = 26;
  memory = untouched;
  statuses = none_left;
}

abbrev pub join_rows : List WorkedRow
join_rows =
    waits_at_its_join ∷ ready_behind_its_child ∷ woken_by_the_last_child ∷ pending_until_the_join ∷ join_clears_the_pending_slot
    ∷ pending_slot_is_not_forked_to ∷ pending_slot_is_no_argument ∷ suspended_child_is_disconnected ∷ yielding_child_is_disconnected
    ∷ waiting_child_is_disconnected ∷ []
