-- Worked rows: lfork, fork and return (document 01, "Step rules").
use Rattle.std.specs.Prelude.{List, [], ◌∷◌, ◌++◌, replicate}
use Rattle.schedule.specs.declared.Entry.TheVariants.{Step, Take, Steal, Enable}
use Rattle.thread.specs.declared.Status.TheVariants.{Free, Running}
use Rattle.rules.specs.State.{finished, faulted}
use Rattle.rules.specs.Row.{WorkedRow, untouched, none_left, five, calls, forks}

-- "lfork: the child runs on this core, connected; the parent is lent": behind it core 0 is busy (15) and no thread is ready (16); the parent
-- is lent at a join, which is no seed (18), and not suspended (17). "A connected child's parent runs on", and is not ready (16). Units: 1 + 6,
-- the child's 1 + 1, and 1 + 1
abbrev pub lfork_runs_its_child : WorkedRow
lfork_runs_its_child = record {
  image = (0x02 ∷ 0x02 ∷ 0x00 ∷ 0x0C ∷ 0x00 ∷ 0x01 ∷ 0x00 ∷ 0x06 ∷ 0x00 ∷ []) ++ calls 1 ++ five;
  cores = 2;
  allowance = 100;
  entries = Step 0 ∷ Step 0 ∷ Take 0 ∷ Take 1 ∷ Steal 1 0 ∷ Enable 0 ∷ Step 0 ∷ Step 0 ∷ Take 1 ∷ Step 0 ∷ Step 0 ∷ [];
  log = 0 ∷ 0 ∷ 15 ∷ 16 ∷ 18 ∷ 17 ∷ 0 ∷ 0 ∷ 16 ∷ 0 ∷ 0 ∷ [];
  outcome = finished 5;
  units = 11;
  memory = untouched;
  statuses = none_left;
}

-- "fork: the child is independent, joins the ready line's tail; the parent runs on": behind it core 1 is still idle (15) and takes the child,
-- core 0 is busy (15). "join: .. Otherwise the thread waits": core 0 is idle (15), the parent is not suspended (17) and not ready (16) until
-- the child has ended. Units: 1 + 12, the child's 1 + 1, and 1 + 1: the join is charged once
abbrev pub fork_queues_its_child : WorkedRow
fork_queues_its_child = record {
  image = (0x02 ∷ 0x02 ∷ 0x00 ∷ 0x0C ∷ 0x00 ∷ 0x01 ∷ 0x00 ∷ 0x06 ∷ 0x00 ∷ []) ++ forks 1 ++ five;
  cores = 2;
  allowance = 100;
  entries =
      Step 0 ∷ Step 0 ∷ Step 1 ∷ Take 0 ∷ Take 1 ∷ Step 1 ∷ Step 0 ∷ Step 0 ∷ Enable 0 ∷ Take 0 ∷ Step 1 ∷ Step 1 ∷ Take 0 ∷ Step 0
      ∷ Step 0 ∷ [];
  log = 0 ∷ 0 ∷ 15 ∷ 15 ∷ 0 ∷ 0 ∷ 0 ∷ 15 ∷ 17 ∷ 16 ∷ 0 ∷ 15 ∷ 0 ∷ 0 ∷ 0 ∷ [];
  outcome = finished 5;
  units = 17;
  memory = untouched;
  statuses = none_left;
}

-- "a waiting parent .. joins the ready line": one that runs does not (16), and its join passes at once. Units: 1 + 12, 1 + 1, and 1 + 1
abbrev pub running_parent_is_not_woken : WorkedRow
running_parent_is_not_woken = record {
  image = (0x02 ∷ 0x02 ∷ 0x00 ∷ 0x0C ∷ 0x00 ∷ 0x01 ∷ 0x00 ∷ 0x06 ∷ 0x00 ∷ []) ++ forks 1 ++ five;
  cores = 2;
  allowance = 100;
  entries = Step 0 ∷ Step 0 ∷ Take 1 ∷ Step 1 ∷ Step 1 ∷ Take 1 ∷ Step 0 ∷ Step 0 ∷ [];
  log = 0 ∷ 0 ∷ 0 ∷ 0 ∷ 0 ∷ 16 ∷ 0 ∷ 0 ∷ [];
  outcome = finished 5;
  units = 17;
  memory = untouched;
  statuses = none_left;
}

-- "a waiting parent .. joins the ready line": one that is suspended does not (16); it is enabled, and its join passes. Units: 1 + 12 + 3, the
-- child's 1 + 1, and 1 + 1
abbrev pub suspended_parent_is_not_woken : WorkedRow
suspended_parent_is_not_woken = record {
  image =
      (0x02 ∷ 0x02 ∷ 0x00 ∷ 0x0D ∷ 0x00 ∷ 0x01 ∷ 0x00 ∷ 0x06 ∷ 0x00 ∷ [])
      ++ (0x01 ∷ 0x01 ∷ 0x20 ∷ 0x00 ∷ 0x09 ∷ 0x01 ∷ 0x00 ∷ 0x00 ∷ 0x01 ∷ 0x0B ∷ 0x0A ∷ 0x0D ∷ 0x00 ∷ []) ++ five;
  cores = 1;
  allowance = 100;
  entries = Step 0 ∷ Step 0 ∷ Step 0 ∷ Take 0 ∷ Step 0 ∷ Step 0 ∷ Take 0 ∷ Enable 0 ∷ Take 0 ∷ Step 0 ∷ Step 0 ∷ [];
  log = 0 ∷ 0 ∷ 0 ∷ 0 ∷ 0 ∷ 0 ∷ 16 ∷ 0 ∷ 0 ∷ 0 ∷ 0 ∷ [];
  outcome = finished 5;
  units = 20;
  memory = untouched;
  statuses = none_left;
}

-- "yield: .. stands at the tail of the ready line": the child stands before its parent, so core 0 takes the child first; its end does not make
-- the parent ready a second time (16). Units: 1 + 12 + 3, the child's 1 + 1, and 1 + 1
abbrev pub ready_parent_stands_once : WorkedRow
ready_parent_stands_once = record {
  image =
      (0x02 ∷ 0x02 ∷ 0x00 ∷ 0x0D ∷ 0x00 ∷ 0x01 ∷ 0x00 ∷ 0x06 ∷ 0x00 ∷ [])
      ++ (0x01 ∷ 0x01 ∷ 0x20 ∷ 0x00 ∷ 0x09 ∷ 0x01 ∷ 0x00 ∷ 0x00 ∷ 0x01 ∷ 0x0C ∷ 0x0A ∷ 0x0D ∷ 0x00 ∷ []) ++ five;
  cores = 2;
  allowance = 100;
  entries = Step 0 ∷ Step 0 ∷ Step 0 ∷ Take 0 ∷ Step 0 ∷ Step 0 ∷ Take 0 ∷ Take 1 ∷ Step 0 ∷ Step 0 ∷ [];
  log = 0 ∷ 0 ∷ 0 ∷ 0 ∷ 0 ∷ 0 ∷ 0 ∷ 16 ∷ 0 ∷ 0 ∷ [];
  outcome = finished 5;
  units = 20;
  memory = untouched;
  statuses = none_left;
}

-- "return: the value goes to the parent's result slot": 5 to slot 1, so that slot 0, which is 9, less slot 1 is 4. Units: 1 + 1 + 6, the
-- child's 1 + 1, and 1 + 1 + 1
abbrev pub result_goes_to_its_slot : WorkedRow
result_goes_to_its_slot = record {
  image =
      (0x02 ∷ 0x03 ∷ 0x00 ∷ 0x14 ∷ 0x00 ∷ 0x01 ∷ 0x00 ∷ 0x06 ∷ 0x00 ∷ [])
      ++ (0x01 ∷ 0x00 ∷ 0x09 ∷ 0x00 ∷ 0x01 ∷ 0x02 ∷ 0x20 ∷ 0x00 ∷ 0x08 ∷ 0x01 ∷ 0x01 ∷ 0x00 ∷ 0x02 ∷ 0x0A ∷ [])
      ++ (0x03 ∷ 0x00 ∷ 0x00 ∷ 0x01 ∷ 0x0D ∷ 0x00 ∷ []) ++ five;
  cores = 1;
  allowance = 100;
  entries = replicate 8 (Step 0);
  log = replicate 8 0;
  outcome = finished 4;
  units = 13;
  memory = untouched;
  statuses = none_left;
}

-- "A new frame, .. all zero but the arguments in its first slots": a child with two arguments and a third slot gives that slot plus the first
-- argument less the second. It is called twice on the arguments 9 and 4, from slot 2 on, and both frames are the same words: 5 and 5, where a
-- third slot that stayed 5 would give 10. Units: 3, twice 6 + 3, and 1 + 1 + 1
abbrev pub frames_start_zero : WorkedRow
frames_start_zero = record {
  image =
      (0x02 ∷ 0x05 ∷ 0x00 ∷ 0x1D ∷ 0x00 ∷ 0x03 ∷ 0x02 ∷ 0x0A ∷ 0x00 ∷ [])
      ++ (0x01 ∷ 0x02 ∷ 0x09 ∷ 0x00 ∷ 0x01 ∷ 0x03 ∷ 0x04 ∷ 0x00 ∷ 0x01 ∷ 0x04 ∷ 0x20 ∷ 0x00 ∷ [])
      ++ (0x08 ∷ 0x01 ∷ 0x00 ∷ 0x02 ∷ 0x04 ∷ 0x08 ∷ 0x01 ∷ 0x01 ∷ 0x02 ∷ 0x04 ∷ 0x0A ∷ 0x02 ∷ 0x00 ∷ 0x00 ∷ 0x01 ∷ [])
      ++ (0x0D ∷ 0x00 ∷ []) ++ (0x02 ∷ 0x02 ∷ 0x02 ∷ 0x00 ∷ 0x03 ∷ 0x02 ∷ 0x02 ∷ 0x01 ∷ 0x0D ∷ 0x02 ∷ []);
  cores = 1;
  allowance = 100;
  entries = replicate 14 (Step 0);
  log = replicate 14 0;
  outcome = finished 10;
  units = 24;
  memory = untouched;
  statuses = none_left;
}

-- "12: return with pending slots", also where the child has ended and another slot is returned: at byte 18, behind the 9 of the rows, 4 and 5.
-- A fault "charges nothing": 1 + 6, and the child's 1 + 1. Then the machine is over (19)
abbrev pub return_with_a_pending_slot : WorkedRow
return_with_a_pending_slot = record {
  image =
      (0x02 ∷ 0x02 ∷ 0x00 ∷ 0x0B ∷ 0x00 ∷ 0x01 ∷ 0x00 ∷ 0x06 ∷ 0x00 ∷ [])
      ++ (0x01 ∷ 0x01 ∷ 0x20 ∷ 0x00 ∷ 0x08 ∷ 0x01 ∷ 0x00 ∷ 0x00 ∷ 0x01 ∷ 0x0D ∷ 0x01 ∷ []) ++ five;
  cores = 1;
  allowance = 100;
  entries = Step 0 ∷ Step 0 ∷ Step 0 ∷ Step 0 ∷ Step 0 ∷ Step 0 ∷ Take 0 ∷ [];
  log = 0 ∷ 0 ∷ 0 ∷ 0 ∷ 12 ∷ 19 ∷ 19 ∷ [];
  outcome = faulted 12 0 18;
  units = 9;
  memory = untouched;
  statuses = Running ∷ Free ∷ Free ∷ Free ∷ [];
}

abbrev pub fork_rows : List WorkedRow
fork_rows =
    lfork_runs_its_child ∷ fork_queues_its_child ∷ running_parent_is_not_woken ∷ suspended_parent_is_not_woken ∷ ready_parent_stands_once
    ∷ result_goes_to_its_slot ∷ frames_start_zero ∷ return_with_a_pending_slot ∷ []
