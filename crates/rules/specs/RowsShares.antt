-- Worked rows: words shared for reading: which s is in range, and 0E among the tests of an entry (document 02, T-04).
use Rattle.std.specs.Prelude.{List, [], ◌∷◌, ◌++◌, ℕ, replicate}
use Rattle.schedule.specs.declared.Entry.TheVariants.{Step, Take, Steal}
use Rattle.thread.specs.declared.Status.TheVariants.{Free, Running, Lent}
use Rattle.rules.specs.State.{going, finished, faulted}
use Rattle.rules.specs.Row.{WorkedRow, untouched, none_left, nought}

-- shares from its argument on, and returns it
abbrev sharing : List ℕ
sharing = 0x0E ∷ 0x00 ∷ 0x0D ∷ 0x00 ∷ []

-- "with mark ≤ s": s is the root's mark, 32. It loads at 32, and may store nowhere: a store at 32 is 10, at byte 5 + 9. Units: 1 + 1 + 2
abbrev pub shares_all_its_words : WorkedRow
shares_all_its_words = record {
  image =
      (0x01 ∷ 0x02 ∷ 0x00 ∷ 0x0E ∷ 0x00 ∷ [])
      ++ (0x01 ∷ 0x00 ∷ 0x20 ∷ 0x00 ∷ 0x0E ∷ 0x00 ∷ 0x04 ∷ 0x01 ∷ 0x00 ∷ 0x05 ∷ 0x00 ∷ 0x00 ∷ 0x0D ∷ 0x00 ∷ []);
  cores = 1;
  allowance = 100;
  entries = Step 0 ∷ Step 0 ∷ Step 0 ∷ Step 0 ∷ [];
  log = 0 ∷ 0 ∷ 0 ∷ 10 ∷ [];
  outcome = faulted 10 0 14;
  units = 4;
  memory = untouched;
  statuses = Running ∷ Free ∷ Free ∷ Free ∷ [];
}

-- "s ≤ the thread's ceiling, at first hi": s is the root's hi, 1,024, and the root stores at 1,023 as before. Units: 1 + 1 + 1 + 2 + 1
abbrev pub shares_no_word : WorkedRow
shares_no_word = record {
  image =
      (0x01 ∷ 0x02 ∷ 0x00 ∷ 0x0F ∷ 0x00 ∷ [])
      ++ (0x01 ∷ 0x00 ∷ 0x00 ∷ 0x04 ∷ 0x0E ∷ 0x00 ∷ 0x01 ∷ 0x01 ∷ 0xFF ∷ 0x03 ∷ 0x05 ∷ 0x01 ∷ 0x01 ∷ 0x0D ∷ 0x01 ∷ []);
  cores = 1;
  allowance = 100;
  entries = Step 0 ∷ Step 0 ∷ Step 0 ∷ Step 0 ∷ Step 0 ∷ [];
  log = 0 ∷ 0 ∷ 0 ∷ 0 ∷ 0 ∷ [];
  outcome = finished 1023;
  units = 6;
  memory = untouched;
  statuses = none_left;
}

-- "Refused: 31 s out of range, a fault": 1,025 is past the root's ceiling, at byte 5 + 4. The machine is over (19)
abbrev pub share_past_the_ceiling : WorkedRow
share_past_the_ceiling = record {
  image =
      (0x01 ∷ 0x01 ∷ 0x00 ∷ 0x08 ∷ 0x00 ∷ []) ++ (0x01 ∷ 0x00 ∷ 0x01 ∷ 0x04 ∷ 0x0E ∷ 0x00 ∷ 0x0D ∷ 0x00 ∷ []);
  cores = 1;
  allowance = 100;
  entries = Step 0 ∷ Step 0 ∷ Step 0 ∷ [];
  log = 0 ∷ 31 ∷ 19 ∷ [];
  outcome = faulted 31 0 9;
  units = 1;
  memory = untouched;
  statuses = Running ∷ Free ∷ Free ∷ Free ∷ [];
}

-- the same of 31, below the root's mark: at byte 5 + 4
abbrev pub share_below_the_root : WorkedRow
share_below_the_root = record {
  image =
      (0x01 ∷ 0x01 ∷ 0x00 ∷ 0x08 ∷ 0x00 ∷ []) ++ (0x01 ∷ 0x00 ∷ 0x1F ∷ 0x00 ∷ 0x0E ∷ 0x00 ∷ 0x0D ∷ 0x00 ∷ []);
  cores = 1;
  allowance = 100;
  entries = Step 0 ∷ Step 0 ∷ [];
  log = 0 ∷ 31 ∷ [];
  outcome = faulted 31 0 9;
  units = 1;
  memory = untouched;
  statuses = Running ∷ Free ∷ Free ∷ Free ∷ [];
}

-- "Slots hold 32-bit unsigned numbers": 65,535 + 101 is 65,636, which is out of range (31), though its lower two bytes are 100: at byte 5 + 12.
-- Units: 1 + 1 + 1
abbrev pub share_is_not_narrowed : WorkedRow
share_is_not_narrowed = record {
  image =
      (0x01 ∷ 0x02 ∷ 0x00 ∷ 0x10 ∷ 0x00 ∷ [])
      ++ (0x01 ∷ 0x00 ∷ 0xFF ∷ 0xFF ∷ 0x01 ∷ 0x01 ∷ 0x65 ∷ 0x00 ∷ 0x02 ∷ 0x00 ∷ 0x00 ∷ 0x01 ∷ 0x0E ∷ 0x00 ∷ 0x0D ∷ 0x00 ∷ []);
  cores = 1;
  allowance = 100;
  entries = Step 0 ∷ Step 0 ∷ Step 0 ∷ Step 0 ∷ [];
  log = 0 ∷ 0 ∷ 0 ∷ 31 ∷ [];
  outcome = faulted 31 0 17;
  units = 3;
  memory = untouched;
  statuses = Running ∷ Free ∷ Free ∷ Free ∷ [];
}

-- "mark ≤ s ≤ the thread's ceiling", "The ceiling becomes s", also a second time: s is 34 and then 33. Then 32 is stored at 32; at 33 it is 10, at
-- byte 5 + 19. Units: 1 + 1, 1 + 1, and 1 + 2
abbrev pub shares_twice : WorkedRow
shares_twice = record {
  image =
      (0x01 ∷ 0x02 ∷ 0x00 ∷ 0x18 ∷ 0x00 ∷ [])
      ++ (0x01 ∷ 0x00 ∷ 0x22 ∷ 0x00 ∷ 0x0E ∷ 0x00 ∷ 0x01 ∷ 0x00 ∷ 0x21 ∷ 0x00 ∷ 0x0E ∷ 0x00 ∷ 0x01 ∷ 0x01 ∷ 0x20 ∷ 0x00 ∷ [])
      ++ (0x05 ∷ 0x01 ∷ 0x01 ∷ 0x05 ∷ 0x00 ∷ 0x00 ∷ 0x0D ∷ 0x00 ∷ []);
  cores = 1;
  allowance = 100;
  entries = replicate 7 (Step 0);
  log = replicate 6 0 ++ (10 ∷ []);
  outcome = faulted 10 0 24;
  units = 7;
  memory = 32 ∷ 0 ∷ 0 ∷ 0 ∷ [];
  statuses = Running ∷ Free ∷ Free ∷ Free ∷ [];
}

-- "s ≤ the thread's ceiling": a second 34 is good and changes nothing. Then 33 is stored at 33; at 34 it is 10, at byte 5 + 15. Units:
-- 1 + 1 + 1 + 1 + 2
abbrev pub shares_at_the_ceiling : WorkedRow
shares_at_the_ceiling = record {
  image =
      (0x01 ∷ 0x02 ∷ 0x00 ∷ 0x14 ∷ 0x00 ∷ [])
      ++ (0x01 ∷ 0x00 ∷ 0x22 ∷ 0x00 ∷ 0x01 ∷ 0x01 ∷ 0x21 ∷ 0x00 ∷ 0x0E ∷ 0x00 ∷ 0x0E ∷ 0x00 ∷ 0x05 ∷ 0x01 ∷ 0x01 ∷ 0x05 ∷ 0x00 ∷ 0x00 ∷ [])
      ++ (0x0D ∷ 0x00 ∷ []);
  cores = 1;
  allowance = 100;
  entries = Step 0 ∷ Step 0 ∷ Step 0 ∷ Step 0 ∷ Step 0 ∷ Step 0 ∷ [];
  log = 0 ∷ 0 ∷ 0 ∷ 0 ∷ 0 ∷ 10 ∷ [];
  outcome = faulted 10 0 20;
  units = 6;
  memory = 0 ∷ 33 ∷ 0 ∷ 0 ∷ [];
  statuses = Running ∷ Free ∷ Free ∷ Free ∷ [];
}

-- "s ≤ the thread's ceiling", and no longer hi: s is 34, and then 35 is out of range (31), at byte 5 + 10. "31 .. a fault": the next entries meet
-- 19. Units: 1 + 1 + 1
abbrev pub shares_upwards : WorkedRow
shares_upwards = record {
  image =
      (0x01 ∷ 0x02 ∷ 0x00 ∷ 0x0E ∷ 0x00 ∷ [])
      ++ (0x01 ∷ 0x00 ∷ 0x22 ∷ 0x00 ∷ 0x01 ∷ 0x01 ∷ 0x23 ∷ 0x00 ∷ 0x0E ∷ 0x00 ∷ 0x0E ∷ 0x01 ∷ 0x0D ∷ 0x00 ∷ []);
  cores = 1;
  allowance = 100;
  entries = Step 0 ∷ Step 0 ∷ Step 0 ∷ Step 0 ∷ Take 0 ∷ Step 0 ∷ [];
  log = 0 ∷ 0 ∷ 0 ∷ 31 ∷ 19 ∷ 19 ∷ [];
  outcome = faulted 31 0 15;
  units = 3;
  memory = untouched;
  statuses = Running ∷ Free ∷ Free ∷ Free ∷ [];
}

-- "mark ≤ s", and not lo: the mark is 34 behind the fork. s is 34, which is good, and then 33, which the child was given (31), at byte 9 + 15.
-- Units: 1 + 1 + 6, the child's 1, and 1
abbrev pub shares_at_the_mark : WorkedRow
shares_at_the_mark = record {
  image =
      (0x02 ∷ 0x03 ∷ 0x00 ∷ 0x13 ∷ 0x00 ∷ 0x01 ∷ 0x00 ∷ 0x02 ∷ 0x00 ∷ [])
      ++ (0x01 ∷ 0x00 ∷ 0x22 ∷ 0x00 ∷ 0x01 ∷ 0x01 ∷ 0x21 ∷ 0x00 ∷ 0x08 ∷ 0x01 ∷ 0x02 ∷ 0x00 ∷ 0x00 ∷ 0x0E ∷ 0x00 ∷ 0x0E ∷ 0x01 ∷ [])
      ++ (0x0D ∷ 0x00 ∷ []) ++ nought;
  cores = 1;
  allowance = 100;
  entries = Step 0 ∷ Step 0 ∷ Step 0 ∷ Step 0 ∷ Step 0 ∷ Step 0 ∷ [];
  log = 0 ∷ 0 ∷ 0 ∷ 0 ∷ 0 ∷ 31 ∷ [];
  outcome = faulted 31 0 24;
  units = 10;
  memory = untouched;
  statuses = Running ∷ Free ∷ Free ∷ Free ∷ [];
}

-- "the thread's ceiling, at first hi", also a child's: the root shares from 34 on, and the child's part is 32 to 33. Its own s may not be 34 (31):
-- thread 1, at byte 9 + 18. Units: 1 + 1 + 1 + 6
abbrev pub child_shares_past_its_hi : WorkedRow
child_shares_past_its_hi = record {
  image =
      (0x02 ∷ 0x03 ∷ 0x00 ∷ 0x12 ∷ 0x00 ∷ 0x01 ∷ 0x01 ∷ 0x04 ∷ 0x00 ∷ [])
      ++ (0x01 ∷ 0x00 ∷ 0x22 ∷ 0x00 ∷ 0x0E ∷ 0x00 ∷ 0x01 ∷ 0x01 ∷ 0x21 ∷ 0x00 ∷ 0x08 ∷ 0x01 ∷ 0x02 ∷ 0x00 ∷ 0x01 ∷ 0x0A ∷ 0x0D ∷ 0x02 ∷ [])
      ++ sharing;
  cores = 1;
  allowance = 100;
  entries = Step 0 ∷ Step 0 ∷ Step 0 ∷ Step 0 ∷ Step 0 ∷ [];
  log = 0 ∷ 0 ∷ 0 ∷ 0 ∷ 31 ∷ [];
  outcome = faulted 31 1 27;
  units = 9;
  memory = untouched;
  statuses = Lent ∷ Running ∷ Free ∷ Free ∷ [];
}

-- "tested after 9": slot 1 is pending, and holds what the child returned, 34, which would be good: 9, at byte 9 + 9. Units: 1 + 6, and the child's 1
abbrev pub pending_slot_is_not_shared : WorkedRow
pending_slot_is_not_shared = record {
  image =
      (0x02 ∷ 0x02 ∷ 0x00 ∷ 0x0D ∷ 0x00 ∷ 0x01 ∷ 0x01 ∷ 0x02 ∷ 0x00 ∷ [])
      ++ (0x01 ∷ 0x00 ∷ 0x22 ∷ 0x00 ∷ 0x08 ∷ 0x01 ∷ 0x01 ∷ 0x00 ∷ 0x00 ∷ 0x0E ∷ 0x01 ∷ 0x0D ∷ 0x00 ∷ []) ++ nought;
  cores = 1;
  allowance = 100;
  entries = Step 0 ∷ Step 0 ∷ Step 0 ∷ Step 0 ∷ [];
  log = 0 ∷ 0 ∷ 0 ∷ 9 ∷ [];
  outcome = faulted 9 0 18;
  units = 8;
  memory = untouched;
  statuses = Running ∷ Free ∷ Free ∷ Free ∷ [];
}

-- the same with an allowance of 8: "Entry: .. 22, 12, 9"
abbrev pub allowance_before_the_pending_slot : WorkedRow
allowance_before_the_pending_slot = record {
  image =
      (0x02 ∷ 0x02 ∷ 0x00 ∷ 0x0D ∷ 0x00 ∷ 0x01 ∷ 0x01 ∷ 0x02 ∷ 0x00 ∷ [])
      ++ (0x01 ∷ 0x00 ∷ 0x22 ∷ 0x00 ∷ 0x08 ∷ 0x01 ∷ 0x01 ∷ 0x00 ∷ 0x00 ∷ 0x0E ∷ 0x01 ∷ 0x0D ∷ 0x00 ∷ []) ++ nought;
  cores = 1;
  allowance = 8;
  entries = Step 0 ∷ Step 0 ∷ Step 0 ∷ Step 0 ∷ [];
  log = 0 ∷ 0 ∷ 0 ∷ 22 ∷ [];
  outcome = going;
  units = 8;
  memory = untouched;
  statuses = Running ∷ Free ∷ Free ∷ Free ∷ [];
}

-- "22: units plus the command's weight pass the allowance", before 31 too: 1,025 is past the ceiling, and 1 + 1 passes an allowance of 1
abbrev pub allowance_before_the_range : WorkedRow
allowance_before_the_range = record {
  image =
      (0x01 ∷ 0x01 ∷ 0x00 ∷ 0x08 ∷ 0x00 ∷ []) ++ (0x01 ∷ 0x00 ∷ 0x01 ∷ 0x04 ∷ 0x0E ∷ 0x00 ∷ 0x0D ∷ 0x00 ∷ []);
  cores = 1;
  allowance = 1;
  entries = Step 0 ∷ Step 0 ∷ [];
  log = 0 ∷ 22 ∷ [];
  outcome = going;
  units = 1;
  memory = untouched;
  statuses = Running ∷ Free ∷ Free ∷ Free ∷ [];
}

-- "0E a (weight 1)": 1 + 1 reaches an allowance of 2, and the return passes it (22)
abbrev pub share_reaches_the_allowance : WorkedRow
share_reaches_the_allowance = record {
  image =
      (0x01 ∷ 0x01 ∷ 0x00 ∷ 0x08 ∷ 0x00 ∷ []) ++ (0x01 ∷ 0x00 ∷ 0x22 ∷ 0x00 ∷ 0x0E ∷ 0x00 ∷ 0x0D ∷ 0x00 ∷ []);
  cores = 1;
  allowance = 2;
  entries = Step 0 ∷ Step 0 ∷ Step 0 ∷ [];
  log = 0 ∷ 0 ∷ 22 ∷ [];
  outcome = going;
  units = 2;
  memory = untouched;
  statuses = Running ∷ Free ∷ Free ∷ Free ∷ [];
}

-- "18 .. its next command not 08 or 09": the root is lent at its 0E, and is not robbed. Units: 1 + 6, the child's 1, and 1 + 1 + 1
abbrev pub share_is_no_seed : WorkedRow
share_is_no_seed = record {
  image =
      (0x02 ∷ 0x02 ∷ 0x00 ∷ 0x0E ∷ 0x00 ∷ 0x01 ∷ 0x00 ∷ 0x02 ∷ 0x00 ∷ [])
      ++ (0x01 ∷ 0x00 ∷ 0x22 ∷ 0x00 ∷ 0x08 ∷ 0x01 ∷ 0x01 ∷ 0x00 ∷ 0x00 ∷ 0x0E ∷ 0x00 ∷ 0x0A ∷ 0x0D ∷ 0x01 ∷ []) ++ nought;
  cores = 2;
  allowance = 100;
  entries = Step 0 ∷ Step 0 ∷ Steal 1 0 ∷ Step 0 ∷ Step 0 ∷ Step 0 ∷ Step 0 ∷ [];
  log = 0 ∷ 0 ∷ 18 ∷ 0 ∷ 0 ∷ 0 ∷ 0 ∷ [];
  outcome = finished 0;
  units = 11;
  memory = untouched;
  statuses = none_left;
}

-- the same where s is 0, out of range: 18 at the steal, "changing nothing", and 31 at the root's own step, at byte 9 + 9. Units: 1 + 6, and the
-- child's 1
abbrev pub bad_share_is_no_seed : WorkedRow
bad_share_is_no_seed = record {
  image =
      (0x02 ∷ 0x03 ∷ 0x00 ∷ 0x0E ∷ 0x00 ∷ 0x01 ∷ 0x00 ∷ 0x02 ∷ 0x00 ∷ [])
      ++ (0x01 ∷ 0x00 ∷ 0x22 ∷ 0x00 ∷ 0x08 ∷ 0x01 ∷ 0x01 ∷ 0x00 ∷ 0x00 ∷ 0x0E ∷ 0x02 ∷ 0x0A ∷ 0x0D ∷ 0x01 ∷ []) ++ nought;
  cores = 2;
  allowance = 100;
  entries = Step 0 ∷ Step 0 ∷ Steal 1 0 ∷ Step 0 ∷ Step 0 ∷ Steal 1 0 ∷ [];
  log = 0 ∷ 0 ∷ 18 ∷ 0 ∷ 31 ∷ 19 ∷ [];
  outcome = faulted 31 0 18;
  units = 8;
  memory = untouched;
  statuses = Running ∷ Free ∷ Free ∷ Free ∷ [];
}

-- "A connected child's parent runs on": the child shares and keeps core 0 (15), and nothing is ready (16). It returns 32, and the root runs on
-- there. Units: 1 + 6, the child's 1 + 1, and 1 + 1
abbrev pub sharing_child_stays_connected : WorkedRow
sharing_child_stays_connected = record {
  image =
      (0x02 ∷ 0x02 ∷ 0x00 ∷ 0x0C ∷ 0x00 ∷ 0x01 ∷ 0x01 ∷ 0x04 ∷ 0x00 ∷ [])
      ++ (0x01 ∷ 0x00 ∷ 0x20 ∷ 0x00 ∷ 0x08 ∷ 0x01 ∷ 0x01 ∷ 0x00 ∷ 0x00 ∷ 0x0A ∷ 0x0D ∷ 0x01 ∷ []) ++ sharing;
  cores = 2;
  allowance = 100;
  entries = Step 0 ∷ Step 0 ∷ Step 0 ∷ Take 0 ∷ Take 1 ∷ Step 0 ∷ Step 0 ∷ Step 0 ∷ [];
  log = 0 ∷ 0 ∷ 0 ∷ 15 ∷ 16 ∷ 0 ∷ 0 ∷ 0 ∷ [];
  outcome = finished 32;
  units = 11;
  memory = untouched;
  statuses = none_left;
}

-- "A forked result slot is pending until the join, even when the child has ended", and a 0E between leaves it so: the return meets 12, at
-- byte 9 + 11. Units: 1 + 6, the child's 1, and 1
abbrev pub share_leaves_the_slot_pending : WorkedRow
share_leaves_the_slot_pending = record {
  image =
      (0x02 ∷ 0x02 ∷ 0x00 ∷ 0x0D ∷ 0x00 ∷ 0x01 ∷ 0x00 ∷ 0x02 ∷ 0x00 ∷ [])
      ++ (0x01 ∷ 0x00 ∷ 0x22 ∷ 0x00 ∷ 0x08 ∷ 0x01 ∷ 0x01 ∷ 0x00 ∷ 0x00 ∷ 0x0E ∷ 0x00 ∷ 0x0D ∷ 0x00 ∷ []) ++ nought;
  cores = 1;
  allowance = 100;
  entries = Step 0 ∷ Step 0 ∷ Step 0 ∷ Step 0 ∷ Step 0 ∷ [];
  log = 0 ∷ 0 ∷ 0 ∷ 0 ∷ 12 ∷ [];
  outcome = faulted 12 0 20;
  units = 9;
  memory = untouched;
  statuses = Running ∷ Free ∷ Free ∷ Free ∷ [];
}

-- "join: passes when every child has ended. Otherwise the thread waits", also behind a 0E: core 0 is idle (15), and takes the child, whose return
-- makes the root ready. Units: 1 + 12 + 1, the child's 1, and 1 + 1
abbrev pub join_waits_behind_a_share : WorkedRow
join_waits_behind_a_share = record {
  image =
      (0x02 ∷ 0x02 ∷ 0x00 ∷ 0x0E ∷ 0x00 ∷ 0x01 ∷ 0x00 ∷ 0x02 ∷ 0x00 ∷ [])
      ++ (0x01 ∷ 0x00 ∷ 0x22 ∷ 0x00 ∷ 0x09 ∷ 0x01 ∷ 0x01 ∷ 0x00 ∷ 0x00 ∷ 0x0E ∷ 0x00 ∷ 0x0A ∷ 0x0D ∷ 0x01 ∷ []) ++ nought;
  cores = 1;
  allowance = 100;
  entries = Step 0 ∷ Step 0 ∷ Step 0 ∷ Step 0 ∷ Step 0 ∷ Take 0 ∷ Step 0 ∷ Take 0 ∷ Step 0 ∷ Step 0 ∷ [];
  log = 0 ∷ 0 ∷ 0 ∷ 0 ∷ 15 ∷ 0 ∷ 0 ∷ 0 ∷ 0 ∷ 0 ∷ [];
  outcome = finished 0;
  units = 17;
  memory = untouched;
  statuses = none_left;
}

abbrev pub share_rows : List WorkedRow
share_rows =
    shares_all_its_words ∷ shares_no_word ∷ share_past_the_ceiling ∷ share_below_the_root ∷ share_is_not_narrowed ∷ shares_twice
    ∷ shares_at_the_ceiling ∷ shares_upwards ∷ shares_at_the_mark ∷ child_shares_past_its_hi ∷ pending_slot_is_not_shared
    ∷ allowance_before_the_pending_slot ∷ allowance_before_the_range ∷ share_reaches_the_allowance ∷ share_is_no_seed
    ∷ bad_share_is_no_seed ∷ sharing_child_stays_connected ∷ share_leaves_the_slot_pending ∷ join_waits_behind_a_share ∷ []
