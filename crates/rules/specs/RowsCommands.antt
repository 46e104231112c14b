-- Worked rows: commands 01 to 07, and windows (document 01, the table of commands, "Memory and windows").
use Rattle.std.specs.Prelude.{List, [], ◌∷◌, ◌++◌, replicate}
use Rattle.schedule.specs.declared.Entry.TheVariants.{Step}
use Rattle.thread.specs.declared.Status.TheVariants.{Free, Running, Ready, Lent}
use Rattle.rules.specs.State.{finished, faulted}
use Rattle.rules.specs.Row.{WorkedRow, untouched, none_left, nought, storing, calls}

-- "d becomes a+b, a−b, modulo 2^32"; "values of two .. bytes are little-endian": slot 0 is 01 02, so 513; slot 1 is 0 − 513, so 2^32 − 513;
-- slot 2 is twice that, 2^32 − 1,026
abbrev pub sums_are_modulo : WorkedRow
sums_are_modulo = record {
  image =
      (0x01 ∷ 0x03 ∷ 0x00 ∷ 0x0E ∷ 0x00 ∷ [])
      ++ (0x01 ∷ 0x00 ∷ 0x01 ∷ 0x02 ∷ 0x03 ∷ 0x01 ∷ 0x01 ∷ 0x00 ∷ 0x02 ∷ 0x02 ∷ 0x01 ∷ 0x01 ∷ 0x0D ∷ 0x02 ∷ []);
  cores = 1;
  allowance = 100;
  entries = Step 0 ∷ Step 0 ∷ Step 0 ∷ Step 0 ∷ [];
  log = 0 ∷ 0 ∷ 0 ∷ 0 ∷ [];
  outcome = finished 4294966270;
  units = 4;
  memory = untouched;
  statuses = none_left;
}

-- "if slot a is 0 go to t", "go to t", "A target t counts bytes from its routine's start": slot 0 goes down from 2 by 1 in the commands at 8,
-- 12 and 16, twice; the third time the one at 8 goes to the return at 19. Units: 1 + 1, twice 1 + 1 + 1, and 1 + 1
abbrev pub jumps : WorkedRow
jumps = record {
  image =
      (0x01 ∷ 0x02 ∷ 0x00 ∷ 0x15 ∷ 0x00 ∷ [])
      ++ (0x01 ∷ 0x00 ∷ 0x02 ∷ 0x00 ∷ 0x01 ∷ 0x01 ∷ 0x01 ∷ 0x00 ∷ 0x06 ∷ 0x00 ∷ 0x13 ∷ 0x00 ∷ 0x03 ∷ 0x00 ∷ 0x00 ∷ 0x01 ∷ [])
      ++ (0x07 ∷ 0x08 ∷ 0x00 ∷ 0x0D ∷ 0x01 ∷ []);
  cores = 1;
  allowance = 100;
  entries = replicate 11 (Step 0);
  log = replicate 10 0 ++ (19 ∷ []);
  outcome = finished 1;
  units = 10;
  memory = untouched;
  statuses = none_left;
}

-- "Addresses 0 to 31 are parameter words, lent for reading": word 31 is 131, and is loaded; it is stored at 32, and not at 31 (10, at byte
-- 23). Units: 1 + 2, 1 + 2, and 1
abbrev pub parameter_words : WorkedRow
parameter_words = record {
  image =
      (0x01 ∷ 0x02 ∷ 0x00 ∷ 0x17 ∷ 0x00 ∷ [])
      ++ (0x01 ∷ 0x00 ∷ 0x1F ∷ 0x00 ∷ 0x04 ∷ 0x01 ∷ 0x00 ∷ 0x01 ∷ 0x00 ∷ 0x20 ∷ 0x00 ∷ 0x05 ∷ 0x00 ∷ 0x01 ∷ [])
      ++ (0x01 ∷ 0x00 ∷ 0x1F ∷ 0x00 ∷ 0x05 ∷ 0x00 ∷ 0x01 ∷ 0x0D ∷ 0x01 ∷ []);
  cores = 1;
  allowance = 100;
  entries = Step 0 ∷ Step 0 ∷ Step 0 ∷ Step 0 ∷ Step 0 ∷ Step 0 ∷ [];
  log = 0 ∷ 0 ∷ 0 ∷ 0 ∷ 0 ∷ 10 ∷ [];
  outcome = faulted 10 0 23;
  units = 7;
  memory = 131 ∷ 0 ∷ 0 ∷ 0 ∷ [];
  statuses = Running ∷ Free ∷ Free ∷ Free ∷ [];
}

-- "32 to 1,023 are 992 lent memory words": 1,023 is stored at itself and loaded; a load at twice 1,023 less 1,022, so at 1,024, meets 10, at
-- byte 27. Units: 1 + 2 + 2 + 1 + 1 + 1
abbrev pub memory_ends : WorkedRow
memory_ends = record {
  image =
      (0x01 ∷ 0x03 ∷ 0x00 ∷ 0x1B ∷ 0x00 ∷ [])
      ++ (0x01 ∷ 0x00 ∷ 0xFF ∷ 0x03 ∷ 0x05 ∷ 0x00 ∷ 0x00 ∷ 0x04 ∷ 0x01 ∷ 0x00 ∷ 0x01 ∷ 0x02 ∷ 0xFE ∷ 0x03 ∷ [])
      ++ (0x03 ∷ 0x00 ∷ 0x00 ∷ 0x02 ∷ 0x02 ∷ 0x00 ∷ 0x00 ∷ 0x01 ∷ 0x04 ∷ 0x01 ∷ 0x00 ∷ 0x0D ∷ 0x01 ∷ []);
  cores = 1;
  allowance = 100;
  entries = Step 0 ∷ Step 0 ∷ Step 0 ∷ Step 0 ∷ Step 0 ∷ Step 0 ∷ Step 0 ∷ [];
  log = 0 ∷ 0 ∷ 0 ∷ 0 ∷ 0 ∷ 0 ∷ 10 ∷ [];
  outcome = faulted 10 0 27;
  units = 8;
  memory = untouched;
  statuses = Running ∷ Free ∷ Free ∷ Free ∷ [];
}

-- "The child's window runs from mark to e", "A join puts the mark back to lo": the child stores its argument 32 at 32, in its part up to 34;
-- behind the join the parent loads it there. Units: 1 + 1 + 6, the child's 2 + 1, and 1 + 2 + 1
abbrev pub join_gives_the_part_back : WorkedRow
join_gives_the_part_back = record {
  image =
      (0x02 ∷ 0x04 ∷ 0x00 ∷ 0x13 ∷ 0x00 ∷ 0x01 ∷ 0x01 ∷ 0x05 ∷ 0x00 ∷ [])
      ++ (0x01 ∷ 0x01 ∷ 0x22 ∷ 0x00 ∷ 0x01 ∷ 0x02 ∷ 0x20 ∷ 0x00 ∷ 0x08 ∷ 0x01 ∷ 0x00 ∷ 0x02 ∷ 0x01 ∷ 0x0A ∷ [])
      ++ (0x04 ∷ 0x03 ∷ 0x02 ∷ 0x0D ∷ 0x03 ∷ []) ++ storing;
  cores = 1;
  allowance = 100;
  entries = replicate 8 (Step 0);
  log = replicate 8 0;
  outcome = finished 32;
  units = 15;
  memory = 32 ∷ 0 ∷ 0 ∷ 0 ∷ [];
  statuses = none_left;
}

-- "and the mark becomes e", "load and store from mark up to hi, nothing else": before the join the parent stores 33 at 34, and at 33 it meets
-- 10, though the child has ended: at byte 25. Units: 1 + 1 + 6, the child's 2 + 1, and 2
abbrev pub not_below_the_mark : WorkedRow
not_below_the_mark = record {
  image =
      (0x02 ∷ 0x03 ∷ 0x00 ∷ 0x15 ∷ 0x00 ∷ 0x01 ∷ 0x01 ∷ 0x05 ∷ 0x00 ∷ [])
      ++ (0x01 ∷ 0x01 ∷ 0x22 ∷ 0x00 ∷ 0x01 ∷ 0x02 ∷ 0x21 ∷ 0x00 ∷ 0x08 ∷ 0x01 ∷ 0x00 ∷ 0x02 ∷ 0x01 ∷ 0x05 ∷ 0x01 ∷ 0x02 ∷ [])
      ++ (0x05 ∷ 0x02 ∷ 0x01 ∷ 0x0D ∷ 0x01 ∷ []) ++ storing;
  cores = 1;
  allowance = 100;
  entries = Step 0 ∷ Step 0 ∷ Step 0 ∷ Step 0 ∷ Step 0 ∷ Step 0 ∷ Step 0 ∷ [];
  log = 0 ∷ 0 ∷ 0 ∷ 0 ∷ 0 ∷ 0 ∷ 10 ∷ [];
  outcome = faulted 10 0 25;
  units = 13;
  memory = 0 ∷ 33 ∷ 33 ∷ 0 ∷ [];
  statuses = Running ∷ Free ∷ Free ∷ Free ∷ [];
}

-- "The child's window runs from mark to e", "up to but not including hi": a child whose cut is 34 does not store at 34: thread 1, at byte
-- 9 + 12. Units: 1 + 6
abbrev pub not_at_the_cut : WorkedRow
not_at_the_cut = record {
  image =
      (0x02 ∷ 0x02 ∷ 0x00 ∷ 0x0C ∷ 0x00 ∷ 0x01 ∷ 0x01 ∷ 0x05 ∷ 0x00 ∷ [])
      ++ (0x01 ∷ 0x01 ∷ 0x22 ∷ 0x00 ∷ 0x08 ∷ 0x01 ∷ 0x00 ∷ 0x01 ∷ 0x01 ∷ 0x0A ∷ 0x0D ∷ 0x00 ∷ []) ++ storing;
  cores = 1;
  allowance = 100;
  entries = Step 0 ∷ Step 0 ∷ Step 0 ∷ [];
  log = 0 ∷ 0 ∷ 10 ∷ [];
  outcome = faulted 10 1 21;
  units = 7;
  memory = untouched;
  statuses = Lent ∷ Running ∷ Free ∷ Free ∷ [];
}

-- "The child's window runs from mark to e": the first child's part is 32 to 34 and the second's 34 to 36, so that the second does not store at
-- 33: thread 2, at byte 9 + 25. Units: 3 + 12 + 6
abbrev pub not_below_the_second_part : WorkedRow
not_below_the_second_part = record {
  image =
      (0x02 ∷ 0x05 ∷ 0x00 ∷ 0x19 ∷ 0x00 ∷ 0x01 ∷ 0x01 ∷ 0x05 ∷ 0x00 ∷ [])
      ++ (0x01 ∷ 0x02 ∷ 0x22 ∷ 0x00 ∷ 0x01 ∷ 0x03 ∷ 0x21 ∷ 0x00 ∷ 0x01 ∷ 0x04 ∷ 0x24 ∷ 0x00 ∷ [])
      ++ (0x09 ∷ 0x01 ∷ 0x00 ∷ 0x03 ∷ 0x02 ∷ 0x08 ∷ 0x01 ∷ 0x01 ∷ 0x03 ∷ 0x04 ∷ 0x0A ∷ 0x0D ∷ 0x00 ∷ []) ++ storing;
  cores = 1;
  allowance = 100;
  entries = Step 0 ∷ Step 0 ∷ Step 0 ∷ Step 0 ∷ Step 0 ∷ Step 0 ∷ [];
  log = 0 ∷ 0 ∷ 0 ∷ 0 ∷ 0 ∷ 10 ∷ [];
  outcome = faulted 10 2 34;
  units = 21;
  memory = untouched;
  statuses = Lent ∷ Ready ∷ Running ∷ Free ∷ [];
}

-- "A fork whose cut is e needs mark ≤ e ≤ hi": 1,024 is the root's hi; then 32 is below the mark (11), at byte 22. Units: 1 + 6, the child's
-- 1, and 1
abbrev pub cut_up_to_hi : WorkedRow
cut_up_to_hi = record {
  image =
      (0x02 ∷ 0x03 ∷ 0x00 ∷ 0x15 ∷ 0x00 ∷ 0x01 ∷ 0x00 ∷ 0x02 ∷ 0x00 ∷ [])
      ++ (0x01 ∷ 0x02 ∷ 0x00 ∷ 0x04 ∷ 0x08 ∷ 0x01 ∷ 0x00 ∷ 0x00 ∷ 0x02 ∷ 0x01 ∷ 0x02 ∷ 0x20 ∷ 0x00 ∷ [])
      ++ (0x08 ∷ 0x01 ∷ 0x01 ∷ 0x00 ∷ 0x02 ∷ 0x0A ∷ 0x0D ∷ 0x00 ∷ []) ++ nought;
  cores = 1;
  allowance = 100;
  entries = Step 0 ∷ Step 0 ∷ Step 0 ∷ Step 0 ∷ Step 0 ∷ [];
  log = 0 ∷ 0 ∷ 0 ∷ 0 ∷ 11 ∷ [];
  outcome = faulted 11 0 22;
  units = 9;
  memory = untouched;
  statuses = Running ∷ Free ∷ Free ∷ Free ∷ [];
}

-- the same, "11: cut out of range": 1,025 is past the root's hi, at byte 13
abbrev pub cut_past_hi : WorkedRow
cut_past_hi = record {
  image =
      (0x02 ∷ 0x02 ∷ 0x00 ∷ 0x0C ∷ 0x00 ∷ 0x01 ∷ 0x00 ∷ 0x02 ∷ 0x00 ∷ [])
      ++ (0x01 ∷ 0x01 ∷ 0x01 ∷ 0x04 ∷ 0x08 ∷ 0x01 ∷ 0x00 ∷ 0x00 ∷ 0x01 ∷ 0x0A ∷ 0x0D ∷ 0x00 ∷ []) ++ nought;
  cores = 1;
  allowance = 100;
  entries = Step 0 ∷ Step 0 ∷ [];
  log = 0 ∷ 11 ∷ [];
  outcome = faulted 11 0 13;
  units = 1;
  memory = untouched;
  statuses = Running ∷ Free ∷ Free ∷ Free ∷ [];
}

-- the same in a child, whose part is 32 to 32: its cut of 32 is allowed and one of 33 is not: thread 2, at byte 13 + 12 + 12 + 4. Units:
-- 1 + 6, 1 + 6, and 1
abbrev pub cut_past_hi_in_a_child : WorkedRow
cut_past_hi_in_a_child = record {
  image =
      (0x03 ∷ 0x02 ∷ 0x00 ∷ 0x0C ∷ 0x00 ∷ 0x02 ∷ 0x00 ∷ 0x0C ∷ 0x00 ∷ 0x02 ∷ 0x00 ∷ 0x0C ∷ 0x00 ∷ []) ++ calls 1 ++ calls 2
      ++ (0x01 ∷ 0x01 ∷ 0x21 ∷ 0x00 ∷ 0x08 ∷ 0x00 ∷ 0x00 ∷ 0x00 ∷ 0x01 ∷ 0x0A ∷ 0x0D ∷ 0x00 ∷ []);
  cores = 1;
  allowance = 100;
  entries = Step 0 ∷ Step 0 ∷ Step 0 ∷ Step 0 ∷ Step 0 ∷ Step 0 ∷ [];
  log = 0 ∷ 0 ∷ 0 ∷ 0 ∷ 0 ∷ 11 ∷ [];
  outcome = faulted 11 2 41;
  units = 15;
  memory = untouched;
  statuses = Lent ∷ Lent ∷ Running ∷ Free ∷ [];
}

-- "A fork whose cut is e needs mark ≤ e", "The root's window is 32 to 1,024": its cut of 31 is not allowed (11), at byte 13
abbrev pub cut_below_the_root : WorkedRow
cut_below_the_root = record {
  image =
      (0x02 ∷ 0x02 ∷ 0x00 ∷ 0x0B ∷ 0x00 ∷ 0x01 ∷ 0x00 ∷ 0x02 ∷ 0x00 ∷ [])
      ++ (0x01 ∷ 0x00 ∷ 0x1F ∷ 0x00 ∷ 0x08 ∷ 0x01 ∷ 0x01 ∷ 0x00 ∷ 0x00 ∷ 0x0D ∷ 0x00 ∷ []) ++ nought;
  cores = 1;
  allowance = 100;
  entries = Step 0 ∷ Step 0 ∷ [];
  log = 0 ∷ 11 ∷ [];
  outcome = faulted 11 0 13;
  units = 1;
  memory = untouched;
  statuses = Running ∷ Free ∷ Free ∷ Free ∷ [];
}

-- nor behind a join, which has no child to wait for and puts the mark back to 32: at byte 14
abbrev pub cut_below_the_root_again : WorkedRow
cut_below_the_root_again = record {
  image =
      (0x02 ∷ 0x02 ∷ 0x00 ∷ 0x0C ∷ 0x00 ∷ 0x01 ∷ 0x00 ∷ 0x02 ∷ 0x00 ∷ [])
      ++ (0x01 ∷ 0x00 ∷ 0x1F ∷ 0x00 ∷ 0x0A ∷ 0x08 ∷ 0x01 ∷ 0x01 ∷ 0x00 ∷ 0x00 ∷ 0x0D ∷ 0x00 ∷ []) ++ nought;
  cores = 1;
  allowance = 100;
  entries = Step 0 ∷ Step 0 ∷ Step 0 ∷ [];
  log = 0 ∷ 0 ∷ 11 ∷ [];
  outcome = faulted 11 0 14;
  units = 2;
  memory = untouched;
  statuses = Running ∷ Free ∷ Free ∷ Free ∷ [];
}

-- "load and store from mark up to hi, nothing else": before the join the parent loads at 32, which is cut off, though the child has ended: 10, at
-- byte 22. Units: 1 + 6, the child's 1, and 1
abbrev pub load_below_the_mark : WorkedRow
load_below_the_mark = record {
  image =
      (0x02 ∷ 0x04 ∷ 0x00 ∷ 0x12 ∷ 0x00 ∷ 0x01 ∷ 0x00 ∷ 0x02 ∷ 0x00 ∷ [])
      ++ (0x01 ∷ 0x00 ∷ 0x22 ∷ 0x00 ∷ 0x08 ∷ 0x01 ∷ 0x01 ∷ 0x00 ∷ 0x00 ∷ 0x01 ∷ 0x02 ∷ 0x20 ∷ 0x00 ∷ 0x04 ∷ 0x03 ∷ 0x02 ∷ 0x0D ∷ 0x00 ∷ [])
      ++ nought;
  cores = 1;
  allowance = 100;
  entries = Step 0 ∷ Step 0 ∷ Step 0 ∷ Step 0 ∷ Step 0 ∷ [];
  log = 0 ∷ 0 ∷ 0 ∷ 0 ∷ 10 ∷ [];
  outcome = faulted 10 0 22;
  units = 9;
  memory = untouched;
  statuses = Running ∷ Free ∷ Free ∷ Free ∷ [];
}

-- "A join puts the mark back to lo", behind two cuts, at 34 and 36, and behind another one: each time 32 is stored to, 36 and then 32, and 1,023
-- is still in the window. Units: five times 1, three times 6 + 1, twice 1, three times 2, and 1
abbrev pub join_twice : WorkedRow
join_twice = record {
  image =
      (0x02 ∷ 0x04 ∷ 0x00 ∷ 0x30 ∷ 0x00 ∷ 0x01 ∷ 0x00 ∷ 0x02 ∷ 0x00 ∷ [])
      ++ (0x01 ∷ 0x02 ∷ 0x22 ∷ 0x00 ∷ 0x08 ∷ 0x01 ∷ 0x00 ∷ 0x00 ∷ 0x02 ∷ 0x01 ∷ 0x03 ∷ 0x24 ∷ 0x00 ∷ 0x08 ∷ 0x01 ∷ 0x01 ∷ 0x00 ∷ 0x03 ∷ [])
      ++ (0x0A ∷ 0x01 ∷ 0x02 ∷ 0x20 ∷ 0x00 ∷ 0x05 ∷ 0x02 ∷ 0x03 ∷ 0x08 ∷ 0x01 ∷ 0x00 ∷ 0x00 ∷ 0x03 ∷ 0x0A ∷ [])
      ++ (0x01 ∷ 0x02 ∷ 0xFF ∷ 0x03 ∷ 0x05 ∷ 0x02 ∷ 0x02 ∷ 0x01 ∷ 0x02 ∷ 0x20 ∷ 0x00 ∷ 0x05 ∷ 0x02 ∷ 0x02 ∷ 0x0D ∷ 0x00 ∷ []) ++ nought;
  cores = 1;
  allowance = 100;
  entries = replicate 17 (Step 0);
  log = replicate 17 0;
  outcome = finished 0;
  units = 35;
  memory = 32 ∷ 0 ∷ 0 ∷ 0 ∷ [];
  statuses = none_left;
}

-- to its own lo, and not to 32: a child's part is 34 to 40. It cuts it at 36 and joins; then 34 is stored to, and 33 is not: thread 2, at byte
-- 13 + 21 + 21. Units: 1 + 6 + 1, 1 + 6, the child's 1 + 6 + 1 + 1, and 1 + 2 + 1
abbrev pub join_in_a_childs_part : WorkedRow
join_in_a_childs_part = record {
  image =
      (0x03 ∷ 0x04 ∷ 0x00 ∷ 0x15 ∷ 0x00 ∷ 0x02 ∷ 0x00 ∷ 0x1A ∷ 0x00 ∷ 0x01 ∷ 0x00 ∷ 0x02 ∷ 0x00 ∷ [])
      ++ (0x01 ∷ 0x00 ∷ 0x22 ∷ 0x00 ∷ 0x08 ∷ 0x02 ∷ 0x01 ∷ 0x00 ∷ 0x00 ∷ 0x01 ∷ 0x02 ∷ 0x28 ∷ 0x00 ∷ 0x08 ∷ 0x01 ∷ 0x03 ∷ 0x00 ∷ 0x02 ∷ [])
      ++ (0x0A ∷ 0x0D ∷ 0x03 ∷ []) ++ (0x01 ∷ 0x01 ∷ 0x24 ∷ 0x00 ∷ 0x08 ∷ 0x02 ∷ 0x00 ∷ 0x00 ∷ 0x01 ∷ 0x0A ∷ [])
      ++ (0x01 ∷ 0x01 ∷ 0x22 ∷ 0x00 ∷ 0x05 ∷ 0x01 ∷ 0x01 ∷ 0x01 ∷ 0x01 ∷ 0x21 ∷ 0x00 ∷ 0x05 ∷ 0x01 ∷ 0x01 ∷ 0x0D ∷ 0x00 ∷ []) ++ nought;
  cores = 1;
  allowance = 100;
  entries = replicate 13 (Step 0);
  log = replicate 12 0 ++ (10 ∷ []);
  outcome = faulted 10 2 55;
  units = 28;
  memory = 0 ∷ 0 ∷ 34 ∷ 0 ∷ [];
  statuses = Lent ∷ Free ∷ Running ∷ Free ∷ [];
}

abbrev pub command_rows : List WorkedRow
command_rows =
    sums_are_modulo ∷ jumps ∷ parameter_words ∷ memory_ends ∷ join_gives_the_part_back ∷ not_below_the_mark ∷ not_at_the_cut
    ∷ not_below_the_second_part ∷ cut_up_to_hi ∷ cut_past_hi ∷ cut_past_hi_in_a_child ∷ cut_below_the_root ∷ cut_below_the_root_again
    ∷ load_below_the_mark ∷ join_twice ∷ join_in_a_childs_part ∷ []
