-- Worked rows: what a thread that shares words may store, load and cut, and until when (document 02, T-04).
use Rattle.std.specs.Prelude.{List, [], ◌∷◌, ◌++◌, replicate}
use Rattle.schedule.specs.declared.Entry.TheVariants.{Step, Steal}
use Rattle.thread.specs.declared.Status.TheVariants.{Free, Running, Lent}
use Rattle.rules.specs.State.{finished, faulted}
use Rattle.rules.specs.Row.{WorkedRow, untouched, none_left, nought, storing}

-- "A new command 0E a (weight 1) shares: slot a holds s", "Until the join the thread may .. load up to hi": the root stores 34 at 34, shares the
-- words from 34 on, and loads 34 there. Units: 1 + 2 + 1 + 2 + 1
abbrev pub loads_at_the_ceiling : WorkedRow
loads_at_the_ceiling = record {
  image =
      (0x01 ∷ 0x02 ∷ 0x00 ∷ 0x0E ∷ 0x00 ∷ [])
      ++ (0x01 ∷ 0x00 ∷ 0x22 ∷ 0x00 ∷ 0x05 ∷ 0x00 ∷ 0x00 ∷ 0x0E ∷ 0x00 ∷ 0x04 ∷ 0x01 ∷ 0x00 ∷ 0x0D ∷ 0x01 ∷ []);
  cores = 1;
  allowance = 100;
  entries = Step 0 ∷ Step 0 ∷ Step 0 ∷ Step 0 ∷ Step 0 ∷ [];
  log = 0 ∷ 0 ∷ 0 ∷ 0 ∷ 0 ∷ [];
  outcome = finished 34;
  units = 7;
  memory = 0 ∷ 0 ∷ 34 ∷ 0 ∷ [];
  statuses = none_left;
}

-- "The ceiling becomes s. Until the join the thread may store only below the ceiling": s is 34, and 33 is stored at 33; at 34 it is 10, at
-- byte 5 + 13. Units: 1 + 1 + 1 + 2
abbrev pub stores_below_the_ceiling : WorkedRow
stores_below_the_ceiling = record {
  image =
      (0x01 ∷ 0x02 ∷ 0x00 ∷ 0x12 ∷ 0x00 ∷ [])
      ++ (0x01 ∷ 0x00 ∷ 0x22 ∷ 0x00 ∷ 0x01 ∷ 0x01 ∷ 0x21 ∷ 0x00 ∷ 0x0E ∷ 0x00 ∷ 0x05 ∷ 0x01 ∷ 0x01 ∷ 0x05 ∷ 0x00 ∷ 0x00 ∷ 0x0D ∷ 0x00 ∷ []);
  cores = 1;
  allowance = 100;
  entries = Step 0 ∷ Step 0 ∷ Step 0 ∷ Step 0 ∷ Step 0 ∷ [];
  log = 0 ∷ 0 ∷ 0 ∷ 0 ∷ 10 ∷ [];
  outcome = faulted 10 0 18;
  units = 5;
  memory = 0 ∷ 33 ∷ 0 ∷ 0 ∷ [];
  statuses = Running ∷ Free ∷ Free ∷ Free ∷ [];
}

-- "load up to hi", from the mark on: behind a cut at 34 the root shares from 35 on. It loads at 34, and at 33, which is cut off, it meets 10: at
-- byte 9 + 26. Units: 1 + 6, the child's 1, 1 + 1, 1 + 2, and 1
abbrev pub sharer_loads_nothing_cut_off : WorkedRow
sharer_loads_nothing_cut_off = record {
  image =
      (0x02 ∷ 0x03 ∷ 0x00 ∷ 0x1F ∷ 0x00 ∷ 0x01 ∷ 0x00 ∷ 0x02 ∷ 0x00 ∷ [])
      ++ (0x01 ∷ 0x00 ∷ 0x22 ∷ 0x00 ∷ 0x08 ∷ 0x01 ∷ 0x01 ∷ 0x00 ∷ 0x00 ∷ 0x01 ∷ 0x00 ∷ 0x23 ∷ 0x00 ∷ 0x0E ∷ 0x00 ∷ [])
      ++ (0x01 ∷ 0x00 ∷ 0x22 ∷ 0x00 ∷ 0x04 ∷ 0x02 ∷ 0x00 ∷ 0x01 ∷ 0x00 ∷ 0x21 ∷ 0x00 ∷ 0x04 ∷ 0x02 ∷ 0x00 ∷ 0x0D ∷ 0x00 ∷ []) ++ nought;
  cores = 1;
  allowance = 100;
  entries = replicate 9 (Step 0);
  log = replicate 8 0 ++ (10 ∷ []);
  outcome = faulted 10 0 35;
  units = 14;
  memory = untouched;
  statuses = Running ∷ Free ∷ Free ∷ Free ∷ [];
}

-- "Until the join the thread may .. cut at most at it": s is 34, and a cut of 35 is 11, at byte 9 + 10. Units: 1 + 1 + 1
abbrev pub cut_above_the_ceiling : WorkedRow
cut_above_the_ceiling = record {
  image =
      (0x02 ∷ 0x02 ∷ 0x00 ∷ 0x12 ∷ 0x00 ∷ 0x01 ∷ 0x00 ∷ 0x02 ∷ 0x00 ∷ [])
      ++ (0x01 ∷ 0x00 ∷ 0x22 ∷ 0x00 ∷ 0x0E ∷ 0x00 ∷ 0x01 ∷ 0x00 ∷ 0x23 ∷ 0x00 ∷ 0x08 ∷ 0x01 ∷ 0x01 ∷ 0x00 ∷ 0x00 ∷ 0x0A ∷ 0x0D ∷ 0x01 ∷ [])
      ++ nought;
  cores = 1;
  allowance = 100;
  entries = Step 0 ∷ Step 0 ∷ Step 0 ∷ Step 0 ∷ [];
  log = 0 ∷ 0 ∷ 0 ∷ 11 ∷ [];
  outcome = faulted 11 0 19;
  units = 3;
  memory = untouched;
  statuses = Running ∷ Free ∷ Free ∷ Free ∷ [];
}

-- the same with a cut of 34, which is good: the child stores 33 at 33, the last word of its part. Units: 1 + 1 + 1 + 6, the child's 2 + 1, and 1 + 1
abbrev pub cut_at_the_ceiling : WorkedRow
cut_at_the_ceiling = record {
  image =
      (0x02 ∷ 0x03 ∷ 0x00 ∷ 0x12 ∷ 0x00 ∷ 0x01 ∷ 0x01 ∷ 0x05 ∷ 0x00 ∷ [])
      ++ (0x01 ∷ 0x00 ∷ 0x22 ∷ 0x00 ∷ 0x0E ∷ 0x00 ∷ 0x01 ∷ 0x01 ∷ 0x21 ∷ 0x00 ∷ 0x08 ∷ 0x01 ∷ 0x02 ∷ 0x01 ∷ 0x00 ∷ 0x0A ∷ 0x0D ∷ 0x02 ∷ [])
      ++ storing;
  cores = 1;
  allowance = 100;
  entries = replicate 8 (Step 0);
  log = replicate 8 0;
  outcome = finished 33;
  units = 14;
  memory = 0 ∷ 33 ∷ 0 ∷ 0 ∷ [];
  statuses = none_left;
}

-- "cut at most at it", also by a steal: s is 34 and the stolen fork's cut 35 (11): thread 0, at byte 9 + 15. Units: 1 + 1 + 1 + 6
abbrev pub stolen_cut_above_the_ceiling : WorkedRow
stolen_cut_above_the_ceiling = record {
  image =
      (0x02 ∷ 0x04 ∷ 0x00 ∷ 0x17 ∷ 0x00 ∷ 0x01 ∷ 0x00 ∷ 0x02 ∷ 0x00 ∷ [])
      ++ (0x01 ∷ 0x00 ∷ 0x22 ∷ 0x00 ∷ 0x0E ∷ 0x00 ∷ 0x01 ∷ 0x01 ∷ 0x23 ∷ 0x00 ∷ 0x08 ∷ 0x01 ∷ 0x02 ∷ 0x00 ∷ 0x00 ∷ [])
      ++ (0x08 ∷ 0x01 ∷ 0x03 ∷ 0x00 ∷ 0x01 ∷ 0x0A ∷ 0x0D ∷ 0x02 ∷ []) ++ nought;
  cores = 2;
  allowance = 100;
  entries = Step 0 ∷ Step 0 ∷ Step 0 ∷ Step 0 ∷ Steal 1 0 ∷ [];
  log = 0 ∷ 0 ∷ 0 ∷ 0 ∷ 11 ∷ [];
  outcome = faulted 11 0 24;
  units = 9;
  memory = untouched;
  statuses = Lent ∷ Running ∷ Free ∷ Free ∷ [];
}

-- "Until the join the thread may store only below the ceiling", also when its child has ended: s is 34 and the cut 33. The root stores 33 at 33; at
-- 34 it is 10, at byte 9 + 18. Units: 1 + 1 + 1 + 6, the child's 1, and 2
abbrev pub ceiling_stays_till_the_join : WorkedRow
ceiling_stays_till_the_join = record {
  image =
      (0x02 ∷ 0x03 ∷ 0x00 ∷ 0x18 ∷ 0x00 ∷ 0x01 ∷ 0x00 ∷ 0x02 ∷ 0x00 ∷ [])
      ++ (0x01 ∷ 0x00 ∷ 0x22 ∷ 0x00 ∷ 0x01 ∷ 0x01 ∷ 0x21 ∷ 0x00 ∷ 0x0E ∷ 0x00 ∷ 0x08 ∷ 0x01 ∷ 0x02 ∷ 0x00 ∷ 0x01 ∷ 0x05 ∷ 0x01 ∷ 0x01 ∷ [])
      ++ (0x05 ∷ 0x00 ∷ 0x00 ∷ 0x0A ∷ 0x0D ∷ 0x02 ∷ []) ++ nought;
  cores = 1;
  allowance = 100;
  entries = replicate 7 (Step 0);
  log = replicate 6 0 ++ (10 ∷ []);
  outcome = faulted 10 0 27;
  units = 12;
  memory = 0 ∷ 33 ∷ 0 ∷ 0 ∷ [];
  statuses = Running ∷ Free ∷ Free ∷ Free ∷ [];
}

-- "The join restores the ceiling": behind it the root stores 34 at 34. Units: 1 + 1 + 1 + 6, the child's 1, and 1 + 2 + 1
abbrev pub join_restores_the_ceiling : WorkedRow
join_restores_the_ceiling = record {
  image =
      (0x02 ∷ 0x03 ∷ 0x00 ∷ 0x15 ∷ 0x00 ∷ 0x01 ∷ 0x00 ∷ 0x02 ∷ 0x00 ∷ [])
      ++ (0x01 ∷ 0x00 ∷ 0x22 ∷ 0x00 ∷ 0x01 ∷ 0x01 ∷ 0x21 ∷ 0x00 ∷ 0x0E ∷ 0x00 ∷ 0x08 ∷ 0x01 ∷ 0x02 ∷ 0x00 ∷ 0x01 ∷ 0x0A ∷ [])
      ++ (0x05 ∷ 0x00 ∷ 0x00 ∷ 0x0D ∷ 0x02 ∷ []) ++ nought;
  cores = 1;
  allowance = 100;
  entries = replicate 8 (Step 0);
  log = replicate 8 0;
  outcome = finished 0;
  units = 14;
  memory = 0 ∷ 0 ∷ 34 ∷ 0 ∷ [];
  statuses = none_left;
}

-- the same where the join has no child to wait for; the root loads 34 there too. Units: 1 + 1 + 1 + 2 + 2 + 1
abbrev pub join_of_no_child_restores_the_ceiling : WorkedRow
join_of_no_child_restores_the_ceiling = record {
  image =
      (0x01 ∷ 0x02 ∷ 0x00 ∷ 0x0F ∷ 0x00 ∷ [])
      ++ (0x01 ∷ 0x00 ∷ 0x22 ∷ 0x00 ∷ 0x0E ∷ 0x00 ∷ 0x0A ∷ 0x05 ∷ 0x00 ∷ 0x00 ∷ 0x04 ∷ 0x01 ∷ 0x00 ∷ 0x0D ∷ 0x01 ∷ []);
  cores = 1;
  allowance = 100;
  entries = Step 0 ∷ Step 0 ∷ Step 0 ∷ Step 0 ∷ Step 0 ∷ Step 0 ∷ [];
  log = 0 ∷ 0 ∷ 0 ∷ 0 ∷ 0 ∷ 0 ∷ [];
  outcome = finished 34;
  units = 8;
  memory = 0 ∷ 0 ∷ 34 ∷ 0 ∷ [];
  statuses = none_left;
}

-- the same for a second s, 35, which is above the first, 34. Units: 1 + 1 + 1 + 1 + 1 + 1
abbrev pub shares_higher_behind_the_join : WorkedRow
shares_higher_behind_the_join = record {
  image =
      (0x01 ∷ 0x01 ∷ 0x00 ∷ 0x0F ∷ 0x00 ∷ [])
      ++ (0x01 ∷ 0x00 ∷ 0x22 ∷ 0x00 ∷ 0x0E ∷ 0x00 ∷ 0x0A ∷ 0x01 ∷ 0x00 ∷ 0x23 ∷ 0x00 ∷ 0x0E ∷ 0x00 ∷ 0x0D ∷ 0x00 ∷ []);
  cores = 1;
  allowance = 100;
  entries = Step 0 ∷ Step 0 ∷ Step 0 ∷ Step 0 ∷ Step 0 ∷ Step 0 ∷ [];
  log = 0 ∷ 0 ∷ 0 ∷ 0 ∷ 0 ∷ 0 ∷ [];
  outcome = finished 35;
  units = 6;
  memory = untouched;
  statuses = none_left;
}

-- "A join puts the mark back to lo", also that of a thread that shares: the cut is 33 and s is 34. Behind the join the root stores 32 at 32 and 34
-- at 34. Units: 1 + 1 + 6, the child's 1, 1 + 1, and 1 + 2 + 2 + 1
abbrev pub shares_behind_a_cut : WorkedRow
shares_behind_a_cut = record {
  image =
      (0x02 ∷ 0x03 ∷ 0x00 ∷ 0x1C ∷ 0x00 ∷ 0x01 ∷ 0x00 ∷ 0x02 ∷ 0x00 ∷ [])
      ++ (0x01 ∷ 0x00 ∷ 0x22 ∷ 0x00 ∷ 0x01 ∷ 0x01 ∷ 0x21 ∷ 0x00 ∷ 0x08 ∷ 0x01 ∷ 0x02 ∷ 0x00 ∷ 0x01 ∷ 0x0E ∷ 0x00 ∷ 0x0A ∷ [])
      ++ (0x01 ∷ 0x01 ∷ 0x20 ∷ 0x00 ∷ 0x05 ∷ 0x01 ∷ 0x01 ∷ 0x05 ∷ 0x00 ∷ 0x00 ∷ 0x0D ∷ 0x02 ∷ []) ++ nought;
  cores = 1;
  allowance = 100;
  entries = replicate 10 (Step 0);
  log = replicate 10 0;
  outcome = finished 0;
  units = 17;
  memory = 32 ∷ 0 ∷ 34 ∷ 0 ∷ [];
  statuses = none_left;
}

-- "The join restores the ceiling", to the thread's own hi: a child whose part is 32 to 34 shares from 33 on and joins. It stores 33 at 33; at 34 it
-- is 10: thread 1, at byte 9 + 16 + 6. Units: 1 + 1 + 6, and the child's 1 + 1 + 2
abbrev pub join_restores_the_childs_ceiling : WorkedRow
join_restores_the_childs_ceiling = record {
  image =
      (0x02 ∷ 0x03 ∷ 0x00 ∷ 0x10 ∷ 0x00 ∷ 0x02 ∷ 0x02 ∷ 0x0B ∷ 0x00 ∷ [])
      ++ (0x01 ∷ 0x00 ∷ 0x21 ∷ 0x00 ∷ 0x01 ∷ 0x01 ∷ 0x22 ∷ 0x00 ∷ 0x08 ∷ 0x01 ∷ 0x02 ∷ 0x00 ∷ 0x01 ∷ 0x0A ∷ 0x0D ∷ 0x02 ∷ [])
      ++ (0x0E ∷ 0x00 ∷ 0x0A ∷ 0x05 ∷ 0x00 ∷ 0x00 ∷ 0x05 ∷ 0x01 ∷ 0x01 ∷ 0x0D ∷ 0x00 ∷ []);
  cores = 1;
  allowance = 100;
  entries = replicate 7 (Step 0);
  log = replicate 6 0 ++ (10 ∷ []);
  outcome = faulted 10 1 31;
  units = 12;
  memory = 0 ∷ 33 ∷ 0 ∷ 0 ∷ [];
  statuses = Lent ∷ Running ∷ Free ∷ Free ∷ [];
}

-- "the thread's ceiling, at first hi", also a child's: the root shares from 34 on, and the child's part is 32 to 33. It stores 32 at 32, its last
-- word; at 33 it is 10: thread 1, at byte 9 + 22 + 3. Units: 1 + 1 + 1 + 1 + 6, and the child's 2
abbrev pub childs_ceiling_is_its_hi : WorkedRow
childs_ceiling_is_its_hi = record {
  image =
      (0x02 ∷ 0x04 ∷ 0x00 ∷ 0x16 ∷ 0x00 ∷ 0x02 ∷ 0x02 ∷ 0x08 ∷ 0x00 ∷ [])
      ++ (0x01 ∷ 0x00 ∷ 0x22 ∷ 0x00 ∷ 0x0E ∷ 0x00 ∷ 0x01 ∷ 0x01 ∷ 0x20 ∷ 0x00 ∷ 0x01 ∷ 0x02 ∷ 0x21 ∷ 0x00 ∷ [])
      ++ (0x08 ∷ 0x01 ∷ 0x03 ∷ 0x01 ∷ 0x02 ∷ 0x0A ∷ 0x0D ∷ 0x03 ∷ []) ++ (0x05 ∷ 0x00 ∷ 0x00 ∷ 0x05 ∷ 0x01 ∷ 0x01 ∷ 0x0D ∷ 0x00 ∷ []);
  cores = 1;
  allowance = 100;
  entries = replicate 7 (Step 0);
  log = replicate 6 0 ++ (10 ∷ []);
  outcome = faulted 10 1 34;
  units = 12;
  memory = 32 ∷ 0 ∷ 0 ∷ 0 ∷ [];
  statuses = Lent ∷ Running ∷ Free ∷ Free ∷ [];
}

abbrev pub ceiling_rows : List WorkedRow
ceiling_rows =
    loads_at_the_ceiling ∷ stores_below_the_ceiling ∷ sharer_loads_nothing_cut_off ∷ cut_above_the_ceiling ∷ cut_at_the_ceiling
    ∷ stolen_cut_above_the_ceiling ∷ ceiling_stays_till_the_join ∷ join_restores_the_ceiling ∷ join_of_no_child_restores_the_ceiling
    ∷ shares_higher_behind_the_join ∷ shares_behind_a_cut ∷ join_restores_the_childs_ceiling ∷ childs_ceiling_is_its_hi ∷ []
