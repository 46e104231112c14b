-- Worked rows: which shared words a child may load, and which its own child (document 02, T-04).
use Rattle.std.specs.Prelude.{List, [], ◌∷◌, ◌++◌, ℕ, replicate}
use Rattle.schedule.specs.declared.Entry.TheVariants.{Step}
use Rattle.thread.specs.declared.Status.TheVariants.{Free, Running, Lent}
use Rattle.rules.specs.State.{finished, faulted}
use Rattle.rules.specs.Row.{WorkedRow, none_left, loading}

-- of four slots: stores 35 at 35, shares from 35 on, and lforks routine 1 to slot 3, its cut 34, its arguments 35, 33 and 34; joins, and returns
-- slot 3. The child's part is 32 to 34, and its read span is from 35 on. Units up to the fork: 1 + 2 + 1 + 1 + 1 + 6
abbrev shares_above : List ℕ
shares_above =
    0x01 ∷ 0x00 ∷ 0x23 ∷ 0x00 ∷ 0x05 ∷ 0x00 ∷ 0x00 ∷ 0x0E ∷ 0x00 ∷ 0x01 ∷ 0x01 ∷ 0x21 ∷ 0x00 ∷ 0x01 ∷ 0x02 ∷ 0x22 ∷ 0x00 ∷ 0x08 ∷ 0x01 ∷ 0x03 ∷ 0x00 ∷ 0x02
    ∷ 0x0A ∷ 0x0D ∷ 0x03 ∷ []

-- "if the parent shares no word, the child gets the parent's own read span": the child does not share, and its child loads 35 at 35. Units: 12, the
-- child's 6, its child's 2 + 1, 1 + 1, and 1 + 1
abbrev pub child_hands_its_span_on : WorkedRow
child_hands_its_span_on = record {
  image =
      (0x03 ∷ 0x04 ∷ 0x00 ∷ 0x19 ∷ 0x00 ∷ 0x04 ∷ 0x03 ∷ 0x08 ∷ 0x00 ∷ 0x01 ∷ 0x01 ∷ 0x05 ∷ 0x00 ∷ []) ++ shares_above
      ++ (0x08 ∷ 0x02 ∷ 0x03 ∷ 0x00 ∷ 0x01 ∷ 0x0A ∷ 0x0D ∷ 0x03 ∷ []) ++ loading;
  cores = 1;
  allowance = 100;
  entries = replicate 13 (Step 0);
  log = replicate 13 0;
  outcome = finished 35;
  units = 25;
  memory = 0 ∷ 0 ∷ 0 ∷ 35 ∷ [];
  statuses = none_left;
}

-- the same at 34, which is neither the child's nor shared by the root (10): thread 2, at byte 13 + 25 + 8. Units: 12, and the child's 6
abbrev pub grandchild_loads_nothing_between : WorkedRow
grandchild_loads_nothing_between = record {
  image =
      (0x03 ∷ 0x04 ∷ 0x00 ∷ 0x19 ∷ 0x00 ∷ 0x04 ∷ 0x03 ∷ 0x08 ∷ 0x00 ∷ 0x01 ∷ 0x01 ∷ 0x05 ∷ 0x00 ∷ []) ++ shares_above
      ++ (0x08 ∷ 0x02 ∷ 0x03 ∷ 0x02 ∷ 0x01 ∷ 0x0A ∷ 0x0D ∷ 0x03 ∷ []) ++ loading;
  cores = 1;
  allowance = 100;
  entries = replicate 8 (Step 0);
  log = replicate 7 0 ++ (10 ∷ []);
  outcome = faulted 10 2 46;
  units = 18;
  memory = 0 ∷ 0 ∷ 0 ∷ 35 ∷ [];
  statuses = Lent ∷ Lent ∷ Running ∷ Free ∷ [];
}

-- "if the parent shares no word", also where the child's s is 34, its hi: its child loads 35 at 35. Units: 12, the child's 1 + 6, its child's 2 + 1,
-- 1 + 1, and 1 + 1
abbrev pub child_shares_no_word : WorkedRow
child_shares_no_word = record {
  image =
      (0x03 ∷ 0x04 ∷ 0x00 ∷ 0x19 ∷ 0x00 ∷ 0x04 ∷ 0x03 ∷ 0x0A ∷ 0x00 ∷ 0x01 ∷ 0x01 ∷ 0x05 ∷ 0x00 ∷ []) ++ shares_above
      ++ (0x0E ∷ 0x02 ∷ 0x08 ∷ 0x02 ∷ 0x03 ∷ 0x00 ∷ 0x01 ∷ 0x0A ∷ 0x0D ∷ 0x03 ∷ []) ++ loading;
  cores = 1;
  allowance = 100;
  entries = replicate 14 (Step 0);
  log = replicate 14 0;
  outcome = finished 35;
  units = 26;
  memory = 0 ∷ 0 ∷ 0 ∷ 35 ∷ [];
  statuses = none_left;
}

-- "if the parent shares no word", and this one does, from 33 on: its child does not get its read span, and meets 10 at 35: thread 2, at
-- byte 13 + 25 + 10. Units: 12, and the child's 1 + 6
abbrev pub child_shares_its_own : WorkedRow
child_shares_its_own = record {
  image =
      (0x03 ∷ 0x04 ∷ 0x00 ∷ 0x19 ∷ 0x00 ∷ 0x04 ∷ 0x03 ∷ 0x0A ∷ 0x00 ∷ 0x01 ∷ 0x01 ∷ 0x05 ∷ 0x00 ∷ []) ++ shares_above
      ++ (0x0E ∷ 0x01 ∷ 0x08 ∷ 0x02 ∷ 0x03 ∷ 0x00 ∷ 0x01 ∷ 0x0A ∷ 0x0D ∷ 0x03 ∷ []) ++ loading;
  cores = 1;
  allowance = 100;
  entries = replicate 9 (Step 0);
  log = replicate 8 0 ++ (10 ∷ []);
  outcome = faulted 10 2 48;
  units = 19;
  memory = 0 ∷ 0 ∷ 0 ∷ 35 ∷ [];
  statuses = Lent ∷ Lent ∷ Running ∷ Free ∷ [];
}

-- "from s up to the parent's hi": the child stores 33 at 33 and shares from 33 on, and its child loads 33 there. Units: 12, the child's 2 + 1 + 6,
-- its child's 2 + 1, 1 + 1, and 1 + 1
abbrev pub grandchild_loads_the_childs : WorkedRow
grandchild_loads_the_childs = record {
  image =
      (0x03 ∷ 0x04 ∷ 0x00 ∷ 0x19 ∷ 0x00 ∷ 0x04 ∷ 0x03 ∷ 0x0D ∷ 0x00 ∷ 0x01 ∷ 0x01 ∷ 0x05 ∷ 0x00 ∷ []) ++ shares_above
      ++ (0x05 ∷ 0x01 ∷ 0x01 ∷ 0x0E ∷ 0x01 ∷ 0x08 ∷ 0x02 ∷ 0x03 ∷ 0x01 ∷ 0x01 ∷ 0x0A ∷ 0x0D ∷ 0x03 ∷ []) ++ loading;
  cores = 1;
  allowance = 100;
  entries = replicate 15 (Step 0);
  log = replicate 15 0;
  outcome = finished 33;
  units = 28;
  memory = 0 ∷ 33 ∷ 0 ∷ 35 ∷ [];
  statuses = none_left;
}

-- "up to the parent's hi": at 34, the child's hi, its child meets 10: thread 2, at byte 13 + 25 + 10. Units: 12, and the child's 1 + 6
abbrev pub not_past_the_childs_hi : WorkedRow
not_past_the_childs_hi = record {
  image =
      (0x03 ∷ 0x04 ∷ 0x00 ∷ 0x19 ∷ 0x00 ∷ 0x04 ∷ 0x03 ∷ 0x0A ∷ 0x00 ∷ 0x01 ∷ 0x01 ∷ 0x05 ∷ 0x00 ∷ []) ++ shares_above
      ++ (0x0E ∷ 0x01 ∷ 0x08 ∷ 0x02 ∷ 0x03 ∷ 0x02 ∷ 0x01 ∷ 0x0A ∷ 0x0D ∷ 0x03 ∷ []) ++ loading;
  cores = 1;
  allowance = 100;
  entries = replicate 9 (Step 0);
  log = replicate 8 0 ++ (10 ∷ []);
  outcome = faulted 10 2 48;
  units = 19;
  memory = 0 ∷ 0 ∷ 0 ∷ 35 ∷ [];
  statuses = Lent ∷ Lent ∷ Running ∷ Free ∷ [];
}

-- "may also load": the child shares from 33 on, and loads 35 at 35 as before. Units: 12, the child's 1 + 2 + 1, and 1 + 1
abbrev pub sharer_keeps_its_span : WorkedRow
sharer_keeps_its_span = record {
  image =
      (0x02 ∷ 0x04 ∷ 0x00 ∷ 0x19 ∷ 0x00 ∷ 0x04 ∷ 0x03 ∷ 0x07 ∷ 0x00 ∷ []) ++ shares_above ++ (0x0E ∷ 0x01 ∷ 0x04 ∷ 0x03 ∷ 0x00 ∷ 0x0D ∷ 0x03 ∷ []);
  cores = 1;
  allowance = 100;
  entries = replicate 11 (Step 0);
  log = replicate 11 0;
  outcome = finished 35;
  units = 18;
  memory = 0 ∷ 0 ∷ 0 ∷ 35 ∷ [];
  statuses = none_left;
}

-- the same at 34, which is neither the child's nor shared by the root (10): thread 1, at byte 9 + 25 + 2. Units: 12, and the child's 1
abbrev pub sharer_loads_nothing_between : WorkedRow
sharer_loads_nothing_between = record {
  image =
      (0x02 ∷ 0x04 ∷ 0x00 ∷ 0x19 ∷ 0x00 ∷ 0x04 ∷ 0x03 ∷ 0x07 ∷ 0x00 ∷ []) ++ shares_above ++ (0x0E ∷ 0x01 ∷ 0x04 ∷ 0x03 ∷ 0x02 ∷ 0x0D ∷ 0x03 ∷ []);
  cores = 1;
  allowance = 100;
  entries = replicate 8 (Step 0);
  log = replicate 7 0 ++ (10 ∷ []);
  outcome = faulted 10 1 36;
  units = 13;
  memory = 0 ∷ 0 ∷ 0 ∷ 35 ∷ [];
  statuses = Lent ∷ Running ∷ Free ∷ Free ∷ [];
}

-- "The join restores the ceiling": the child shares from 33 on and joins, and then its child gets its read span and loads 35 at 35. Units: 12, the
-- child's 1 + 1 + 6, its child's 2 + 1, 1 + 1, and 1 + 1
abbrev pub child_hands_it_on_behind_its_join : WorkedRow
child_hands_it_on_behind_its_join = record {
  image =
      (0x03 ∷ 0x04 ∷ 0x00 ∷ 0x19 ∷ 0x00 ∷ 0x04 ∷ 0x03 ∷ 0x0B ∷ 0x00 ∷ 0x01 ∷ 0x01 ∷ 0x05 ∷ 0x00 ∷ []) ++ shares_above
      ++ (0x0E ∷ 0x01 ∷ 0x0A ∷ 0x08 ∷ 0x02 ∷ 0x03 ∷ 0x00 ∷ 0x01 ∷ 0x0A ∷ 0x0D ∷ 0x03 ∷ []) ++ loading;
  cores = 1;
  allowance = 100;
  entries = replicate 15 (Step 0);
  log = replicate 15 0;
  outcome = finished 35;
  units = 27;
  memory = 0 ∷ 0 ∷ 0 ∷ 35 ∷ [];
  statuses = none_left;
}

-- "may also load", before its join and behind it: the child's child loads 35 at 35, and so does the child itself, twice. It returns the sum. Units:
-- 12, the child's 6, its child's 2 + 1, 2 + 1 + 2 + 1 + 1 + 1, and 1 + 1
abbrev pub span_stays_the_whole_time : WorkedRow
span_stays_the_whole_time = record {
  image =
      (0x03 ∷ 0x04 ∷ 0x00 ∷ 0x19 ∷ 0x00 ∷ 0x05 ∷ 0x03 ∷ 0x16 ∷ 0x00 ∷ 0x01 ∷ 0x01 ∷ 0x05 ∷ 0x00 ∷ []) ++ shares_above
      ++ (0x08 ∷ 0x02 ∷ 0x03 ∷ 0x00 ∷ 0x01 ∷ 0x04 ∷ 0x04 ∷ 0x00 ∷ 0x0A ∷ 0x04 ∷ 0x01 ∷ 0x00 ∷ 0x02 ∷ 0x03 ∷ 0x03 ∷ 0x04 ∷ [])
      ++ (0x02 ∷ 0x03 ∷ 0x03 ∷ 0x01 ∷ 0x0D ∷ 0x03 ∷ []) ++ loading;
  cores = 1;
  allowance = 100;
  entries = replicate 17 (Step 0);
  log = replicate 17 0;
  outcome = finished 105;
  units = 31;
  memory = 0 ∷ 0 ∷ 0 ∷ 35 ∷ [];
  statuses = none_left;
}

-- a cut leaves the read span as it is: the child cuts at 33, and at 34 it meets 10: thread 1, at byte 13 + 25 + 5. Units: 12, the child's 6, and its
-- child's 2 + 1
abbrev pub loads_nothing_between_behind_a_cut : WorkedRow
loads_nothing_between_behind_a_cut = record {
  image =
      (0x03 ∷ 0x04 ∷ 0x00 ∷ 0x19 ∷ 0x00 ∷ 0x04 ∷ 0x03 ∷ 0x0B ∷ 0x00 ∷ 0x01 ∷ 0x01 ∷ 0x05 ∷ 0x00 ∷ []) ++ shares_above
      ++ (0x08 ∷ 0x02 ∷ 0x03 ∷ 0x00 ∷ 0x01 ∷ 0x04 ∷ 0x01 ∷ 0x02 ∷ 0x0A ∷ 0x0D ∷ 0x03 ∷ []) ++ loading;
  cores = 1;
  allowance = 100;
  entries = replicate 10 (Step 0);
  log = replicate 9 0 ++ (10 ∷ []);
  outcome = faulted 10 1 43;
  units = 21;
  memory = 0 ∷ 0 ∷ 0 ∷ 35 ∷ [];
  statuses = Lent ∷ Running ∷ Free ∷ Free ∷ [];
}

-- so does a join: behind it the child meets 10 at 34: thread 1, at byte 9 + 25 + 1. Units: 12, and the child's 1
abbrev pub loads_nothing_between_behind_its_join : WorkedRow
loads_nothing_between_behind_its_join = record {
  image =
      (0x02 ∷ 0x04 ∷ 0x00 ∷ 0x19 ∷ 0x00 ∷ 0x04 ∷ 0x03 ∷ 0x06 ∷ 0x00 ∷ []) ++ shares_above ++ (0x0A ∷ 0x04 ∷ 0x03 ∷ 0x02 ∷ 0x0D ∷ 0x03 ∷ []);
  cores = 1;
  allowance = 100;
  entries = replicate 8 (Step 0);
  log = replicate 7 0 ++ (10 ∷ []);
  outcome = faulted 10 1 35;
  units = 13;
  memory = 0 ∷ 0 ∷ 0 ∷ 35 ∷ [];
  statuses = Lent ∷ Running ∷ Free ∷ Free ∷ [];
}

abbrev pub nested_span_rows : List WorkedRow
nested_span_rows =
    child_hands_its_span_on ∷ grandchild_loads_nothing_between ∷ child_shares_no_word ∷ child_shares_its_own
    ∷ grandchild_loads_the_childs ∷ not_past_the_childs_hi ∷ sharer_keeps_its_span ∷ sharer_loads_nothing_between
    ∷ child_hands_it_on_behind_its_join ∷ span_stays_the_whole_time ∷ loads_nothing_between_behind_a_cut
    ∷ loads_nothing_between_behind_its_join ∷ []
