-- Worked rows: which shared words a child may load (document 02, T-04).
use Rattle.std.specs.Prelude.{List, [], ◌∷◌, ◌++◌, ℕ, replicate}
use Rattle.schedule.specs.declared.Entry.TheVariants.{Step, Take, Steal}
use Rattle.thread.specs.declared.Status.TheVariants.{Free, Running, Lent}
use Rattle.rules.specs.State.{finished, faulted}
use Rattle.rules.specs.Row.{WorkedRow, untouched, none_left, storing, loading}

-- loads the words at its two arguments, and returns their sum
abbrev loading_two : List ℕ
loading_two = 0x04 ∷ 0x00 ∷ 0x00 ∷ 0x04 ∷ 0x01 ∷ 0x01 ∷ 0x02 ∷ 0x00 ∷ 0x00 ∷ 0x01 ∷ 0x0D ∷ 0x00 ∷ []

-- "A child forked meanwhile may also load from s up to the parent's hi": the root stores 34 at 34 and shares from 34 on; the child's part is 32 to
-- 34, and it loads 34 there. Units: 1 + 2 + 1 + 6, the child's 2 + 1, and 1 + 1
abbrev pub shared_word_is_loaded : WorkedRow
shared_word_is_loaded = record {
  image =
      (0x02 ∷ 0x02 ∷ 0x00 ∷ 0x11 ∷ 0x00 ∷ 0x01 ∷ 0x01 ∷ 0x05 ∷ 0x00 ∷ [])
      ++ (0x01 ∷ 0x00 ∷ 0x22 ∷ 0x00 ∷ 0x05 ∷ 0x00 ∷ 0x00 ∷ 0x0E ∷ 0x00 ∷ 0x08 ∷ 0x01 ∷ 0x01 ∷ 0x00 ∷ 0x00 ∷ 0x0A ∷ 0x0D ∷ 0x01 ∷ []) ++ loading;
  cores = 1;
  allowance = 100;
  entries = replicate 8 (Step 0);
  log = replicate 8 0;
  outcome = finished 34;
  units = 15;
  memory = 0 ∷ 0 ∷ 34 ∷ 0 ∷ [];
  statuses = none_left;
}

-- "up to the parent's hi": the root stores 1,023 at 1,023 and shares from 34 on, and the child loads 1,023 there. Units: 1 + 2 + 1 + 1 + 6, the
-- child's 2 + 1, and 1 + 1
abbrev pub last_shared_word_is_loaded : WorkedRow
last_shared_word_is_loaded = record {
  image =
      (0x02 ∷ 0x03 ∷ 0x00 ∷ 0x15 ∷ 0x00 ∷ 0x01 ∷ 0x01 ∷ 0x05 ∷ 0x00 ∷ [])
      ++ (0x01 ∷ 0x00 ∷ 0xFF ∷ 0x03 ∷ 0x05 ∷ 0x00 ∷ 0x00 ∷ 0x01 ∷ 0x01 ∷ 0x22 ∷ 0x00 ∷ 0x0E ∷ 0x01 ∷ 0x08 ∷ 0x01 ∷ 0x02 ∷ 0x00 ∷ 0x01 ∷ [])
      ++ (0x0A ∷ 0x0D ∷ 0x02 ∷ []) ++ loading;
  cores = 1;
  allowance = 100;
  entries = replicate 9 (Step 0);
  log = replicate 9 0;
  outcome = finished 1023;
  units = 16;
  memory = untouched;
  statuses = none_left;
}

-- "from s": the child's part is 32 to 33, and 33 is neither in it nor shared (10): thread 1, at byte 9 + 18. Units: 1 + 1 + 1 + 6
abbrev pub word_before_them_is_not_loaded : WorkedRow
word_before_them_is_not_loaded = record {
  image =
      (0x02 ∷ 0x03 ∷ 0x00 ∷ 0x12 ∷ 0x00 ∷ 0x01 ∷ 0x01 ∷ 0x05 ∷ 0x00 ∷ [])
      ++ (0x01 ∷ 0x00 ∷ 0x22 ∷ 0x00 ∷ 0x01 ∷ 0x01 ∷ 0x21 ∷ 0x00 ∷ 0x0E ∷ 0x00 ∷ 0x08 ∷ 0x01 ∷ 0x02 ∷ 0x01 ∷ 0x01 ∷ 0x0A ∷ 0x0D ∷ 0x02 ∷ [])
      ++ loading;
  cores = 1;
  allowance = 100;
  entries = Step 0 ∷ Step 0 ∷ Step 0 ∷ Step 0 ∷ Step 0 ∷ [];
  log = 0 ∷ 0 ∷ 0 ∷ 0 ∷ 10 ∷ [];
  outcome = faulted 10 1 27;
  units = 9;
  memory = untouched;
  statuses = Lent ∷ Running ∷ Free ∷ Free ∷ [];
}

-- "may also load", and not store: the child meets 10 at 34: thread 1, at byte 9 + 14. Units: 1 + 1 + 6
abbrev pub shared_word_is_not_stored : WorkedRow
shared_word_is_not_stored = record {
  image =
      (0x02 ∷ 0x02 ∷ 0x00 ∷ 0x0E ∷ 0x00 ∷ 0x01 ∷ 0x01 ∷ 0x05 ∷ 0x00 ∷ [])
      ++ (0x01 ∷ 0x00 ∷ 0x22 ∷ 0x00 ∷ 0x0E ∷ 0x00 ∷ 0x08 ∷ 0x01 ∷ 0x01 ∷ 0x00 ∷ 0x00 ∷ 0x0A ∷ 0x0D ∷ 0x01 ∷ []) ++ storing;
  cores = 1;
  allowance = 100;
  entries = Step 0 ∷ Step 0 ∷ Step 0 ∷ Step 0 ∷ [];
  log = 0 ∷ 0 ∷ 0 ∷ 10 ∷ [];
  outcome = faulted 10 1 23;
  units = 8;
  memory = untouched;
  statuses = Lent ∷ Running ∷ Free ∷ Free ∷ [];
}

-- "if the parent shares no word, the child gets the parent's own read span": the root has met no 0E and has none, and the child does not load at its
-- cut: thread 1, at byte 9 + 12. Units: 1 + 6
abbrev pub nothing_is_shared : WorkedRow
nothing_is_shared = record {
  image =
      (0x02 ∷ 0x02 ∷ 0x00 ∷ 0x0C ∷ 0x00 ∷ 0x01 ∷ 0x01 ∷ 0x05 ∷ 0x00 ∷ [])
      ++ (0x01 ∷ 0x00 ∷ 0x22 ∷ 0x00 ∷ 0x08 ∷ 0x01 ∷ 0x01 ∷ 0x00 ∷ 0x00 ∷ 0x0A ∷ 0x0D ∷ 0x01 ∷ []) ++ loading;
  cores = 1;
  allowance = 100;
  entries = Step 0 ∷ Step 0 ∷ Step 0 ∷ [];
  log = 0 ∷ 0 ∷ 10 ∷ [];
  outcome = faulted 10 1 21;
  units = 7;
  memory = untouched;
  statuses = Lent ∷ Running ∷ Free ∷ Free ∷ [];
}

-- the same where the root's s is 1,024, its hi: the child does not load at 1,023: thread 1, at byte 9 + 22. Units: 1 + 1 + 1 + 1 + 6
abbrev pub no_word_is_shared : WorkedRow
no_word_is_shared = record {
  image =
      (0x02 ∷ 0x04 ∷ 0x00 ∷ 0x16 ∷ 0x00 ∷ 0x01 ∷ 0x01 ∷ 0x05 ∷ 0x00 ∷ [])
      ++ (0x01 ∷ 0x00 ∷ 0x00 ∷ 0x04 ∷ 0x0E ∷ 0x00 ∷ 0x01 ∷ 0x01 ∷ 0xFF ∷ 0x03 ∷ 0x01 ∷ 0x02 ∷ 0x20 ∷ 0x00 ∷ [])
      ++ (0x08 ∷ 0x01 ∷ 0x03 ∷ 0x01 ∷ 0x02 ∷ 0x0A ∷ 0x0D ∷ 0x03 ∷ []) ++ loading;
  cores = 1;
  allowance = 100;
  entries = Step 0 ∷ Step 0 ∷ Step 0 ∷ Step 0 ∷ Step 0 ∷ Step 0 ∷ [];
  log = 0 ∷ 0 ∷ 0 ∷ 0 ∷ 0 ∷ 10 ∷ [];
  outcome = faulted 10 1 31;
  units = 10;
  memory = untouched;
  statuses = Lent ∷ Running ∷ Free ∷ Free ∷ [];
}

-- "forked meanwhile", "Until the join": s is 34, and behind the join the root shares no word; the child, whose part is 32 to 33, meets 10: thread 1,
-- at byte 9 + 19. Units: 1 + 1 + 1 + 1 + 6
abbrev pub not_behind_the_join : WorkedRow
not_behind_the_join = record {
  image =
      (0x02 ∷ 0x03 ∷ 0x00 ∷ 0x13 ∷ 0x00 ∷ 0x01 ∷ 0x01 ∷ 0x05 ∷ 0x00 ∷ [])
      ++ (0x01 ∷ 0x00 ∷ 0x22 ∷ 0x00 ∷ 0x01 ∷ 0x01 ∷ 0x21 ∷ 0x00 ∷ 0x0E ∷ 0x00 ∷ 0x0A ∷ 0x08 ∷ 0x01 ∷ 0x02 ∷ 0x00 ∷ 0x01 ∷ 0x0A ∷ [])
      ++ (0x0D ∷ 0x02 ∷ []) ++ loading;
  cores = 1;
  allowance = 100;
  entries = Step 0 ∷ Step 0 ∷ Step 0 ∷ Step 0 ∷ Step 0 ∷ Step 0 ∷ [];
  log = 0 ∷ 0 ∷ 0 ∷ 0 ∷ 0 ∷ 10 ∷ [];
  outcome = faulted 10 1 28;
  units = 10;
  memory = untouched;
  statuses = Lent ∷ Running ∷ Free ∷ Free ∷ [];
}

-- "A child forked meanwhile may also load from s", from the second, lower one: s is 34 and then 33, and the child loads 34 and 33 there. It returns
-- their sum. Units: 1 + 1 + 2 + 2, 1 + 1 + 6, the child's 2 + 2 + 1 + 1, and 1 + 1
abbrev pub lower_share_gives_more : WorkedRow
lower_share_gives_more = record {
  image =
      (0x02 ∷ 0x03 ∷ 0x00 ∷ 0x1A ∷ 0x00 ∷ 0x02 ∷ 0x02 ∷ 0x0C ∷ 0x00 ∷ [])
      ++ (0x01 ∷ 0x00 ∷ 0x22 ∷ 0x00 ∷ 0x01 ∷ 0x01 ∷ 0x21 ∷ 0x00 ∷ 0x05 ∷ 0x01 ∷ 0x01 ∷ 0x05 ∷ 0x00 ∷ 0x00 ∷ 0x0E ∷ 0x00 ∷ 0x0E ∷ 0x01 ∷ [])
      ++ (0x08 ∷ 0x01 ∷ 0x02 ∷ 0x00 ∷ 0x01 ∷ 0x0A ∷ 0x0D ∷ 0x02 ∷ []) ++ loading_two;
  cores = 1;
  allowance = 100;
  entries = replicate 13 (Step 0);
  log = replicate 13 0;
  outcome = finished 67;
  units = 22;
  memory = 0 ∷ 33 ∷ 34 ∷ 0 ∷ [];
  statuses = none_left;
}

-- "from s" as it was when the child was forked: s is 34, and a second one, 33, behind the fork is not this child's. It loads 34 at 34; at 33 it
-- meets 10: thread 1, at byte 9 + 27 + 3. Units: 1 + 1 + 2 + 1 + 1 + 12 + 1, and the child's 2
abbrev pub forked_before_the_lower_share : WorkedRow
forked_before_the_lower_share = record {
  image =
      (0x02 ∷ 0x04 ∷ 0x00 ∷ 0x1B ∷ 0x00 ∷ 0x02 ∷ 0x02 ∷ 0x0C ∷ 0x00 ∷ [])
      ++ (0x01 ∷ 0x00 ∷ 0x22 ∷ 0x00 ∷ 0x01 ∷ 0x01 ∷ 0x21 ∷ 0x00 ∷ 0x05 ∷ 0x00 ∷ 0x00 ∷ 0x0E ∷ 0x00 ∷ 0x01 ∷ 0x02 ∷ 0x20 ∷ 0x00 ∷ [])
      ++ (0x09 ∷ 0x01 ∷ 0x03 ∷ 0x00 ∷ 0x02 ∷ 0x0E ∷ 0x01 ∷ 0x0A ∷ 0x0D ∷ 0x03 ∷ []) ++ loading_two;
  cores = 2;
  allowance = 100;
  entries = Step 0 ∷ Step 0 ∷ Step 0 ∷ Step 0 ∷ Step 0 ∷ Step 0 ∷ Step 0 ∷ Take 1 ∷ Step 1 ∷ Step 1 ∷ [];
  log = replicate 9 0 ++ (10 ∷ []);
  outcome = faulted 10 1 39;
  units = 21;
  memory = 0 ∷ 0 ∷ 34 ∷ 0 ∷ [];
  statuses = Running ∷ Running ∷ Free ∷ Free ∷ [];
}

-- "A child forked meanwhile": one forked before the root's 0E may not load from s on: thread 1, at byte 9 + 18. Units: 1 + 1 + 12 + 1
abbrev pub forked_before_the_share : WorkedRow
forked_before_the_share = record {
  image =
      (0x02 ∷ 0x03 ∷ 0x00 ∷ 0x12 ∷ 0x00 ∷ 0x01 ∷ 0x01 ∷ 0x05 ∷ 0x00 ∷ [])
      ++ (0x01 ∷ 0x00 ∷ 0x21 ∷ 0x00 ∷ 0x01 ∷ 0x01 ∷ 0x20 ∷ 0x00 ∷ 0x09 ∷ 0x01 ∷ 0x02 ∷ 0x00 ∷ 0x01 ∷ 0x0E ∷ 0x00 ∷ 0x0A ∷ 0x0D ∷ 0x02 ∷ [])
      ++ loading;
  cores = 2;
  allowance = 100;
  entries = Step 0 ∷ Step 0 ∷ Step 0 ∷ Step 0 ∷ Take 1 ∷ Step 1 ∷ [];
  log = 0 ∷ 0 ∷ 0 ∷ 0 ∷ 0 ∷ 10 ∷ [];
  outcome = faulted 10 1 27;
  units = 15;
  memory = untouched;
  statuses = Running ∷ Running ∷ Free ∷ Free ∷ [];
}

-- "Until the join", and a join that waits is met again: the root waits, and the forked child loads 35 at 35; then the join passes and the root
-- stores 9 there. Units: 1 + 2 + 1 + 1 + 12, the child's 2 + 1, and 1 + 1 + 2 + 1
abbrev pub waiting_root_shares : WorkedRow
waiting_root_shares = record {
  image =
      (0x02 ∷ 0x03 ∷ 0x00 ∷ 0x1C ∷ 0x00 ∷ 0x01 ∷ 0x01 ∷ 0x05 ∷ 0x00 ∷ [])
      ++ (0x01 ∷ 0x00 ∷ 0x23 ∷ 0x00 ∷ 0x05 ∷ 0x00 ∷ 0x00 ∷ 0x0E ∷ 0x00 ∷ 0x01 ∷ 0x01 ∷ 0x20 ∷ 0x00 ∷ 0x09 ∷ 0x01 ∷ 0x02 ∷ 0x00 ∷ 0x01 ∷ [])
      ++ (0x0A ∷ 0x01 ∷ 0x01 ∷ 0x09 ∷ 0x00 ∷ 0x05 ∷ 0x00 ∷ 0x01 ∷ 0x0D ∷ 0x02 ∷ []) ++ loading;
  cores = 1;
  allowance = 100;
  entries = Step 0 ∷ Step 0 ∷ Step 0 ∷ Step 0 ∷ Step 0 ∷ Step 0 ∷ Take 0 ∷ Step 0 ∷ Step 0 ∷ Take 0 ∷ Step 0 ∷ Step 0 ∷ Step 0 ∷ Step 0 ∷ [];
  log = replicate 14 0;
  outcome = finished 35;
  units = 25;
  memory = 0 ∷ 0 ∷ 0 ∷ 9 ∷ [];
  statuses = none_left;
}

-- "steal: carry out thread t's next command": the root shares from 35 on, and both the called child and the stolen one load 35 there. Units:
-- 1 + 2 + 1 + 1, 6 + 6, twice 2 + 1, and 1 + 1
abbrev pub stolen_child_loads_them : WorkedRow
stolen_child_loads_them = record {
  image =
      (0x02 ∷ 0x04 ∷ 0x00 ∷ 0x1A ∷ 0x00 ∷ 0x01 ∷ 0x01 ∷ 0x05 ∷ 0x00 ∷ [])
      ++ (0x01 ∷ 0x00 ∷ 0x23 ∷ 0x00 ∷ 0x05 ∷ 0x00 ∷ 0x00 ∷ 0x0E ∷ 0x00 ∷ 0x01 ∷ 0x01 ∷ 0x20 ∷ 0x00 ∷ 0x08 ∷ 0x01 ∷ 0x02 ∷ 0x00 ∷ 0x01 ∷ [])
      ++ (0x08 ∷ 0x01 ∷ 0x03 ∷ 0x00 ∷ 0x01 ∷ 0x0A ∷ 0x0D ∷ 0x03 ∷ []) ++ loading;
  cores = 2;
  allowance = 100;
  entries = Step 0 ∷ Step 0 ∷ Step 0 ∷ Step 0 ∷ Step 0 ∷ Steal 1 0 ∷ Step 1 ∷ Step 1 ∷ Step 0 ∷ Step 0 ∷ Step 0 ∷ Step 0 ∷ [];
  log = replicate 12 0;
  outcome = finished 35;
  units = 25;
  memory = 0 ∷ 0 ∷ 0 ∷ 35 ∷ [];
  statuses = none_left;
}

abbrev pub span_rows : List WorkedRow
span_rows =
    shared_word_is_loaded ∷ last_shared_word_is_loaded ∷ word_before_them_is_not_loaded ∷ shared_word_is_not_stored ∷ nothing_is_shared
    ∷ no_word_is_shared ∷ not_behind_the_join ∷ lower_share_gives_more ∷ forked_before_the_lower_share ∷ forked_before_the_share
    ∷ waiting_root_shares ∷ stolen_child_loads_them ∷ []
