-- Worked rows: the ready queue, thread numbers and stacklets (document 01, "Tables").
use Rattle.std.specs.Prelude.{List, [], ◌∷◌, ◌++◌, replicate}
use Rattle.schedule.specs.declared.Entry.TheVariants.{Step, Take, Steal, Enable}
use Rattle.thread.specs.declared.Status.TheVariants.{Free, Running, Ready, Lent}
use Rattle.rules.specs.State.{going, finished}
use Rattle.rules.specs.Row.{WorkedRow, untouched, none_left, nought, resting, calls, calls_two, forks_two, fifteen_forks, from_fifteen}

-- "joins the ready line's tail", "take the ready line's head": the ready queue is 1 and 2. Core 1 takes 1, which suspends, so 2 is not
-- suspended (17) and 1 is; enabled, it stands behind 2. Core 1 takes 2, which suspends, so now 1 is not suspended (17). Units: 1 + 12 + 12,
-- twice 3 + 1, and 1 + 1
abbrev pub ready_first_in_first_out : WorkedRow
ready_first_in_first_out = record {
  image = (0x02 ∷ 0x03 ∷ 0x00 ∷ 0x11 ∷ 0x00 ∷ 0x01 ∷ 0x00 ∷ 0x03 ∷ 0x00 ∷ []) ++ forks_two ++ resting;
  cores = 2;
  allowance = 100;
  entries =
      Step 0 ∷ Step 0 ∷ Step 0 ∷ Take 1 ∷ Step 1 ∷ Enable 2 ∷ Enable 1 ∷ Take 1 ∷ Step 1 ∷ Enable 1 ∷ Enable 2 ∷ Step 0 ∷ Take 0
      ∷ Step 0 ∷ Take 0 ∷ Step 0 ∷ Take 0 ∷ Step 0 ∷ Step 0 ∷ [];
  log = 0 ∷ 0 ∷ 0 ∷ 0 ∷ 0 ∷ 17 ∷ 0 ∷ 0 ∷ 0 ∷ 17 ∷ 0 ∷ 0 ∷ 0 ∷ 0 ∷ 0 ∷ 0 ∷ 0 ∷ 0 ∷ 0 ∷ [];
  outcome = finished 0;
  units = 35;
  memory = untouched;
  statuses = none_left;
}

-- "Free thread numbers .. each stand in a line, at first ascending: taken at the head, given back at the tail": the first child is thread 1
-- and returns; the second is thread 2, not 1 again, so that 1 is not suspended (17) and 2 is. Units: 1, 6 + 1, 6 + 3 + 1, and 1 + 1
abbrev pub numbers_are_given_back_at_the_tail : WorkedRow
numbers_are_given_back_at_the_tail = record {
  image =
      (0x03 ∷ 0x03 ∷ 0x00 ∷ 0x11 ∷ 0x00 ∷ 0x01 ∷ 0x00 ∷ 0x02 ∷ 0x00 ∷ 0x01 ∷ 0x00 ∷ 0x03 ∷ 0x00 ∷ []) ++ calls_two 1 2 ++ nought
      ++ resting;
  cores = 1;
  allowance = 100;
  entries = Step 0 ∷ Step 0 ∷ Step 0 ∷ Step 0 ∷ Step 0 ∷ Enable 1 ∷ Enable 2 ∷ Step 0 ∷ Take 0 ∷ Step 0 ∷ Take 0 ∷ Step 0 ∷ Step 0 ∷ [];
  log = 0 ∷ 0 ∷ 0 ∷ 0 ∷ 0 ∷ 17 ∷ 0 ∷ 0 ∷ 0 ∷ 0 ∷ 0 ∷ 0 ∷ 0 ∷ [];
  outcome = finished 0;
  units = 20;
  memory = untouched;
  statuses = none_left;
}

-- "20: no free thread number": a routine that calls itself. Thirty-one children have the numbers 1 to 31, and the last one's lfork meets 20,
-- each time. Units: 32 times 1, and 31 times 6
abbrev pub thread_numbers_run_out : WorkedRow
thread_numbers_run_out = record {
  image = (0x01 ∷ 0x02 ∷ 0x00 ∷ 0x0C ∷ 0x00 ∷ []) ++ calls 0;
  cores = 1;
  allowance = 300;
  entries = replicate 65 (Step 0);
  log = replicate 63 0 ++ (20 ∷ 20 ∷ []);
  outcome = going;
  units = 218;
  memory = untouched;
  statuses = Lent ∷ Lent ∷ Lent ∷ Lent ∷ [];
}

-- "goes above its parent's frame when an lfork makes it, .. otherwise on a free stacklet": thread 1, called, comes and goes above the root's
-- frame, whose stacklet is not free then. Fifteen 09s take the fifteen free stacklets, and a sixteenth meets 21 though 48 words are free above
-- the root's frame. "A stacklet is free again when its last frame goes": thread 2 returns, and the fork passes. Units: 1 + 6 + 1 + 1, 1 + 15
-- times 12, 1, and 12
abbrev pub stacklets_run_out : WorkedRow
stacklets_run_out = record {
  image =
      (0x02 ∷ 0x10 ∷ 0x00 ∷ 0x61 ∷ 0x00 ∷ 0x01 ∷ 0x00 ∷ 0x02 ∷ 0x00 ∷ [])
      ++ (0x01 ∷ 0x0F ∷ 0x20 ∷ 0x00 ∷ 0x08 ∷ 0x01 ∷ 0x00 ∷ 0x00 ∷ 0x0F ∷ 0x0A ∷ []) ++ fifteen_forks
      ++ (0x09 ∷ 0x01 ∷ 0x0F ∷ 0x00 ∷ 0x0F ∷ 0x0A ∷ 0x0D ∷ 0x00 ∷ []) ++ nought;
  cores = 2;
  allowance = 300;
  entries = replicate 21 (Step 0) ++ (Take 1 ∷ Step 1 ∷ Step 0 ∷ []);
  log = replicate 20 0 ++ (21 ∷ 0 ∷ 0 ∷ 0 ∷ []);
  outcome = going;
  units = 203;
  memory = untouched;
  statuses = Running ∷ Free ∷ Free ∷ Ready ∷ [];
}

-- "return: .. frame and thread number are freed": with no stacklet free, thread 16 stands above the root and calls a child of one word, which
-- returns, and another, which goes where the first was. Units: 1 + 15 times 12, 6, 1, and twice 6 + 1
abbrev pub frame_goes_with_its_thread : WorkedRow
frame_goes_with_its_thread = record {
  image =
      (0x03 ∷ 0x10 ∷ 0x00 ∷ 0x57 ∷ 0x00 ∷ 0x01 ∷ 0x00 ∷ 0x02 ∷ 0x00 ∷ 0x03 ∷ 0x00 ∷ 0x11 ∷ 0x00 ∷ []) ++ fifteen_forks
      ++ (0x08 ∷ 0x02 ∷ 0x0F ∷ 0x00 ∷ 0x0F ∷ 0x0A ∷ 0x0D ∷ 0x00 ∷ []) ++ nought ++ calls_two 1 1;
  cores = 1;
  allowance = 300;
  entries = replicate 22 (Step 0);
  log = replicate 22 0;
  outcome = going;
  units = 202;
  memory = untouched;
  statuses = Lent ∷ Ready ∷ Ready ∷ Ready ∷ [];
}

-- "goes above its parent's frame when an lfork makes it, the parent's frame is topmost there and it fits", "64 words": with no stacklet free,
-- frames of 16 words go above the root's 16, up to 64 words; a frame of one word more meets 21, until a child has returned. Units: 1 + 15
-- times 12, then 6, 1 + 6, 1 + 6, 1; the other child's 1, and 6
abbrev pub frames_fill_a_stacklet : WorkedRow
frames_fill_a_stacklet = record {
  image =
      (0x05 ∷ 0x10 ∷ 0x00 ∷ 0x57 ∷ 0x00 ∷ 0x01 ∷ 0x00 ∷ 0x02 ∷ 0x00 ∷ 0x10 ∷ 0x00 ∷ 0x0C ∷ 0x00 ∷ 0x10 ∷ 0x00 ∷ 0x0C ∷ 0x00 ∷ [])
      ++ (0x10 ∷ 0x00 ∷ 0x0C ∷ 0x00 ∷ []) ++ fifteen_forks ++ (0x08 ∷ 0x02 ∷ 0x0F ∷ 0x00 ∷ 0x0F ∷ 0x0A ∷ 0x0D ∷ 0x00 ∷ [])
      ++ nought ++ from_fifteen 3 ++ from_fifteen 4 ++ from_fifteen 1;
  cores = 2;
  allowance = 300;
  entries = replicate 23 (Step 0) ++ (Take 1 ∷ Step 1 ∷ Step 0 ∷ []);
  log = replicate 22 0 ++ (21 ∷ 0 ∷ 0 ∷ 0 ∷ []);
  outcome = going;
  units = 209;
  memory = untouched;
  statuses = Lent ∷ Free ∷ Ready ∷ Ready ∷ [];
}

-- the same on another stacklet than the root's: with no stacklet free, thread 1's child goes above thread 1, on stacklet 1, so that the root's frame
-- is still topmost and its child passes. When stacklet 0 is full, thread 1's next child goes on stacklet 1 too. Units: 1 + 15 times 12, thread 1's
-- 1 + 6, then 6, 1 + 6, 1 + 6, and 1 and 6
abbrev pub frames_on_another_stacklet : WorkedRow
frames_on_another_stacklet = record {
  image =
      (0x06 ∷ 0x10 ∷ 0x00 ∷ 0x57 ∷ 0x00 ∷ 0x03 ∷ 0x00 ∷ 0x11 ∷ 0x00 ∷ 0x10 ∷ 0x00 ∷ 0x0C ∷ 0x00 ∷ 0x10 ∷ 0x00 ∷ 0x0C ∷ 0x00 ∷ [])
      ++ (0x10 ∷ 0x00 ∷ 0x02 ∷ 0x00 ∷ 0x01 ∷ 0x00 ∷ 0x02 ∷ 0x00 ∷ []) ++ fifteen_forks
      ++ (0x08 ∷ 0x02 ∷ 0x0F ∷ 0x00 ∷ 0x0F ∷ 0x0A ∷ 0x0D ∷ 0x00 ∷ []) ++ calls_two 5 5 ++ from_fifteen 3 ++ from_fifteen 4
      ++ nought ++ nought;
  cores = 2;
  allowance = 300;
  entries = replicate 16 (Step 0) ++ (Take 1 ∷ Step 1 ∷ Step 1 ∷ []) ++ replicate 5 (Step 0) ++ (Step 1 ∷ Step 1 ∷ []);
  log = replicate 26 0;
  outcome = going;
  units = 215;
  memory = untouched;
  statuses = Lent ∷ Lent ∷ Ready ∷ Ready ∷ [];
}

-- "steal: .. on a free stacklet": with no stacklet free, thread 18's three words end at word 51 of stacklet 0. Its first child, of 16 words,
-- does not fit (21), and once thread 1 has returned goes on the free stacklet. Thread 18 is lent, its frame topmost, and its second child of
-- one word would fit: the steal meets 21, until thread 2 has returned. Units: 1 + 15 times 12, then 6, 1 + 6, 1 + 6, 1; then 1, 6, 1 and 6
abbrev pub stolen_frame_needs_a_stacklet : WorkedRow
stolen_frame_needs_a_stacklet = record {
  image =
      (0x06 ∷ 0x10 ∷ 0x00 ∷ 0x57 ∷ 0x00 ∷ 0x01 ∷ 0x00 ∷ 0x02 ∷ 0x00 ∷ 0x10 ∷ 0x00 ∷ 0x0C ∷ 0x00 ∷ 0x10 ∷ 0x00 ∷ 0x0C ∷ 0x00 ∷ [])
      ++ (0x03 ∷ 0x00 ∷ 0x11 ∷ 0x00 ∷ 0x10 ∷ 0x00 ∷ 0x02 ∷ 0x00 ∷ []) ++ fifteen_forks
      ++ (0x08 ∷ 0x02 ∷ 0x0F ∷ 0x00 ∷ 0x0F ∷ 0x0A ∷ 0x0D ∷ 0x00 ∷ []) ++ nought ++ from_fifteen 3 ++ from_fifteen 4
      ++ calls_two 5 1 ++ nought;
  cores = 2;
  allowance = 300;
  entries = replicate 23 (Step 0) ++ (Take 1 ∷ Step 1 ∷ Step 0 ∷ Steal 1 18 ∷ Take 1 ∷ Step 1 ∷ Steal 1 18 ∷ []);
  log = replicate 22 0 ++ (21 ∷ 0 ∷ 0 ∷ 0 ∷ 21 ∷ 0 ∷ 0 ∷ 0 ∷ []);
  outcome = going;
  units = 216;
  memory = untouched;
  statuses = Lent ∷ Free ∷ Free ∷ Ready ∷ [];
}

-- "Putting a new child above a suspended child's frame because the parent 'owns' the stacklet" (a slip): child 1 is above the root and
-- suspends; child 2 must not go above it. It sets its slot to 7 and suspends. Child 1 returns, and child 3's two words go above the root,
-- where child 1's word was and a wrong child 2's next to it. Child 2 returns 7. Units: 1, 6 + 3 + 1, 6 + 1 + 3 + 1, 6 + 1, and 1 + 1
abbrev pub not_above_a_suspended_child : WorkedRow
not_above_a_suspended_child = record {
  image =
      (0x04 ∷ 0x04 ∷ 0x00 ∷ 0x16 ∷ 0x00 ∷ 0x01 ∷ 0x00 ∷ 0x03 ∷ 0x00 ∷ 0x01 ∷ 0x00 ∷ 0x07 ∷ 0x00 ∷ 0x02 ∷ 0x00 ∷ 0x02 ∷ 0x00 ∷ [])
      ++ (0x01 ∷ 0x03 ∷ 0x20 ∷ 0x00 ∷ 0x08 ∷ 0x01 ∷ 0x00 ∷ 0x00 ∷ 0x03 ∷ 0x08 ∷ 0x02 ∷ 0x01 ∷ 0x00 ∷ 0x03 ∷ [])
      ++ (0x08 ∷ 0x03 ∷ 0x02 ∷ 0x00 ∷ 0x03 ∷ 0x0A ∷ 0x0D ∷ 0x01 ∷ []) ++ resting
      ++ (0x01 ∷ 0x00 ∷ 0x07 ∷ 0x00 ∷ 0x0B ∷ 0x0D ∷ 0x00 ∷ []) ++ nought;
  cores = 2;
  allowance = 100;
  entries =
      Step 0 ∷ Step 0 ∷ Step 0 ∷ Step 0 ∷ Step 0 ∷ Step 0 ∷ Enable 1 ∷ Take 1 ∷ Step 1 ∷ Step 0 ∷ Step 0 ∷ Enable 2 ∷ Take 1 ∷ Step 1
      ∷ Step 0 ∷ Step 0 ∷ [];
  log = replicate 16 0;
  outcome = finished 7;
  units = 31;
  memory = untouched;
  statuses = none_left;
}

abbrev pub table_rows : List WorkedRow
table_rows =
    ready_first_in_first_out ∷ numbers_are_given_back_at_the_tail ∷ thread_numbers_run_out ∷ stacklets_run_out ∷ frame_goes_with_its_thread
    ∷ frames_fill_a_stacklet ∷ frames_on_another_stacklet ∷ stolen_frame_needs_a_stacklet ∷ not_above_a_suspended_child ∷ []
