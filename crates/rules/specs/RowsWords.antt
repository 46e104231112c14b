-- Worked rows: a frame's words are cleared when it is given back, and no others (T-02). A wrong rule leaves a word of a frame that is gone, or
-- clears one of a frame that stands.
use Rattle.std.specs.Prelude.{List, [], ◌∷◌, ◌++◌, ℕ}
use Rattle.schedule.specs.declared.Entry.TheVariants.{Step, Take, Steal, Enable}
use Rattle.rules.specs.Row.{five, nought, calls, forks, calls_two, forks_two, from_fifteen}
use Rattle.rules.specs.WordsRow.{WordsRow, Passed, ◌holds◌, ◌leaving◌}

-- of two slots: sets them to 5 and 6, and returns 6
abbrev five_and_six : List ℕ
five_and_six = 0x01 ∷ 0x00 ∷ 0x05 ∷ 0x00 ∷ 0x01 ∷ 0x01 ∷ 0x06 ∷ 0x00 ∷ 0x0D ∷ 0x01 ∷ []

-- "The store, at Start all zero but routine 0's arguments": 7 and 8 are words 0 and 1 when an entry is refused (15). "A finished run then leaves
-- all 1,024 stacklet words zero": the root's return clears its three words, the arguments with them
abbrev pub roots_frame_is_cleared : WordsRow
roots_frame_is_cleared = record {
  image = (0x01 ∷ 0x03 ∷ 0x02 ∷ 0x06 ∷ 0x00 ∷ []) ++ (0x01 ∷ 0x02 ∷ 0x09 ∷ 0x00 ∷ 0x0D ∷ 0x00 ∷ []);
  cores = 1;
  allowance = 100;
  passed =
      Take 0 leaving (0 holds 7 ∷ 1 holds 8 ∷ [])
      ∷ Step 0 leaving (0 holds 7 ∷ 1 holds 8 ∷ 2 holds 9 ∷ [])
      ∷ Step 0 leaving []
      ∷ [];
}

-- "return: the value goes to the parent's result slot", and the frame that held it is cleared: the child's one word, 3, holds its argument 7 and
-- is returned to the root's slot 1. A frame that is cleared before its slot is read would give 0
abbrev pub value_is_read_before_the_frame_goes : WordsRow
value_is_read_before_the_frame_goes = record {
  image =
      (0x02 ∷ 0x03 ∷ 0x01 ∷ 0x0C ∷ 0x00 ∷ 0x01 ∷ 0x01 ∷ 0x02 ∷ 0x00 ∷ [])
      ++ (0x01 ∷ 0x02 ∷ 0x20 ∷ 0x00 ∷ 0x08 ∷ 0x01 ∷ 0x01 ∷ 0x00 ∷ 0x02 ∷ 0x0A ∷ 0x0D ∷ 0x01 ∷ []) ++ nought;
  cores = 1;
  allowance = 100;
  passed =
      Step 0 leaving (0 holds 7 ∷ 2 holds 32 ∷ [])
      ∷ Step 0 leaving (0 holds 7 ∷ 2 holds 32 ∷ 3 holds 7 ∷ [])
      ∷ Step 0 leaving (0 holds 7 ∷ 1 holds 7 ∷ 2 holds 32 ∷ [])
      ∷ Step 0 leaving (0 holds 7 ∷ 1 holds 7 ∷ 2 holds 32 ∷ [])
      ∷ Step 0 leaving []
      ∷ [];
}

-- "clears a frame's words as it gives them back": of three words, 0 to 2, the root calls a child of four, 3 to 6, and that a child of three, 7 to
-- 9, each "above its parent's frame", its arguments its parent's first slots. The last returns 5, to word 5: words 7 to 9 are cleared, and word 6
-- below them stays. Then its parent does, to word 2: words 3 to 6, which are more than the root has. Then the root: words 0 to 2
abbrev pub calls_give_their_frames_back : WordsRow
calls_give_their_frames_back = record {
  image =
      (0x03 ∷ 0x03 ∷ 0x01 ∷ 0x0C ∷ 0x00 ∷ 0x04 ∷ 0x02 ∷ 0x0C ∷ 0x00 ∷ 0x03 ∷ 0x01 ∷ 0x0A ∷ 0x00 ∷ [])
      ++ (0x01 ∷ 0x01 ∷ 0x20 ∷ 0x00 ∷ 0x08 ∷ 0x01 ∷ 0x02 ∷ 0x00 ∷ 0x01 ∷ 0x0A ∷ 0x0D ∷ 0x02 ∷ [])
      ++ (0x01 ∷ 0x03 ∷ 0x09 ∷ 0x00 ∷ 0x08 ∷ 0x02 ∷ 0x02 ∷ 0x00 ∷ 0x01 ∷ 0x0A ∷ 0x0D ∷ 0x02 ∷ [])
      ++ (0x01 ∷ 0x01 ∷ 0x05 ∷ 0x00 ∷ 0x01 ∷ 0x02 ∷ 0x06 ∷ 0x00 ∷ 0x0D ∷ 0x01 ∷ []);
  cores = 1;
  allowance = 100;
  passed =
      Step 0 leaving (0 holds 7 ∷ 1 holds 32 ∷ [])
      ∷ Step 0 leaving (0 holds 7 ∷ 1 holds 32 ∷ 3 holds 7 ∷ 4 holds 32 ∷ [])
      ∷ Step 0 leaving (0 holds 7 ∷ 1 holds 32 ∷ 3 holds 7 ∷ 4 holds 32 ∷ 6 holds 9 ∷ [])
      ∷ Step 0 leaving (0 holds 7 ∷ 1 holds 32 ∷ 3 holds 7 ∷ 4 holds 32 ∷ 6 holds 9 ∷ 7 holds 7 ∷ [])
      ∷ Step 0 leaving (0 holds 7 ∷ 1 holds 32 ∷ 3 holds 7 ∷ 4 holds 32 ∷ 6 holds 9 ∷ 7 holds 7 ∷ 8 holds 5 ∷ [])
      ∷ Step 0 leaving (0 holds 7 ∷ 1 holds 32 ∷ 3 holds 7 ∷ 4 holds 32 ∷ 6 holds 9 ∷ 7 holds 7 ∷ 8 holds 5 ∷ 9 holds 6 ∷ [])
      ∷ Step 0 leaving (0 holds 7 ∷ 1 holds 32 ∷ 3 holds 7 ∷ 4 holds 32 ∷ 5 holds 5 ∷ 6 holds 9 ∷ [])
      ∷ Step 0 leaving (0 holds 7 ∷ 1 holds 32 ∷ 3 holds 7 ∷ 4 holds 32 ∷ 5 holds 5 ∷ 6 holds 9 ∷ [])
      ∷ Step 0 leaving (0 holds 7 ∷ 1 holds 32 ∷ 2 holds 5 ∷ [])
      ∷ Step 0 leaving (0 holds 7 ∷ 1 holds 32 ∷ 2 holds 5 ∷ [])
      ∷ Step 0 leaving []
      ∷ [];
}

-- "in a run a free word is always zero", also on a stacklet that is in use: a 09's child has words 64 and 65 of stacklet 1, and calls one that has
-- words 66 and 67. This one returns 6, to word 64, and its words are cleared while stacklet 1 holds its parent's frame
abbrev pub stacklet_stays_in_use : WordsRow
stacklet_stays_in_use = record {
  image =
      (0x03 ∷ 0x02 ∷ 0x00 ∷ 0x0C ∷ 0x00 ∷ 0x02 ∷ 0x00 ∷ 0x0C ∷ 0x00 ∷ 0x02 ∷ 0x00 ∷ 0x0A ∷ 0x00 ∷ []) ++ forks 1 ++ calls 2 ++ five_and_six;
  cores = 2;
  allowance = 100;
  passed =
      Step 0 leaving (1 holds 32 ∷ [])
      ∷ Step 0 leaving (1 holds 32 ∷ [])
      ∷ Take 1 leaving (1 holds 32 ∷ [])
      ∷ Step 1 leaving (1 holds 32 ∷ 65 holds 32 ∷ [])
      ∷ Step 1 leaving (1 holds 32 ∷ 65 holds 32 ∷ [])
      ∷ Step 1 leaving (1 holds 32 ∷ 65 holds 32 ∷ 66 holds 5 ∷ [])
      ∷ Step 1 leaving (1 holds 32 ∷ 65 holds 32 ∷ 66 holds 5 ∷ 67 holds 6 ∷ [])
      ∷ Step 1 leaving (1 holds 32 ∷ 64 holds 6 ∷ 65 holds 32 ∷ [])
      ∷ Step 1 leaving (1 holds 32 ∷ 64 holds 6 ∷ 65 holds 32 ∷ [])
      ∷ Step 1 leaving (0 holds 6 ∷ 1 holds 32 ∷ [])
      ∷ Step 0 leaving (0 holds 6 ∷ 1 holds 32 ∷ [])
      ∷ Step 0 leaving []
      ∷ [];
}

-- "16 stacklets of 64 words": the root and four nested calls, of 16, 16, 16, 15 words and one, fill stacklet 0, and a 09's child has word 64, the
-- first of stacklet 1, which holds its argument 32. The last call's frame is word 63, and it sets it to 5
abbrev full_stacklet : List ℕ
full_stacklet =
    (0x06 ∷ 0x10 ∷ 0x00 ∷ 0x11 ∷ 0x00 ∷ 0x01 ∷ 0x01 ∷ 0x02 ∷ 0x00 ∷ 0x10 ∷ 0x00 ∷ 0x0C ∷ 0x00 ∷ [])
    ++ (0x10 ∷ 0x00 ∷ 0x0C ∷ 0x00 ∷ 0x0F ∷ 0x00 ∷ 0x11 ∷ 0x00 ∷ 0x01 ∷ 0x00 ∷ 0x06 ∷ 0x00 ∷ [])
    ++ (0x01 ∷ 0x0F ∷ 0x20 ∷ 0x00 ∷ 0x09 ∷ 0x01 ∷ 0x00 ∷ 0x0F ∷ 0x0F ∷ 0x08 ∷ 0x02 ∷ 0x01 ∷ 0x00 ∷ 0x0F ∷ 0x0A ∷ 0x0D ∷ 0x00 ∷ [])
    ++ nought ++ from_fifteen 3 ++ from_fifteen 4
    ++ (0x01 ∷ 0x0E ∷ 0x20 ∷ 0x00 ∷ 0x08 ∷ 0x05 ∷ 0x00 ∷ 0x00 ∷ 0x0E ∷ 0x08 ∷ 0x05 ∷ 0x01 ∷ 0x00 ∷ 0x0E ∷ 0x0A ∷ 0x0D ∷ 0x00 ∷ [])
    ++ five

abbrev filling : List Passed
filling =
    Step 0 leaving (15 holds 32 ∷ [])
    ∷ Step 0 leaving (15 holds 32 ∷ 64 holds 32 ∷ [])
    ∷ Step 0 leaving (15 holds 32 ∷ 64 holds 32 ∷ [])
    ∷ Step 0 leaving (15 holds 32 ∷ 31 holds 32 ∷ 64 holds 32 ∷ [])
    ∷ Step 0 leaving (15 holds 32 ∷ 31 holds 32 ∷ 64 holds 32 ∷ [])
    ∷ Step 0 leaving (15 holds 32 ∷ 31 holds 32 ∷ 47 holds 32 ∷ 64 holds 32 ∷ [])
    ∷ Step 0 leaving (15 holds 32 ∷ 31 holds 32 ∷ 47 holds 32 ∷ 64 holds 32 ∷ [])
    ∷ Step 0 leaving (15 holds 32 ∷ 31 holds 32 ∷ 47 holds 32 ∷ 62 holds 32 ∷ 64 holds 32 ∷ [])
    ∷ Step 0 leaving (15 holds 32 ∷ 31 holds 32 ∷ 47 holds 32 ∷ 62 holds 32 ∷ 64 holds 32 ∷ [])
    ∷ Step 0 leaving (15 holds 32 ∷ 31 holds 32 ∷ 47 holds 32 ∷ 62 holds 32 ∷ 63 holds 5 ∷ 64 holds 32 ∷ [])
    ∷ []

-- the last call returns 5, to word 48: word 63 is cleared, and word 64 right above it stays. The next call has word 63 again
abbrev pub word_above_the_frame_stays : WordsRow
word_above_the_frame_stays = record {
  image = full_stacklet;
  cores = 2;
  allowance = 100;
  passed =
      filling
      ++ (Step 0 leaving (15 holds 32 ∷ 31 holds 32 ∷ 47 holds 32 ∷ 48 holds 5 ∷ 62 holds 32 ∷ 64 holds 32 ∷ [])
      ∷ Step 0 leaving (15 holds 32 ∷ 31 holds 32 ∷ 47 holds 32 ∷ 48 holds 5 ∷ 62 holds 32 ∷ 64 holds 32 ∷ [])
      ∷ Step 0 leaving (15 holds 32 ∷ 31 holds 32 ∷ 47 holds 32 ∷ 48 holds 5 ∷ 62 holds 32 ∷ 63 holds 5 ∷ 64 holds 32 ∷ [])
      ∷ []);
}

-- the 09's child returns 32, to word 0: word 64 is cleared, and word 63 right below it stays
abbrev pub word_below_the_frame_stays : WordsRow
word_below_the_frame_stays = record {
  image = full_stacklet;
  cores = 2;
  allowance = 100;
  passed =
      filling
      ++ (Take 1 leaving (15 holds 32 ∷ 31 holds 32 ∷ 47 holds 32 ∷ 62 holds 32 ∷ 63 holds 5 ∷ 64 holds 32 ∷ [])
      ∷ Step 1 leaving (0 holds 32 ∷ 15 holds 32 ∷ 31 holds 32 ∷ 47 holds 32 ∷ 62 holds 32 ∷ 63 holds 5 ∷ [])
      ∷ []);
}

-- "otherwise on a free stacklet": two 09s have children on stacklets 1 and 2, words 64, 65 and 128, 129, which two cores take. The second returns
-- 6, to word 1: words 128 and 129 are cleared, and no others. Then the first does, to word 0
abbrev pub forked_children_give_their_stacklets_back : WordsRow
forked_children_give_their_stacklets_back = record {
  image = (0x02 ∷ 0x03 ∷ 0x00 ∷ 0x11 ∷ 0x00 ∷ 0x02 ∷ 0x00 ∷ 0x0A ∷ 0x00 ∷ []) ++ forks_two ++ five_and_six;
  cores = 3;
  allowance = 100;
  passed =
      Step 0 leaving (2 holds 32 ∷ [])
      ∷ Step 0 leaving (2 holds 32 ∷ [])
      ∷ Step 0 leaving (2 holds 32 ∷ [])
      ∷ Take 1 leaving (2 holds 32 ∷ [])
      ∷ Take 2 leaving (2 holds 32 ∷ [])
      ∷ Step 1 leaving (2 holds 32 ∷ 64 holds 5 ∷ [])
      ∷ Step 2 leaving (2 holds 32 ∷ 64 holds 5 ∷ 128 holds 5 ∷ [])
      ∷ Step 1 leaving (2 holds 32 ∷ 64 holds 5 ∷ 65 holds 6 ∷ 128 holds 5 ∷ [])
      ∷ Step 2 leaving (2 holds 32 ∷ 64 holds 5 ∷ 65 holds 6 ∷ 128 holds 5 ∷ 129 holds 6 ∷ [])
      ∷ Step 2 leaving (1 holds 6 ∷ 2 holds 32 ∷ 64 holds 5 ∷ 65 holds 6 ∷ [])
      ∷ Step 1 leaving (0 holds 6 ∷ 1 holds 6 ∷ 2 holds 32 ∷ [])
      ∷ Step 0 leaving (0 holds 6 ∷ 1 holds 6 ∷ 2 holds 32 ∷ [])
      ∷ Step 0 leaving []
      ∷ [];
}

-- "a waiting parent whose children have all ended joins the ready line": the root waits at its join, and its words stay. Its child of three slots
-- has words 64 to 66, the first its argument 7, and returns 6, to word 0. Then the root calls the same routine, on the argument 6: its frame is
-- words 2 to 4, above the root's, which is topmost on its stacklet as before
abbrev pub waiting_parent_keeps_its_frame : WordsRow
waiting_parent_keeps_its_frame = record {
  image =
      (0x02 ∷ 0x02 ∷ 0x01 ∷ 0x12 ∷ 0x00 ∷ 0x03 ∷ 0x01 ∷ 0x0A ∷ 0x00 ∷ [])
      ++ (0x01 ∷ 0x01 ∷ 0x20 ∷ 0x00 ∷ 0x09 ∷ 0x01 ∷ 0x00 ∷ 0x00 ∷ 0x01 ∷ 0x0A ∷ 0x08 ∷ 0x01 ∷ 0x00 ∷ 0x00 ∷ 0x01 ∷ 0x0A ∷ 0x0D ∷ 0x00 ∷ [])
      ++ (0x01 ∷ 0x01 ∷ 0x05 ∷ 0x00 ∷ 0x01 ∷ 0x02 ∷ 0x06 ∷ 0x00 ∷ 0x0D ∷ 0x02 ∷ []);
  cores = 1;
  allowance = 100;
  passed =
      Step 0 leaving (0 holds 7 ∷ 1 holds 32 ∷ [])
      ∷ Step 0 leaving (0 holds 7 ∷ 1 holds 32 ∷ 64 holds 7 ∷ [])
      ∷ Step 0 leaving (0 holds 7 ∷ 1 holds 32 ∷ 64 holds 7 ∷ [])
      ∷ Take 0 leaving (0 holds 7 ∷ 1 holds 32 ∷ 64 holds 7 ∷ [])
      ∷ Step 0 leaving (0 holds 7 ∷ 1 holds 32 ∷ 64 holds 7 ∷ 65 holds 5 ∷ [])
      ∷ Step 0 leaving (0 holds 7 ∷ 1 holds 32 ∷ 64 holds 7 ∷ 65 holds 5 ∷ 66 holds 6 ∷ [])
      ∷ Step 0 leaving (0 holds 6 ∷ 1 holds 32 ∷ [])
      ∷ Take 0 leaving (0 holds 6 ∷ 1 holds 32 ∷ [])
      ∷ Step 0 leaving (0 holds 6 ∷ 1 holds 32 ∷ [])
      ∷ Step 0 leaving (0 holds 6 ∷ 1 holds 32 ∷ 2 holds 6 ∷ [])
      ∷ Step 0 leaving (0 holds 6 ∷ 1 holds 32 ∷ 2 holds 6 ∷ 3 holds 5 ∷ [])
      ∷ Step 0 leaving (0 holds 6 ∷ 1 holds 32 ∷ 2 holds 6 ∷ 3 holds 5 ∷ 4 holds 6 ∷ [])
      ∷ Step 0 leaving (0 holds 6 ∷ 1 holds 32 ∷ [])
      ∷ Step 0 leaving (0 holds 6 ∷ 1 holds 32 ∷ [])
      ∷ Step 0 leaving []
      ∷ [];
}

-- "A connected thread that .. suspends .. is disconnected and its parent runs on this core": the child's words, 3 and 4, stand above the root's
-- while it is suspended, with 5 in word 4. So the second child goes on stacklet 1, and returns 9, to word 1: words 64 to 66 are cleared, and word
-- 4 stays. The root waits at its join; the first child is enabled and returns 5, to word 0: words 3 and 4 are cleared
abbrev pub suspended_child_keeps_its_frame : WordsRow
suspended_child_keeps_its_frame = record {
  image =
      (0x03 ∷ 0x03 ∷ 0x00 ∷ 0x11 ∷ 0x00 ∷ 0x02 ∷ 0x00 ∷ 0x07 ∷ 0x00 ∷ 0x03 ∷ 0x00 ∷ 0x0A ∷ 0x00 ∷ []) ++ calls_two 1 2
      ++ (0x01 ∷ 0x01 ∷ 0x05 ∷ 0x00 ∷ 0x0B ∷ 0x0D ∷ 0x01 ∷ [])
      ++ (0x01 ∷ 0x00 ∷ 0x06 ∷ 0x00 ∷ 0x01 ∷ 0x02 ∷ 0x09 ∷ 0x00 ∷ 0x0D ∷ 0x02 ∷ []);
  cores = 1;
  allowance = 100;
  passed =
      Step 0 leaving (2 holds 32 ∷ [])
      ∷ Step 0 leaving (2 holds 32 ∷ [])
      ∷ Step 0 leaving (2 holds 32 ∷ 4 holds 5 ∷ [])
      ∷ Step 0 leaving (2 holds 32 ∷ 4 holds 5 ∷ [])
      ∷ Step 0 leaving (2 holds 32 ∷ 4 holds 5 ∷ [])
      ∷ Step 0 leaving (2 holds 32 ∷ 4 holds 5 ∷ 64 holds 6 ∷ [])
      ∷ Step 0 leaving (2 holds 32 ∷ 4 holds 5 ∷ 64 holds 6 ∷ 66 holds 9 ∷ [])
      ∷ Step 0 leaving (1 holds 9 ∷ 2 holds 32 ∷ 4 holds 5 ∷ [])
      ∷ Step 0 leaving (1 holds 9 ∷ 2 holds 32 ∷ 4 holds 5 ∷ [])
      ∷ Enable 1 leaving (1 holds 9 ∷ 2 holds 32 ∷ 4 holds 5 ∷ [])
      ∷ Take 0 leaving (1 holds 9 ∷ 2 holds 32 ∷ 4 holds 5 ∷ [])
      ∷ Step 0 leaving (0 holds 5 ∷ 1 holds 9 ∷ 2 holds 32 ∷ [])
      ∷ Take 0 leaving (0 holds 5 ∷ 1 holds 9 ∷ 2 holds 32 ∷ [])
      ∷ Step 0 leaving (0 holds 5 ∷ 1 holds 9 ∷ 2 holds 32 ∷ [])
      ∷ Step 0 leaving []
      ∷ [];
}

-- "steal: .. its child independent and running on idle core c, on a free stacklet": the first child has words 3 and 4 and core 0; the stolen one
-- has words 64 and 65, and returns 6, to word 1, while the first child's words stay. The first returns 6, to word 0
abbrev pub stolen_child_gives_its_stacklet_back : WordsRow
stolen_child_gives_its_stacklet_back = record {
  image = (0x02 ∷ 0x03 ∷ 0x00 ∷ 0x11 ∷ 0x00 ∷ 0x02 ∷ 0x00 ∷ 0x0A ∷ 0x00 ∷ []) ++ calls_two 1 1 ++ five_and_six;
  cores = 2;
  allowance = 100;
  passed =
      Step 0 leaving (2 holds 32 ∷ [])
      ∷ Step 0 leaving (2 holds 32 ∷ [])
      ∷ Steal 1 0 leaving (2 holds 32 ∷ [])
      ∷ Step 0 leaving (2 holds 32 ∷ 3 holds 5 ∷ [])
      ∷ Step 1 leaving (2 holds 32 ∷ 3 holds 5 ∷ 64 holds 5 ∷ [])
      ∷ Step 0 leaving (2 holds 32 ∷ 3 holds 5 ∷ 4 holds 6 ∷ 64 holds 5 ∷ [])
      ∷ Step 1 leaving (2 holds 32 ∷ 3 holds 5 ∷ 4 holds 6 ∷ 64 holds 5 ∷ 65 holds 6 ∷ [])
      ∷ Step 1 leaving (1 holds 6 ∷ 2 holds 32 ∷ 3 holds 5 ∷ 4 holds 6 ∷ [])
      ∷ Step 0 leaving (0 holds 6 ∷ 1 holds 6 ∷ 2 holds 32 ∷ [])
      ∷ Step 0 leaving (0 holds 6 ∷ 1 holds 6 ∷ 2 holds 32 ∷ [])
      ∷ Step 0 leaving []
      ∷ [];
}

-- a fault "changes only that the machine is now over": the root's child, of words 2 to 4, forks one that has word 64, and returns with a pending
-- slot (12). The frames of all three keep their words, and so they do when the next entry is refused (19)
abbrev pub fault_keeps_the_frames : WordsRow
fault_keeps_the_frames = record {
  image =
      (0x03 ∷ 0x02 ∷ 0x00 ∷ 0x0C ∷ 0x00 ∷ 0x03 ∷ 0x00 ∷ 0x0F ∷ 0x00 ∷ 0x01 ∷ 0x01 ∷ 0x02 ∷ 0x00 ∷ []) ++ calls 1
      ++ (0x01 ∷ 0x02 ∷ 0x20 ∷ 0x00 ∷ 0x01 ∷ 0x01 ∷ 0x09 ∷ 0x00 ∷ 0x09 ∷ 0x02 ∷ 0x00 ∷ 0x01 ∷ 0x02 ∷ 0x0D ∷ 0x01 ∷ []) ++ nought;
  cores = 1;
  allowance = 100;
  passed =
      Step 0 leaving (1 holds 32 ∷ [])
      ∷ Step 0 leaving (1 holds 32 ∷ [])
      ∷ Step 0 leaving (1 holds 32 ∷ 4 holds 32 ∷ [])
      ∷ Step 0 leaving (1 holds 32 ∷ 3 holds 9 ∷ 4 holds 32 ∷ [])
      ∷ Step 0 leaving (1 holds 32 ∷ 3 holds 9 ∷ 4 holds 32 ∷ 64 holds 9 ∷ [])
      ∷ Step 0 leaving (1 holds 32 ∷ 3 holds 9 ∷ 4 holds 32 ∷ 64 holds 9 ∷ [])
      ∷ Step 0 leaving (1 holds 32 ∷ 3 holds 9 ∷ 4 holds 32 ∷ 64 holds 9 ∷ [])
      ∷ [];
}

-- "per entry, changing nothing": a return that passes the allowance (22) gives nothing back
abbrev pub refused_return_keeps_the_frame : WordsRow
refused_return_keeps_the_frame = record {
  image = (0x01 ∷ 0x01 ∷ 0x01 ∷ 0x02 ∷ 0x00 ∷ []) ++ nought;
  cores = 1;
  allowance = 0;
  passed = Step 0 leaving (0 holds 7 ∷ []) ∷ [];
}

abbrev pub words_rows : List WordsRow
words_rows =
    roots_frame_is_cleared ∷ value_is_read_before_the_frame_goes ∷ calls_give_their_frames_back ∷ stacklet_stays_in_use ∷ word_above_the_frame_stays
    ∷ word_below_the_frame_stays ∷ forked_children_give_their_stacklets_back ∷ waiting_parent_keeps_its_frame ∷ suspended_child_keeps_its_frame
    ∷ stolen_child_gives_its_stacklet_back ∷ fault_keeps_the_frames ∷ refused_return_keeps_the_frame ∷ []
