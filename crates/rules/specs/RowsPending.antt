-- Worked rows: each command that reads or writes a pending slot (document 01, "9: a pending slot read or written (a fork writes its d)", "12:
-- return with pending slots").
use Rattle.std.specs.Prelude.{List, [], ◌∷◌, ◌++◌, ℕ, ◌+◌, length}
use Rattle.schedule.specs.declared.Entry.TheVariants.{Step}
use Rattle.thread.specs.declared.Status.TheVariants.{Free, Running}
use Rattle.rules.specs.State.{faulted}
use Rattle.rules.specs.Row.{WorkedRow, untouched, nought}

-- routine 0, of sixteen slots, puts the cut, 32, into slot 15, lforks routine 1 to slot d, and goes on with a command and a return; its child
-- has returned when the command, at byte 13 + 9, meets a number. Routine 2 has an argument. Units: 1 + 6, and the child's 1
abbrev pub behind_an_lfork : ℕ → List ℕ → ℕ → WorkedRow
behind_an_lfork d command number = record {
  image =
      (0x03 ∷ 0x10 ∷ 0x00 ∷ (length command + 11) ∷ 0x00 ∷ 0x01 ∷ 0x00 ∷ 0x02 ∷ 0x00 ∷ 0x01 ∷ 0x01 ∷ 0x02 ∷ 0x00 ∷ [])
      ++ (0x01 ∷ 0x0F ∷ 0x20 ∷ 0x00 ∷ 0x08 ∷ 0x01 ∷ d ∷ 0x00 ∷ 0x0F ∷ []) ++ command ++ nought ++ nought ++ nought;
  cores = 1;
  allowance = 100;
  entries = Step 0 ∷ Step 0 ∷ Step 0 ∷ Step 0 ∷ [];
  log = 0 ∷ 0 ∷ 0 ∷ number ∷ [];
  outcome = faulted number 0 22;
  units = 8;
  memory = untouched;
  statuses = Running ∷ Free ∷ Free ∷ Free ∷ [];
}

-- "A forked result slot is pending": slots 0 and 1 are, both at once, and 06 reads the first, at byte 9 + 14. Units: 1, and twice 6 + 1
abbrev pub two_are_pending : WorkedRow
two_are_pending = record {
  image =
      (0x02 ∷ 0x03 ∷ 0x00 ∷ 0x14 ∷ 0x00 ∷ 0x01 ∷ 0x00 ∷ 0x02 ∷ 0x00 ∷ [])
      ++ (0x01 ∷ 0x02 ∷ 0x20 ∷ 0x00 ∷ 0x08 ∷ 0x01 ∷ 0x00 ∷ 0x00 ∷ 0x02 ∷ 0x08 ∷ 0x01 ∷ 0x01 ∷ 0x00 ∷ 0x02 ∷ [])
      ++ (0x06 ∷ 0x00 ∷ 0x00 ∷ 0x00 ∷ 0x0D ∷ 0x00 ∷ []) ++ nought;
  cores = 1;
  allowance = 100;
  entries = Step 0 ∷ Step 0 ∷ Step 0 ∷ Step 0 ∷ Step 0 ∷ Step 0 ∷ [];
  log = 0 ∷ 0 ∷ 0 ∷ 0 ∷ 0 ∷ 9 ∷ [];
  outcome = faulted 9 0 23;
  units = 15;
  memory = untouched;
  statuses = Running ∷ Free ∷ Free ∷ Free ∷ [];
}

abbrev pub pending_rows : List WorkedRow
pending_rows =
    -- 01 d v(2): slot 1 is pending, and is d
    behind_an_lfork 1 (0x01 ∷ 0x01 ∷ 0x05 ∷ 0x00 ∷ []) 9
    -- 02 and 03 d, a, b: it is each of them in turn
    ∷ behind_an_lfork 1 (0x02 ∷ 0x01 ∷ 0x00 ∷ 0x00 ∷ []) 9
    ∷ behind_an_lfork 1 (0x02 ∷ 0x00 ∷ 0x01 ∷ 0x00 ∷ []) 9
    ∷ behind_an_lfork 1 (0x02 ∷ 0x00 ∷ 0x00 ∷ 0x01 ∷ []) 9
    ∷ behind_an_lfork 1 (0x03 ∷ 0x01 ∷ 0x00 ∷ 0x00 ∷ []) 9
    ∷ behind_an_lfork 1 (0x03 ∷ 0x00 ∷ 0x01 ∷ 0x00 ∷ []) 9
    ∷ behind_an_lfork 1 (0x03 ∷ 0x00 ∷ 0x00 ∷ 0x01 ∷ []) 9
    -- 04 d, a; and 05 a, b, where slot 0, which is 0, would be an address that is not allowed: 9 comes before 10
    ∷ behind_an_lfork 1 (0x04 ∷ 0x01 ∷ 0x00 ∷ []) 9
    ∷ behind_an_lfork 1 (0x04 ∷ 0x00 ∷ 0x01 ∷ []) 9
    ∷ behind_an_lfork 1 (0x05 ∷ 0x01 ∷ 0x00 ∷ []) 9
    ∷ behind_an_lfork 1 (0x05 ∷ 0x00 ∷ 0x01 ∷ []) 9
    -- 06 a, t(2)
    ∷ behind_an_lfork 1 (0x06 ∷ 0x01 ∷ 0x00 ∷ 0x00 ∷ []) 9
    -- 08 and 09 r, d, a, w: it is d, w, and the argument of routine 2
    ∷ behind_an_lfork 1 (0x08 ∷ 0x01 ∷ 0x01 ∷ 0x00 ∷ 0x0F ∷ []) 9
    ∷ behind_an_lfork 1 (0x08 ∷ 0x01 ∷ 0x00 ∷ 0x00 ∷ 0x01 ∷ []) 9
    ∷ behind_an_lfork 1 (0x08 ∷ 0x02 ∷ 0x00 ∷ 0x01 ∷ 0x0F ∷ []) 9
    ∷ behind_an_lfork 1 (0x09 ∷ 0x01 ∷ 0x01 ∷ 0x00 ∷ 0x0F ∷ []) 9
    ∷ behind_an_lfork 1 (0x09 ∷ 0x01 ∷ 0x00 ∷ 0x00 ∷ 0x01 ∷ []) 9
    ∷ behind_an_lfork 1 (0x09 ∷ 0x02 ∷ 0x00 ∷ 0x01 ∷ 0x0F ∷ []) 9
    -- 0D a: slot 15, the last, is pending, and slot 0 is returned
    ∷ behind_an_lfork 15 (0x0D ∷ 0x00 ∷ []) 12
    -- 0E a, where slot 1, which is 0, would be out of range: 9 comes before 31
    ∷ behind_an_lfork 1 (0x0E ∷ 0x01 ∷ []) 9
    ∷ two_are_pending
    ∷ []
