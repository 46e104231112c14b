-- T-12: "an image without 09, 0B and 0C": its only forks are lforks, and none of its commands suspends or yields. These are the commands by
-- which a lone core would leave a thread in use that neither runs nor is lent.
use Rattle.std.specs.Prelude.{Bool, true, false, ◌||◌, List, ◌≡◌, ℕ, ◌+◌, ◌<◌, eqb, get_or}
use Rattle.image.specs.Layout.{routine_count, start_of, code_of}
use Rattle.image.specs.Code.{commands_of, is_start}

-- "09, 0B and 0C": fork, suspend and yield
abbrev pub is_excluded : ℕ → Bool
is_excluded byte = eqb byte 0x09 || (eqb byte 0x0B || eqb byte 0x0C)

-- as commands: at each command's start, in each routine, reached or not; a byte of an operand may be any
abbrev pub LforksOnly : List ℕ → Type 0
LforksOnly image = (r p : ℕ) → r < routine_count image → is_start (commands_of (code_of image r)) p ≡ true
    → is_excluded (get_or image (start_of image r + p) 0) ≡ false
