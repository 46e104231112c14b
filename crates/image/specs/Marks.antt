-- What the pass over a code keeps for number 8: a cell for each byte of the code, 1 where a command was met, 2 where a target is that
-- none was met at.
use Rattle.std.specs.Prelude.{Bool, true, false, ◌||◌, List, ◌≡◌, ℕ, ◌<◌, eqb, get_or, length, Result, Ok, Err}
use Rattle.command.specs.declared.Command.{Command}
use Rattle.image.specs.declared.Refusal.{Refusal}
use Rattle.image.specs.declared.code.Walked.{Walked}
use Rattle.image.specs.Code.{verdict_from, last_ends, commands_of, is_start, targets_good}

-- was a command met at byte t?
unfoldable pub marked : List ℕ → ℕ → Bool
marked marks t = eqb (get_or marks t 0) 1

-- nothing is marked yet
abbrev pub Blank : List ℕ → Type 0
Blank marks = (t : ℕ) → get_or marks t 0 ≡ 0

-- each byte that is still asked for is a start
abbrev pub Awaited : (ℕ → Bool) → List ℕ → Type 0
Awaited start marks = (t : ℕ) → get_or marks t 0 ≡ 2 → start t ≡ true

-- starts that are all inside the code, those among them that were met
pub record Inside (start : ℕ → Bool) (marks : List ℕ) : Type 0 where
  pub met : (t : ℕ) → marked marks t ≡ true → start t ≡ true
  pub within : (t : ℕ) → start t ≡ true → t < length marks

-- a target's test, which hangs on what the starts will be, is put down in the marks, or known to fail
pub record MarksAsked (test : (ℕ → Bool) → Bool) (before after : List ℕ) (inside : Bool) : Type 0 where
  pub size : length after ≡ length before
  pub kept : (t : ℕ) → marked after t ≡ marked before t
  pub put : (start : ℕ → Bool) → Inside start before → Awaited start before → test start ≡ true → (inside ≡ true) × Awaited start after
  pub back : (start : ℕ → Bool) → Inside start before → inside ≡ true → Awaited start after → Awaited start before × (test start ≡ true)

-- a cell that is left asked for
pub record Left (marks : List ℕ) : Type 0 where
  pub byte : ℕ
  pub asked : get_or marks byte 0 ≡ 2

pub record Met (marks : List ℕ) (answer : Bool) : Type 0 where
  pub all : answer ≡ true → (t : ℕ) → get_or marks t 0 ≡ 2 → ⊥
  pub left : answer ≡ false → Left marks

-- may the command with this first byte stand last, 07 or 0D?
abbrev pub may_end : ℕ → Bool
may_end byte = eqb byte 7 || eqb byte 13

-- what the pass finds where it accepts: the last command's test, the marks at just the commands' starts, and what 8 hangs on
pub record WalkPassed (in_range : Command → Bool) (code marks : List ℕ) (last : ℕ) (inside : Bool) : Type 0 where
  pub by : verdict_from in_range code (length code) 0 ≡ Ok tt
  pub end : may_end last ≡ last_ends false (commands_of code)
  pub starts : (t : ℕ) → marked marks t ≡ is_start (commands_of code) t
  pub put : targets_good (is_start (commands_of code)) (commands_of code) ≡ true → (inside ≡ true) × Awaited (is_start (commands_of code)) marks
  pub back : inside ≡ true → Awaited (is_start (commands_of code)) marks → targets_good (is_start (commands_of code)) (commands_of code) ≡ true

-- the pass, by 4, 5 and 6
abbrev pub WalkedBy : (Command → Bool) → List ℕ → List ℕ → Result Walked Refusal → Type 0
WalkedBy in_range code marks (Ok w) = WalkPassed in_range code marks w.last w.inside
WalkedBy in_range code marks (Err n) = verdict_from in_range code (length code) 0 ≡ Err n
