-- The commands of one routine's code, and the tests of a code: document 01's numbers 4 to 8.
use Rattle.std.specs.Prelude.{Bool, true, false, cond, ◌&&◌, ◌||◌, List, [], ◌∷◌, ℕ, zero, suc, ◌+◌, leb, eqb, length, Result, Ok, Err}
use Rattle.command.specs.declared.Command.{Command}
use Rattle.command.specs.declared.Command.TheVariants.{Set, Add, Subtract, Load, Store, JumpIfZero, Jump, Lfork, Fork, Join, Suspend, Yield, Return, Share}
use Rattle.command.specs.declared.CommandError.{CommandError}
use Rattle.command.specs.declared.CommandError.TheVariants.{Unknown, CutOff}
use Rattle.command.specs.Command.{command_at}
use Rattle.image.specs.declared.Refusal.{Refusal}
use Rattle.image.specs.declared.Refusal.TheVariants.{UnknownByte, OperandsCutOff, OutOfRange, BadEnd, BadTarget}

-- a command and the position of its first byte in its routine's code
pub record Placed : Type 0 where
  pub at : ℕ
  pub command : Command

-- what a found command gives, or else a
abbrev pub when_found : {A : Type 0} → Result (Command × ℕ) CommandError → (Command → ℕ → A) → A → A
when_found (Ok (c, n)) f a = f c n
when_found (Err e) f a = a

-- the commands from a position on, one after the other, as far as they can be read, but no more than `most`
unfoldable pub commands_from : List ℕ → ℕ → ℕ → List Placed
commands_from code zero at = []
commands_from code (suc most) at = when_found (command_at code at) (λ c n. record { at = at; command = c } ∷ commands_from code most (at + n)) []

-- the commands of a code, none of which is empty, so that they are no more than its bytes
unfoldable pub commands_of : List ℕ → List Placed
commands_of code = commands_from code (length code) 0

-- the verdict of tests: they are passed, or the number of the first that fails
abbrev pub Verdict : Type 0
Verdict = Result (Unit {0}) Refusal

-- the verdict on a command that was read, by 4 and 5, or what is said of a found one
abbrev pub read_verdict : Result (Command × ℕ) CommandError → (Command → ℕ → Verdict) → Verdict
read_verdict (Ok (c, n)) f = f c n
read_verdict (Err Unknown) f = Err UnknownByte
read_verdict (Err CutOff) f = Err OperandsCutOff

-- "4, 5, 6 command by command", from a position on
unfoldable pub verdict_from : (Command → Bool) → List ℕ → ℕ → ℕ → Verdict
verdict_from in_range code zero at = Ok tt
verdict_from in_range code (suc most) at =
    cond (leb (length code) at) (Ok tt)
    (read_verdict (command_at code at) (λ c n. cond (in_range c) (verdict_from in_range code most (at + n)) (Err OutOfRange)))

-- is this a command that may stand last, 07 or 0D?
abbrev pub ends : Command → Bool
ends (Set d v) = false
ends (Add d a b) = false
ends (Subtract d a b) = false
ends (Load d a) = false
ends (Store a b) = false
ends (JumpIfZero a t) = false
ends (Jump t) = true
ends (Lfork r d a w) = false
ends (Fork r d a w) = false
ends Join = false
ends Suspend = false
ends Yield = false
ends (Return a) = true
ends (Share a) = false

-- may the last of these commands stand last? `before` says so of the command before them
unfoldable pub last_ends : Bool → List Placed → Bool
last_ends before [] = before
last_ends before (p ∷ ps) = last_ends (ends p.command) ps

-- does one of these commands start at t?
unfoldable pub is_start : List Placed → ℕ → Bool
is_start [] t = false
is_start (p ∷ ps) t = eqb p.at t || is_start ps t

-- is the command's target, if it has one, a start?
abbrev pub target_good : (ℕ → Bool) → Command → Bool
target_good start (Set d v) = true
target_good start (Add d a b) = true
target_good start (Subtract d a b) = true
target_good start (Load d a) = true
target_good start (Store a b) = true
target_good start (JumpIfZero a t) = start t
target_good start (Jump t) = start t
target_good start (Lfork r d a w) = true
target_good start (Fork r d a w) = true
target_good start Join = true
target_good start Suspend = true
target_good start Yield = true
target_good start (Return a) = true
target_good start (Share a) = true

unfoldable pub targets_good : (ℕ → Bool) → List Placed → Bool
targets_good start [] = true
targets_good start (p ∷ ps) = target_good start p.command && targets_good start ps

infixr 20 ◌then◌
-- the first of two verdicts that refuses
abbrev pub ◌then◌ : Verdict → Verdict → Verdict
Ok passed then v = v
Err n then v = Err n

-- "per routine 4, 5, 6 command by command, 7, 8"
unfoldable pub routine_verdict : (Command → Bool) → List ℕ → Verdict
routine_verdict in_range code =
    verdict_from in_range code (length code) 0
    then cond (last_ends false (commands_of code)) (Ok tt) (Err BadEnd)
    then cond (targets_good (is_start (commands_of code)) (commands_of code)) (Ok tt) (Err BadTarget)
