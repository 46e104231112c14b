-- What a run needs of an image, as a record: the command at a routine's position, the position behind it, its weight, and the
-- number of each routine's arguments; with the parameter words. An image that was read without a refusal fills it in.
use Prim.Native.Nat.{ℕ, ◌≤◌, ◌<◌}
use Rattle.command.specs.declared.Command.{Command}
use Rattle.command.specs.declared.Command.TheVariants.{Set, Add, Subtract, Load, Store, JumpIfZero, Jump, Lfork, Fork, Join, Suspend, Yield, Return, Share}

-- a fork's result slot and a returned slot are among the sixteen ("6: slot, argument run or routine out of range")
abbrev pub InRange : Command → Type 0
InRange (Set d v) = Unit {0}
InRange (Add d a b) = Unit {0}
InRange (Subtract d a b) = Unit {0}
InRange (Load d a) = Unit {0}
InRange (Store a b) = Unit {0}
InRange (JumpIfZero a t) = Unit {0}
InRange (Jump t) = Unit {0}
InRange (Lfork r d a w) = d < 16
InRange (Fork r d a w) = d < 16
InRange Join = Unit {0}
InRange Suspend = Unit {0}
InRange Yield = Unit {0}
InRange (Return a) = a < 16
InRange (Share a) = Unit {0}

pub record Code : Type 0 where
  pub fetch : ℕ → ℕ → Command
  pub next : ℕ → ℕ → ℕ
  pub weight : ℕ → ℕ → ℕ
  pub arguments : ℕ → ℕ
  pub params : ℕ → ℕ
  pub in-range : (r p : ℕ) → InRange (fetch r p)
  pub weighs : (r p : ℕ) → 1 ≤ weight r p
