-- What a command does to its own thread, as document 01's table of commands and its tests 12, 9, 10 and 11 say, and T-04's 0E and 31: the one
-- definition that the machine's step, the steal and the serial run use.
use Rattle.std.specs.Prelude.{Bool, false, cond, ◌||◌, List, [], ◌∷◌, ◌⊎◌, ◌≡◌, ℕ, zero, suc, ◌+◌, ◌-◌, ◌%◌, ◌^◌, ◌≤◌, eqb}
use Rattle.command.specs.declared.Command.{Command}
use Rattle.command.specs.declared.Command.TheVariants.{Set, Add, Subtract, Load, Store, JumpIfZero, Jump, Lfork, Fork, Join, Suspend, Yield, Return, Share}
use Rattle.thread.specs.declared.Fault.{Fault}
use Rattle.thread.specs.declared.Fault.TheVariants.{SlotPending, AddressNotAllowed, CutOutOfRange, ReturnPending, ShareOutOfRange}
use Rattle.thread.specs.declared.Effect.{Effect}
use Rattle.thread.specs.declared.Effect.TheVariants.{Faults, Sets, Loads, Stores, Goes, Continues, Lforks, Forks, Joins, Suspends, Yields, Returns, Shares}

-- what a thread's command may look at: its slots' words, which slots are pending, and what its window allows
pub record Context : Type 0 where
  pub slot : ℕ → ℕ
  pub pending : ℕ → Bool
  pub may_load : ℕ → Bool
  pub may_store : ℕ → Bool
  pub may_cut : ℕ → Bool
  pub may_share : ℕ → Bool

-- a fault's number
abbrev pub number_of_fault : Fault → ℕ
number_of_fault SlotPending = 9
number_of_fault AddressNotAllowed = 10
number_of_fault CutOutOfRange = 11
number_of_fault ReturnPending = 12
number_of_fault ShareOutOfRange = 31

-- the numbers by which a command faults: document 01's 9 to 12, and T-04's 31
abbrev pub IsFault : ℕ → Type 0
IsFault n = ((9 ≤ n) × (n ≤ 12)) ⊎ (n ≡ 31)

-- n slots in a row, from a on
unfoldable pub run : ℕ → ℕ → List ℕ
run a zero = []
run a (suc n) = a ∷ run (suc a) n

-- is one of these slots pending?
unfoldable pub any_pending : (ℕ → Bool) → List ℕ → Bool
any_pending p [] = false
any_pending p (k ∷ ks) = p k || any_pending p ks

-- "9: a pending slot read or written", "12: return with pending slots"
unfoldable pub unless_pending : Fault → (ℕ → Bool) → List ℕ → Effect → Effect
unless_pending f p ks e = cond (any_pending p ks) (Faults f) e

-- "10: address not allowed", "11: cut out of range"; T-04: "31 s out of range, a fault, tested after 9"
unfoldable pub provided : Bool → Fault → Effect → Effect
provided test f e = cond test e (Faults f)

-- "a+b, a−b, modulo 2^32"
abbrev pub sum : ℕ → ℕ → ℕ
sum x y = (x + y) % 2 ^ 32

abbrev pub difference : ℕ → ℕ → ℕ
difference x y = (x + (2 ^ 32 - y)) % 2 ^ 32

-- `arguments` gives each routine's number of arguments
module _ (arguments : ℕ → ℕ) (own : Context) where
  -- "a fork writes its d"; it reads its cut's slot and its arguments' slots; "11: cut out of range"
  unfoldable pub forking : ℕ → ℕ → ℕ → ℕ → Effect → Effect
  forking r d a w e =
      unless_pending SlotPending own.pending (d ∷ w ∷ run a (arguments r))
      (provided (own.may_cut (own.slot w)) CutOutOfRange e)

  -- the effect of a command
  unfoldable pub effect_of : Command → Effect
  effect_of (Set d v) = unless_pending SlotPending own.pending (d ∷ []) (Sets d v)
  effect_of (Add d a b) = unless_pending SlotPending own.pending (d ∷ a ∷ b ∷ []) (Sets d (sum (own.slot a) (own.slot b)))
  effect_of (Subtract d a b) = unless_pending SlotPending own.pending (d ∷ a ∷ b ∷ []) (Sets d (difference (own.slot a) (own.slot b)))
  effect_of (Load d a) =
      unless_pending SlotPending own.pending (d ∷ a ∷ []) (provided (own.may_load (own.slot a)) AddressNotAllowed (Loads d (own.slot a)))
  effect_of (Store a b) =
      unless_pending SlotPending own.pending (a ∷ b ∷ []) (provided (own.may_store (own.slot a)) AddressNotAllowed (Stores (own.slot a) (own.slot b)))
  effect_of (JumpIfZero a t) = unless_pending SlotPending own.pending (a ∷ []) (cond (eqb (own.slot a) 0) (Goes t) Continues)
  effect_of (Jump t) = Goes t
  effect_of (Lfork r d a w) = forking r d a w (Lforks r d a (own.slot w))
  effect_of (Fork r d a w) = forking r d a w (Forks r d a (own.slot w))
  effect_of Join = Joins
  effect_of Suspend = Suspends
  effect_of Yield = Yields
  effect_of (Return a) = unless_pending ReturnPending own.pending (run 0 16) (Returns (own.slot a))
  effect_of (Share a) = unless_pending SlotPending own.pending (a ∷ []) (provided (own.may_share (own.slot a)) ShareOutOfRange (Shares (own.slot a)))

-- what a fork asks for: the routine, the result slot, the first argument's slot and the cut
pub record Asked : Type 0 where
  pub routine : ℕ
  pub result : ℕ
  pub first : ℕ
  pub cut : ℕ

abbrev pub asked : ℕ → ℕ → ℕ → ℕ → Asked
asked r d a e = record { routine = r; result = d; first = a; cut = e }
