-- The condition of each fault of a command: document 01, "The running job", 9 to 12, in the order "12, 9, 10 or 11"; T-04's 31 stands with the
-- last two ("tested after 9"), and a command has only one of the three.
use Rattle.std.specs.Prelude.{Bool, true, false, List, [], ◌∷◌, ◌≡◌, ℕ}
use Rattle.command.specs.Command.{decoded_at}
use Rattle.command.specs.declared.Command.{Command}
use Rattle.command.specs.declared.Command.TheVariants.{Set, Add, Subtract, Load, Store, JumpIfZero, Jump, Lfork, Fork, Join, Suspend, Yield, Return, Share}
use Rattle.image.specs.Layout.{arguments_of}
use Rattle.thread.specs.Effect.{Context, run, any_pending}
use Rattle.rules.specs.State.{Job, State, thread_at}
use Rattle.rules.specs.Turn.{offset_of, context_in}

module _ (arguments : ℕ → ℕ) (own : Context) where
  -- the slots that a command reads or writes ("a fork writes its d"); a return has a test of its own
  abbrev pub operand_slots : Command → List ℕ
  operand_slots (Set d v) = d ∷ []
  operand_slots (Add d a b) = d ∷ a ∷ b ∷ []
  operand_slots (Subtract d a b) = d ∷ a ∷ b ∷ []
  operand_slots (Load d a) = d ∷ a ∷ []
  operand_slots (Store a b) = a ∷ b ∷ []
  operand_slots (JumpIfZero a t) = a ∷ []
  operand_slots (Jump t) = []
  operand_slots (Lfork r d a w) = d ∷ w ∷ run a (arguments r)
  operand_slots (Fork r d a w) = d ∷ w ∷ run a (arguments r)
  operand_slots Join = []
  operand_slots Suspend = []
  operand_slots Yield = []
  operand_slots (Return a) = []
  operand_slots (Share a) = a ∷ []

  -- "9: a pending slot read or written"
  abbrev pub reads_pending : Command → Bool
  reads_pending c = any_pending own.pending (operand_slots c)

  -- "10: address not allowed"
  abbrev pub address_allowed : Command → Bool
  address_allowed (Set d v) = true
  address_allowed (Add d a b) = true
  address_allowed (Subtract d a b) = true
  address_allowed (Load d a) = own.may_load (own.slot a)
  address_allowed (Store a b) = own.may_store (own.slot a)
  address_allowed (JumpIfZero a t) = true
  address_allowed (Jump t) = true
  address_allowed (Lfork r d a w) = true
  address_allowed (Fork r d a w) = true
  address_allowed Join = true
  address_allowed Suspend = true
  address_allowed Yield = true
  address_allowed (Return a) = true
  address_allowed (Share a) = true

  -- "11: cut out of range"
  abbrev pub cut_allowed : Command → Bool
  cut_allowed (Set d v) = true
  cut_allowed (Add d a b) = true
  cut_allowed (Subtract d a b) = true
  cut_allowed (Load d a) = true
  cut_allowed (Store a b) = true
  cut_allowed (JumpIfZero a t) = true
  cut_allowed (Jump t) = true
  cut_allowed (Lfork r d a w) = own.may_cut (own.slot w)
  cut_allowed (Fork r d a w) = own.may_cut (own.slot w)
  cut_allowed Join = true
  cut_allowed Suspend = true
  cut_allowed Yield = true
  cut_allowed (Return a) = true
  cut_allowed (Share a) = true

  -- T-04: "31 s out of range"
  abbrev pub share_allowed : Command → Bool
  share_allowed (Set d v) = true
  share_allowed (Add d a b) = true
  share_allowed (Subtract d a b) = true
  share_allowed (Load d a) = true
  share_allowed (Store a b) = true
  share_allowed (JumpIfZero a t) = true
  share_allowed (Jump t) = true
  share_allowed (Lfork r d a w) = true
  share_allowed (Fork r d a w) = true
  share_allowed Join = true
  share_allowed Suspend = true
  share_allowed Yield = true
  share_allowed (Return a) = true
  share_allowed (Share a) = own.may_share (own.slot a)

  -- "12: return with pending slots"
  abbrev pub returns_pending : Command → Bool
  returns_pending (Set d v) = false
  returns_pending (Add d a b) = false
  returns_pending (Subtract d a b) = false
  returns_pending (Load d a) = false
  returns_pending (Store a b) = false
  returns_pending (JumpIfZero a t) = false
  returns_pending (Jump t) = false
  returns_pending (Lfork r d a w) = false
  returns_pending (Fork r d a w) = false
  returns_pending Join = false
  returns_pending Suspend = false
  returns_pending Yield = false
  returns_pending (Return a) = any_pending own.pending (run 0 16)
  returns_pending (Share a) = false

-- the conditions: the tests before it are met by none
module _ (arguments : ℕ → ℕ) (own : Context) (c : Command) where
  abbrev pub Condition12 : Type 0
  Condition12 = returns_pending arguments own c ≡ true

  abbrev pub Condition9 : Type 0
  Condition9 = (returns_pending arguments own c ≡ false) × (reads_pending arguments own c ≡ true)

  abbrev pub Condition10 : Type 0
  Condition10 = (returns_pending arguments own c ≡ false) × (reads_pending arguments own c ≡ false) × (address_allowed arguments own c ≡ false)

  abbrev pub Condition11 : Type 0
  Condition11 =
      (returns_pending arguments own c ≡ false) × (reads_pending arguments own c ≡ false) × (address_allowed arguments own c ≡ true)
      × (cut_allowed arguments own c ≡ false)

  abbrev pub Condition31 : Type 0
  Condition31 =
      (returns_pending arguments own c ≡ false) × (reads_pending arguments own c ≡ false) × (address_allowed arguments own c ≡ true)
      × (cut_allowed arguments own c ≡ true) × (share_allowed arguments own c ≡ false)

-- thread t's next command, and what it can see of its thread
module _ (j : Job) (s : State) (t : ℕ) where
  abbrev pub command_of : Command
  command_of = decoded_at j.image (offset_of j (thread_at s t))

  abbrev pub context_at : Context
  context_at = context_in s (thread_at s t)

  -- a condition of it
  abbrev pub Next : ((ℕ → ℕ) → Context → Command → Type 0) → Type 0
  Next condition = condition (arguments_of j.image) context_at command_of
