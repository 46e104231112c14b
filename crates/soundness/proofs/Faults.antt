-- The faults in document 01's words: a command faults by 9 exactly where a slot that it reads or writes is pending, by 10 where none is and
-- its address is not allowed, by 11 where none is and its cut is out of range, by 12 where it is a return and a slot is pending, and by T-04's
-- 31 where none is and what it would share is out of range.
-- Assumes nothing.
use mathlib.Core.Logic.{◌↔◌}
use mathlib.Core.Bool.{Bool, true, false, cond, true≢false}
use mathlib.Core.List.{List}
use mathlib.Core.Path.{◌≡◌, refl, sym, ap}
use Prim.Native.Nat.{ℕ, ◌<◌}
use native.Mathlib.Omega.{arith}
use lib.Dec.{eqb}
use Rattle.command.specs.declared.Command.{Command}
use Rattle.command.specs.declared.Command.TheVariants.{Set, Add, Subtract, Load, Store, JumpIfZero, Jump, Lfork, Fork, Join, Suspend, Yield, Return, Share}
use Rattle.image.specs.Layout.{arguments_of}
use Rattle.thread.specs.declared.Effect.{Effect}
use Rattle.thread.specs.declared.Fault.{Fault}
use Rattle.thread.specs.declared.Fault.TheVariants.{SlotPending, AddressNotAllowed, CutOutOfRange, ReturnPending, ShareOutOfRange}
use Rattle.thread.specs.declared.Effect.TheVariants.{Faults, Sets, Loads, Stores, Goes, Continues, Lforks, Forks, Joins, Suspends, Yields, Returns, Shares}
use Rattle.thread.specs.Effect.{number_of_fault, Context, any_pending, unless_pending, provided, forking, effect_of}
use Rattle.rules.specs.State.{Job, State, thread_at}
use Rattle.rules.specs.Turn.{effect_at}
use Rattle.thread.proofs.FaultNumbers.{same_fault}
pub use Rattle.soundness.specs.Faults.{operand_slots, reads_pending, address_allowed, cut_allowed, share_allowed, returns_pending, Condition9, Condition10, Condition11, Condition12, Condition31, command_of, context_at, Next}

-- a fault's number, or 0
abbrev pub number_of : Effect → ℕ
number_of (Faults f) = number_of_fault f
number_of (Sets d v) = 0
number_of (Loads d a) = 0
number_of (Stores a v) = 0
number_of (Goes t) = 0
number_of Continues = 0
number_of (Lforks r d a e) = 0
number_of (Forks r d a e) = 0
number_of Joins = 0
number_of Suspends = 0
number_of Yields = 0
number_of (Returns v) = 0
number_of (Shares x) = 0

pub number-faults : (e : Effect) (f : Fault) → ((e ≡ Faults f) ↔ (number_of e ≡ number_of_fault f))
number-faults e f = (ap number_of, back e (positive f))
  where
    positive : (g : Fault) → 0 < number_of_fault g
    positive SlotPending = omega arith
    positive AddressNotAllowed = omega arith
    positive CutOutOfRange = omega arith
    positive ReturnPending = omega arith
    positive ShareOutOfRange = omega arith

    back : (x : Effect) → 0 < number_of_fault f → number_of x ≡ number_of_fault f → x ≡ Faults f
    back (Faults g) l q = ap Faults (same_fault g f q)
    back (Sets d v) l q = absurd (omega arith)
    back (Loads d a) l q = absurd (omega arith)
    back (Stores a v) l q = absurd (omega arith)
    back (Goes t) l q = absurd (omega arith)
    back Continues l q = absurd (omega arith)
    back (Lforks r d a w) l q = absurd (omega arith)
    back (Forks r d a w) l q = absurd (omega arith)
    back Joins l q = absurd (omega arith)
    back Suspends l q = absurd (omega arith)
    back Yields l q = absurd (omega arith)
    back (Returns v) l q = absurd (omega arith)
    back (Shares x) l q = absurd (omega arith)

number-unless : (f : Fault) (p : ℕ → Bool) (ks : List ℕ) (e : Effect) (m : ℕ) → number_of e ≡ m
    → number_of (unless_pending f p ks e) ≡ cond (any_pending p ks) (number_of_fault f) m
unfolding unless_pending
number-unless f p ks e m q = go (any_pending p ks)
  where
    go : (b : Bool) → number_of (cond b (Faults f) e) ≡ cond b (number_of_fault f) m
    go true = refl
    go false = q

number-provided : (t : Bool) (f : Fault) (e : Effect) (m : ℕ) → number_of e ≡ m → number_of (provided t f e) ≡ cond t m (number_of_fault f)
unfolding provided
number-provided true n e m q = q
number-provided false n e m q = refl

module _ (arguments : ℕ → ℕ) (own : Context) where
  -- THE TESTS in their order, "12, 9, 10 or 11", and 31: which one a command meets first
  pub fault-number : (c : Command) → number_of (effect_of arguments own c)
      ≡ cond (returns_pending arguments own c) 12 (cond (reads_pending arguments own c) 9
      (cond (address_allowed arguments own c) (cond (cut_allowed arguments own c) (cond (share_allowed arguments own c) 0 31) 11) 10))
  unfolding effect_of forking any_pending
  fault-number (Set d v) = number-unless SlotPending own.pending _ _ 0 refl
  fault-number (Add d a b) = number-unless SlotPending own.pending _ _ 0 refl
  fault-number (Subtract d a b) = number-unless SlotPending own.pending _ _ 0 refl
  fault-number (Load d a) = number-unless SlotPending own.pending _ _ _ (number-provided _ AddressNotAllowed _ 0 refl)
  fault-number (Store a b) = number-unless SlotPending own.pending _ _ _ (number-provided _ AddressNotAllowed _ 0 refl)
  fault-number (JumpIfZero a t) = number-unless SlotPending own.pending _ _ 0 (either (eqb (own.slot a) 0))
    where
      either : (b : Bool) → ◌≡◌ {A = ℕ} (number_of (cond b (Goes t) Continues)) 0
      either true = refl
      either false = refl
  fault-number (Jump t) = refl
  fault-number (Lfork r d a w) = number-unless SlotPending own.pending _ _ _ (number-provided _ CutOutOfRange _ 0 refl)
  fault-number (Fork r d a w) = number-unless SlotPending own.pending _ _ _ (number-provided _ CutOutOfRange _ 0 refl)
  fault-number Join = refl
  fault-number Suspend = refl
  fault-number Yield = refl
  fault-number (Return a) = number-unless ReturnPending own.pending _ _ 0 refl
  fault-number (Share a) = number-unless SlotPending own.pending _ _ _ (number-provided _ ShareOutOfRange _ 0 refl)

-- what each number of a chain of tests means: r a return's, p pending slots', a the address's, c the cut's, x the share's
record Order (n : ℕ) (r p a c x : Bool) : Type 0 where
  by12 : (n ≡ 12) ↔ (r ≡ true)
  by9 : (n ≡ 9) ↔ ((r ≡ false) × (p ≡ true))
  by10 : (n ≡ 10) ↔ ((r ≡ false) × (p ≡ false) × (a ≡ false))
  by11 : (n ≡ 11) ↔ ((r ≡ false) × (p ≡ false) × (a ≡ true) × (c ≡ false))
  by31 : (n ≡ 31) ↔ ((r ≡ false) × (p ≡ false) × (a ≡ true) × (c ≡ true) × (x ≡ false))

yes-no : {A : Type 0} → true ≡ false → A
yes-no e = absurd (true≢false e)

no-yes : {A : Type 0} → false ≡ true → A
no-yes e = absurd (true≢false (sym e))

order : (r p a c x : Bool) → Order (cond r 12 (cond p 9 (cond a (cond c (cond x 0 31) 11) 10))) r p a c x
order true p a c x = record {
  by12 = (λ e. refl, λ z. refl);
  by9 = (λ e. absurd (omega arith), λ z. yes-no z.0);
  by10 = (λ e. absurd (omega arith), λ z. yes-no z.0);
  by11 = (λ e. absurd (omega arith), λ z. yes-no z.0);
  by31 = (λ e. absurd (omega arith), λ z. yes-no z.0);
}
order false true a c x = record {
  by12 = (λ e. absurd (omega arith), λ z. no-yes z);
  by9 = (λ e. (refl, refl), λ z. refl);
  by10 = (λ e. absurd (omega arith), λ z. yes-no z.1);
  by11 = (λ e. absurd (omega arith), λ z. yes-no z.1);
  by31 = (λ e. absurd (omega arith), λ z. yes-no z.1);
}
order false false false c x = record {
  by12 = (λ e. absurd (omega arith), λ z. no-yes z);
  by9 = (λ e. absurd (omega arith), λ z. no-yes z.1);
  by10 = (λ e. (refl, refl, refl), λ z. refl);
  by11 = (λ e. absurd (omega arith), λ z. no-yes z.2);
  by31 = (λ e. absurd (omega arith), λ z. no-yes z.2);
}
order false false true false x = record {
  by12 = (λ e. absurd (omega arith), λ z. no-yes z);
  by9 = (λ e. absurd (omega arith), λ z. no-yes z.1);
  by10 = (λ e. absurd (omega arith), λ z. yes-no z.2);
  by11 = (λ e. (refl, refl, refl, refl), λ z. refl);
  by31 = (λ e. absurd (omega arith), λ z. no-yes z.3);
}
order false false true true true = record {
  by12 = (λ e. absurd (omega arith), λ z. no-yes z);
  by9 = (λ e. absurd (omega arith), λ z. no-yes z.1);
  by10 = (λ e. absurd (omega arith), λ z. yes-no z.2);
  by11 = (λ e. absurd (omega arith), λ z. yes-no z.3);
  by31 = (λ e. absurd (omega arith), λ z. yes-no z.4);
}
order false false true true false = record {
  by12 = (λ e. absurd (omega arith), λ z. no-yes z);
  by9 = (λ e. absurd (omega arith), λ z. no-yes z.1);
  by10 = (λ e. absurd (omega arith), λ z. yes-no z.2);
  by11 = (λ e. absurd (omega arith), λ z. yes-no z.3);
  by31 = (λ e. (refl, refl, refl, refl, refl), λ z. refl);
}

-- A COMMAND'S FAULT, exactly under its condition
module _ (arguments : ℕ → ℕ) (own : Context) (c : Command) where
  ordered : Order (number_of (effect_of arguments own c)) (returns_pending arguments own c) (reads_pending arguments own c)
      (address_allowed arguments own c) (cut_allowed arguments own c) (share_allowed arguments own c)
  ordered = rw (fault-number arguments own c) (order _ _ _ _ _)

  both : {B : Type 0} (f : Fault) → ((number_of (effect_of arguments own c) ≡ number_of_fault f) ↔ B) → ((effect_of arguments own c ≡ Faults f) ↔ B)
  both f z = let y = number-faults (effect_of arguments own c) f in (λ e. z.0 (y.0 e), λ b. y.1 (z.1 b))

  pub faults-12 : (effect_of arguments own c ≡ Faults ReturnPending) ↔ (Condition12 arguments own c)
  faults-12 = both ReturnPending ordered.by12

  pub faults-9 : (effect_of arguments own c ≡ Faults SlotPending) ↔ (Condition9 arguments own c)
  faults-9 = both SlotPending ordered.by9

  pub faults-10 : (effect_of arguments own c ≡ Faults AddressNotAllowed) ↔ (Condition10 arguments own c)
  faults-10 = both AddressNotAllowed ordered.by10

  pub faults-11 : (effect_of arguments own c ≡ Faults CutOutOfRange) ↔ (Condition11 arguments own c)
  faults-11 = both CutOutOfRange ordered.by11

  pub faults-31 : (effect_of arguments own c ≡ Faults ShareOutOfRange) ↔ (Condition31 arguments own c)
  faults-31 = both ShareOutOfRange ordered.by31

-- THE NEXT COMMAND of thread t
module _ (j : Job) (s : State) (t : ℕ) where
  pub next-12 : (effect_at j s (thread_at s t) ≡ Faults ReturnPending) ↔ (Next j s t Condition12)
  unfolding effect_at
  next-12 = faults-12 (arguments_of j.image) (context_at j s t) (command_of j s t)

  pub next-9 : (effect_at j s (thread_at s t) ≡ Faults SlotPending) ↔ (Next j s t Condition9)
  unfolding effect_at
  next-9 = faults-9 (arguments_of j.image) (context_at j s t) (command_of j s t)

  pub next-10 : (effect_at j s (thread_at s t) ≡ Faults AddressNotAllowed) ↔ (Next j s t Condition10)
  unfolding effect_at
  next-10 = faults-10 (arguments_of j.image) (context_at j s t) (command_of j s t)

  pub next-11 : (effect_at j s (thread_at s t) ≡ Faults CutOutOfRange) ↔ (Next j s t Condition11)
  unfolding effect_at
  next-11 = faults-11 (arguments_of j.image) (context_at j s t) (command_of j s t)

  pub next-31 : (effect_at j s (thread_at s t) ≡ Faults ShareOutOfRange) ↔ (Next j s t Condition31)
  unfolding effect_at
  next-31 = faults-31 (arguments_of j.image) (context_at j s t) (command_of j s t)
