-- The numbers of faults. Assumes nothing.
use mathlib.Core.Bool.{cond}
use mathlib.Core.Logic.{inl, inr}
use mathlib.Core.Path.{◌≡◌, refl, sym, ◌∙◌, ap}
use Prim.Native.Nat.{ℕ}
use native.Mathlib.Omega.{arith}
use lib.Dec.{eqb}
use Rattle.thread.specs.declared.Fault.{Fault}
use Rattle.thread.specs.declared.Fault.TheVariants.{SlotPending, AddressNotAllowed, CutOutOfRange, ReturnPending, ShareOutOfRange}
use Rattle.thread.specs.Effect.{IsFault, number_of_fault}

-- each is one of document 01's, or 31
pub is_fault : (f : Fault) → IsFault (number_of_fault f)
is_fault SlotPending = inl (omega arith, omega arith)
is_fault AddressNotAllowed = inl (omega arith, omega arith)
is_fault CutOutOfRange = inl (omega arith, omega arith)
is_fault ReturnPending = inl (omega arith, omega arith)
is_fault ShareOutOfRange = inr refl

-- and tells its fault
abbrev fault_by : ℕ → Fault
fault_by n = cond (eqb n 9) SlotPending (cond (eqb n 10) AddressNotAllowed (cond (eqb n 11) CutOutOfRange (cond (eqb n 12) ReturnPending ShareOutOfRange)))

back : (f : Fault) → fault_by (number_of_fault f) ≡ f
back SlotPending = refl
back AddressNotAllowed = refl
back CutOutOfRange = refl
back ReturnPending = refl
back ShareOutOfRange = refl

pub same_fault : (f g : Fault) → number_of_fault f ≡ number_of_fault g → f ≡ g
same_fault f g h = sym (back f) ∙ ap fault_by h ∙ back g
