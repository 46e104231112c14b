-- Every record is in one state, so the six counts add up to the table; and a table whose records are all in one state counts its length.
-- Assumes nothing.
use borrow.Author.Tests.{eq-eqb}
use mathlib.Core.List.{List, [], ◌∷◌}
use mathlib.Core.Path.{◌≡◌, refl, ap}
use Prim.Native.Nat.{ℕ, suc, ◌+◌, ◌<◌}
use native.Mathlib.Omega.{arith}
use lib.ListN.{length, get_or}
use Rattle.thread.specs.declared.Status.{Status}
use Rattle.thread.specs.declared.Status.TheVariants.{Free, Running, Ready, Suspended, Waiting, Lent}
use Rattle.thread.specs.declared.Thread.{Thread}
use Rattle.thread.specs.Thread.{status_number, blank_thread}
use Rattle.census.specs.Counted.{one_if, is_in, records_in}

-- the records in any of the six states
abbrev pub all_of : (Status → ℕ) → ℕ
all_of f = f Free + (f Running + (f Ready + (f Suspended + (f Waiting + f Lent))))

-- a record is in one state
one : (thread : Thread) (status : Status) → thread.status ≡ status → all_of (λ s. is_in s thread) ≡ 1
one thread Free e = rw e
one thread Running e = rw e
one thread Ready e = rw e
one thread Suspended e = rw e
one thread Waiting e = rw e
one thread Lent e = rw e

pub total : (threads : List Thread) → all_of (λ s. records_in s threads) ≡ length threads
unfolding records_in
total [] = refl
total (thread ∷ threads) = omega (arith, one thread thread.status refl, total threads)

-- all records are in one state
pub all_in : (status : Status) (threads : List Thread)
    → ((t : ℕ) → t < length threads → status_number (get_or threads t blank_thread).status ≡ status_number status)
    → records_in status threads ≡ length threads
unfolding records_in
all_in status [] h = refl
all_in status (thread ∷ threads) h =
    let first : is_in status thread ≡ 1 = ap one_if (eq-eqb _ _ (h 0 (omega arith))) in
    omega (arith, first, all_in status threads (λ t l. h (suc t) (omega arith)))
