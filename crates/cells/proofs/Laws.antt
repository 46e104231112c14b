-- Laws of a record by its cells. Assumes nothing.
use mathlib.Core.Bool.{Bool, true, false, not}
use mathlib.Core.List.{List}
use mathlib.Core.Path.{◌≡◌, refl}
use Prim.Native.Nat.{ℕ, ◌+◌, ◌*◌, ◌/◌, ◌%◌, ◌<◌}
use native.Mathlib.Omega.{arith}
use lib.Dec.{eqb}
use lib.ListN.{get_or}
use Rattle.std.specs.Int.{w16, from_bool, to_le_bytes}
use Rattle.thread.specs.declared.Thread.{Thread}
use Rattle.thread.specs.declared.Status.{Status}
use Rattle.thread.specs.declared.Status.TheVariants.{Free, Running, Ready, Suspended, Waiting, Lent}
use Rattle.thread.specs.Thread.{status_number, blank_thread, moved_to}
use Rattle.cells.specs.Record.{status_of, record_at, cells_of}

-- a record by its 24 cells
pub record_same : (xs ys : List ℕ) (a b : ℕ) → ((k : ℕ) → k < 24 → get_or ys (b + k) 0 ≡ get_or xs (a + k) 0) → record_at ys b ≡ record_at xs a
unfolding record_at
record_same xs ys a b h =
    rw (h 0 (omega arith), h 1 (omega arith), h 2 (omega arith), h 3 (omega arith), h 4 (omega arith), h 5 (omega arith), h 6 (omega arith), h 7 (omega arith), h 8 (omega arith), h 9 (omega arith), h 10 (omega arith), h 11 (omega arith), h 12 (omega arith), h 13 (omega arith), h 14 (omega arith), h 15 (omega arith), h 16 (omega arith), h 17 (omega arith), h 18 (omega arith), h 19 (omega arith), h 20 (omega arith), h 21 (omega arith), h 22 (omega arith), h 23 (omega arith))

status-back : (s : Status) → status_of (status_number s) ≡ s
unfolding status_of
status-back Free = refl
status-back Running = refl
status-back Ready = refl
status-back Suspended = refl
status-back Waiting = refl
status-back Lent = refl

bit-back : (b : Bool) → not (eqb (from_bool b) 0) ≡ b
bit-back true = refl
bit-back false = refl

two_back : (x : ℕ) → x % 256 + 256 * (x / 256) ≡ x
two_back x = omega arith

-- the cells of a record are that record
pub cells-back : (h : Thread) → record_at (cells_of h) 0 ≡ h
unfolding record_at
cells-back h =
    rw (status-back h.status, bit-back h.connected, two_back h.position, two_back h.origin.base, two_back h.family.window.lo, two_back h.family.window.mark, two_back h.family.window.ceiling, two_back h.family.window.hi, two_back h.family.window.from, two_back h.family.window.to, two_back h.family.pending)

-- a record moved on
pub moved_at : (xs ys : List ℕ) (a p : ℕ) → ((k : ℕ) → k < 22 → get_or ys (a + (k + 2)) 0 ≡ get_or xs (a + (k + 2)) 0) → get_or ys (a + 0) 0 ≡ p % 256 → get_or ys (a + 1) 0 ≡ p / 256
    → record_at ys a ≡ moved_to p (record_at xs a)
unfolding record_at
moved_at xs ys a p h e f =
    rw (e, f, two_back p, h 0 (omega arith), h 1 (omega arith), h 2 (omega arith), h 3 (omega arith), h 4 (omega arith), h 5 (omega arith), h 6 (omega arith), h 7 (omega arith), h 8 (omega arith), h 9 (omega arith), h 10 (omega arith), h 11 (omega arith), h 12 (omega arith), h 13 (omega arith), h 14 (omega arith), h 15 (omega arith), h 16 (omega arith), h 17 (omega arith), h 18 (omega arith), h 19 (omega arith), h 20 (omega arith), h 21 (omega arith))

-- cells that are all zero are a free record
pub blank : (xs : List ℕ) → ((k : ℕ) → get_or xs k 0 ≡ 0) → (a : ℕ) → record_at xs a ≡ blank_thread
unfolding record_at status_of
blank xs z a =
    rw (z (a + 0), z (a + 1), z (a + 2), z (a + 3), z (a + 4), z (a + 5), z (a + 6), z (a + 7), z (a + 8), z (a + 9), z (a + 10), z (a + 11), z (a + 12), z (a + 13), z (a + 14), z (a + 15), z (a + 16), z (a + 17), z (a + 18), z (a + 19), z (a + 20), z (a + 21), z (a + 22), z (a + 23))

-- the two bytes of a number
pub low : (n : ℕ) (bs : List ℕ) → bs ≡ to_le_bytes w16 n → get_or bs 0 0 ≡ n % 256
low n bs e = rw e (omega arith)

pub high : (n : ℕ) (bs : List ℕ) → n < 65536 → bs ≡ to_le_bytes w16 n → get_or bs 1 0 ≡ n / 256
high n bs l e = rw e (omega arith)
