-- Laws of ascending numbers. Assumes nothing.
use mathlib.Core.Path.{◌≡◌, refl, ap}
use Prim.Native.Nat.{ℕ, zero, suc, ◌+◌, ◌<◌}
use native.Mathlib.Nat.{add-zero}
use native.Mathlib.Omega.{arith}
use lib.ListN.{length, get_or}
use Rattle.queue.specs.Contents.{ascending_from}

-- n ascending numbers are n
pub length-ascending : (k n : ℕ) → length (ascending_from k n) ≡ n
length-ascending k zero = refl
length-ascending k (suc n) = ap suc (length-ascending (suc k) n)

-- what stands at a place of ascending numbers
pub get_or-ascending : (k n i : ℕ) → i < n → get_or (ascending_from k n) i 0 ≡ k + i
get_or-ascending k zero i h = absurd (omega arith)
get_or-ascending k (suc n) zero h = rw add-zero
get_or-ascending k (suc n) (suc i) h = rw (get_or-ascending (suc k) n i (omega arith)) (omega arith)
