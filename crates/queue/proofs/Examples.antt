-- Where a queue's numbers stand, at the ring's end and for heads past it: worked out by hand, and computed. Assumes nothing.
use mathlib.Core.Path.{◌≡◌, refl}
use mathlib.Core.List.{List, [], ◌∷◌}
use Prim.Native.Nat.{ℕ}
use Rattle.queue.specs.Contents.{contents, ring, queue_of, ascending_from}

-- a queue's head and length, and the places of its numbers, first to last
record Standing : Type 0 where
  head : ℕ
  len : ℕ
  places : List ℕ

abbrev stands : ℕ → ℕ → List ℕ → Standing
stands head len places = record { head = head; len = len; places = places }

-- "the ready line finds its places by a remainder of 32": heads on the ring, at its end and past it, up to the last byte
abbrev by_hand : List Standing
by_hand =
    stands 0 0 []
    ∷ stands 0 3 (0 ∷ 1 ∷ 2 ∷ [])
    ∷ stands 30 2 (30 ∷ 31 ∷ [])
    ∷ stands 31 3 (31 ∷ 0 ∷ 1 ∷ [])
    ∷ stands 32 2 (0 ∷ 1 ∷ [])
    ∷ stands 33 1 (1 ∷ [])
    ∷ stands 62 3 (30 ∷ 31 ∷ 0 ∷ [])
    ∷ stands 64 2 (0 ∷ 1 ∷ [])
    ∷ stands 100 2 (4 ∷ 5 ∷ [])
    ∷ stands 255 3 (31 ∷ 0 ∷ 1 ∷ [])
    ∷ []

-- the same from the definition: in places that hold their own numbers the contents are the places
abbrev each : List Standing → List Standing
each [] = []
each (s ∷ rest) = stands s.head s.len (contents (queue_of (ascending_from 0 32) s.head s.len)) ∷ each rest

pub places-hold : each by_hand ≡ by_hand
unfolding contents ring
places-hold = refl
