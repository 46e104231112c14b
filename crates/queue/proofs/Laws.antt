-- What the crates above may use of a queue besides its contracts, said of the list that it stands for. Assumes nothing.
use mathlib.Core.Path.{◌≡◌, refl}
use mathlib.Core.List.{List, [], ◌∷◌, ◌++◌}
use Prim.Native.Nat.{ℕ, suc, ◌+◌, ◌-◌, ◌%◌, ◌≤◌, ◌<◌}
use native.Mathlib.Nat.{mod-add-mod}
use native.Mathlib.Numerals.{add-one, sub-one}
use native.Mathlib.Omega.{arith}
use borrow.Author.Tests.{lt-ltb, le-ltb}
use mir.Syntax.{w8}
use mir.Val.{Fits}
use lib.ListN.{length, get_or, set}
use Rattle.queue.proofs.Ring.{ring-below, ring-rest, ring-append, length-ring}
use Rattle.queue.specs.declared.Queue.{Queue}
use Rattle.std.proofs.Common.{None, Some}
use Rattle.queue.specs.Contents.{contents, ring, queue_of, front_of, tail_of, appended, Dequeues, Enqueues}

-- only an empty queue hands out nothing
pub nothing-empty : (xs : List ℕ) → front_of xs ≡ None → xs ≡ []
nothing-empty [] e = refl
nothing-empty (x ∷ xs) e = let z : ◌≡◌ {A = ℕ} 0 1 = cc in absurd (omega arith)

-- the number handed out stood before the rest
pub number-first : (xs : List ℕ) (n : ℕ) → front_of xs ≡ Some n → xs ≡ n ∷ tail_of xs
number-first [] n e = let z : ◌≡◌ {A = ℕ} 0 1 = cc in absurd (omega arith)
number-first (x ∷ xs) n e = cc

-- shorter by one, unless it was empty
pub length_rest : (xs : List ℕ) → length (tail_of xs) ≡ length xs - 1
length_rest [] = refl
length_rest (x ∷ xs) = omega arith

-- with room the number is put at the tail
pub appended-room : (cap : ℕ) (xs : List ℕ) (n : ℕ) → length xs < cap → appended cap xs n ≡ xs ++ (n ∷ [])
unfolding appended
appended-room cap xs n h = rw (lt-ltb _ _ h)

-- without room nothing is
pub appended-full : (cap : ℕ) (xs : List ℕ) (n : ℕ) → cap ≤ length xs → appended cap xs n ≡ xs
unfolding appended
appended-full cap xs n h = rw (le-ltb _ _ h)

-- every number in a queue is a byte, as its places are: a caller's `search needs` shows that of a queue it is handed
pub contents-bytes : (q : Queue) → ((i : ℕ) → Fits w8 (get_or q.places i 0)) → (i : ℕ) → get_or (contents q) i 0 < 256
unfolding contents
contents-bytes q f i = ring-below 256 32 q.places q.head q.len (omega arith) (λ j. (f j).fits) i

-- what a queue of at least one number gives when its head moves on
pub dequeues : (q : Queue) (n : ℕ) → q.len ≡ suc n
    → Dequeues q (Some (get_or q.places (q.head % 32) 0), record { places = q.places; head = (q.head % 32 + 1) % 32; len = q.len - 1 })
unfolding contents ring
dequeues q n e = record {
  first = rw e;
  rest = rw (e, sub-one, ring-rest 32 q.places q.head n);
  unchanged = λ z. absurd (let y : ◌≡◌ {A = ℕ} 0 1 = cc in omega arith);
}

-- the first number of a queue that has one
pub first-is : (places : List ℕ) (head len : ℕ) → 0 < len → Some (get_or places (head % 32) 0) ≡ front_of (contents (queue_of places head len))
first-is places head len h = (dequeues (queue_of places head len) (len - 1) (omega arith)).first

-- the rest of it, once the head has moved on
pub rest-is : (places : List ℕ) (head len : ℕ) → 0 < len
    → contents (queue_of places ((head % 32 + 1) % 32) (len - 1)) ≡ tail_of (contents (queue_of places head len))
rest-is places head len h = (dequeues (queue_of places head len) (len - 1) (omega arith)).rest

-- what a queue with room gives when a number is put behind its last
pub enqueues : (q : Queue) (n : ℕ) → q.len < 32 → length q.places ≡ 32
    → Enqueues q n (record { places = set q.places ((q.head % 32 + q.len) % 32) n; head = q.head; len = q.len + 1 })
unfolding contents appended
enqueues q n h e = record {
  all = rw (length-ring, lt-ltb _ _ h, mod-add-mod, add-one, ring-append 32 q.places n q.head q.len h (omega arith));
  unchanged = λ z. absurd (let y : 32 ≤ q.len = rw length-ring at z in omega arith);
}
