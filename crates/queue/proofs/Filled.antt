-- Queues whose numbers ascend from 0 on, and full queues: what the functions that make and leave them promise. Assumes nothing.
use borrow.Author.Tests.{le-ltb}
use mathlib.Core.Path.{◌≡◌, refl}
use native.Mathlib.Omega.{arith}
use Prim.Native.Nat.{ℕ, ◌+◌, ◌-◌, ◌%◌, ◌≤◌}
use lib.ListN.{length, get_or}
use Rattle.std.proofs.Common.{Some}
use Rattle.queue.proofs.Ring.{ring-ascending, length-ring}
use Rattle.queue.proofs.Laws.{dequeues}
use Rattle.queue.specs.declared.Queue.{Queue}
use Rattle.queue.specs.Contents.{contents, queue_of, ascending_from, appended, Dequeues, Enqueues}

-- the places of ascending numbers, as many as there are
pub ascending_first : (n : ℕ) → n ≤ 32 → contents (queue_of (ascending_from 0 32) 0 n) ≡ ascending_from 0 n
unfolding contents
ascending_first n h = ring-ascending 32 0 n (omega arith)

-- a queue has as many numbers as its length says
pub length_is : (q : Queue) → q.len ≡ length (contents q)
unfolding contents
length_is q = rw length-ring

-- a queue of at least one number hands out that at its head
pub one_taken : (q : Queue) (head next : ℕ) → head ≡ q.head % 32 → next ≡ (head + 1) % 32 → (q.len ≡ 0 → ⊥)
    → Dequeues q (Some (get_or q.places head 0), record { places = q.places; head = next; len = q.len - 1 })
one_taken q head next h k l = rw (k, h) (dequeues q (q.len - 1) (omega arith))

-- a full queue takes nothing
pub full_stays : (q : Queue) (n : ℕ) → 32 ≤ q.len → Enqueues q n q
unfolding contents appended
full_stays q n h = record { all = rw (length-ring, le-ltb _ _ h); unchanged = λ _. refl }
