-- What a queue stands for, as a list of numbers, and what taking at the head and adding at the tail do to that list.
use Rattle.std.specs.Prelude.{◌≡◌, List, [], ◌∷◌, ◌++◌, cond, ℕ, zero, suc, ◌%◌, ◌≤◌, get_or, length, ltb, None, Some}
use Rattle.std.specs.declared.option.Option.{Option}
use Rattle.queue.specs.declared.Queue.{Queue}

-- n numbers of a ring of cap places, from place h on: "finds its places by a remainder"
unfoldable pub ring : ℕ → List ℕ → ℕ → ℕ → List ℕ
ring cap places h zero = []
ring cap places h (suc n) = get_or places (h % cap) 0 ∷ ring cap places (suc h) n

-- "each line has 32 places"
abbrev pub capacity : ℕ
capacity = 32

-- the numbers that stand in a queue (document 01's "line"), head first. Every value of the struct means a list, as long as its len says
unfoldable pub contents : Queue → List ℕ
contents q = ring capacity q.places q.head q.len

-- the queue of these places, for code that holds a queue's parts
abbrev pub queue_of : List ℕ → ℕ → ℕ → Queue
queue_of places head len = record { places = places; head = head; len = len }

-- n numbers ascending from k: "at first ascending"
abbrev pub ascending_from : ℕ → ℕ → List ℕ
ascending_from k zero = []
ascending_from k (suc n) = k ∷ ascending_from (suc k) n

-- "hands out its head number"; "an empty one hands out nothing"
abbrev pub front_of : List ℕ → Option ℕ
front_of [] = None
front_of (x ∷ xs) = Some x

-- "is returned shorter by one"
abbrev pub tail_of : List ℕ → List ℕ
tail_of [] = []
tail_of (x ∷ xs) = xs

-- "given back at the tail"; "a full one takes nothing", where cap numbers are full
unfoldable pub appended : ℕ → List ℕ → ℕ → List ℕ
appended cap xs n = cond (ltb (length xs) cap) (xs ++ (n ∷ [])) xs

-- what `dequeue` gives of q: its first number and the rest; an empty one is to "come back unchanged"
pub record Dequeues (q : Queue) (r : Option ℕ × Queue) : Type 0 where
  pub first : r.0 ≡ front_of (contents q)
  pub rest : contents r.1 ≡ tail_of (contents q)
  pub unchanged : contents q ≡ [] → r.1 ≡ q

-- what `enqueue` gives of q and n: n at the tail; a full one is to "come back unchanged"
pub record Enqueues (q : Queue) (n : ℕ) (r : Queue) : Type 0 where
  pub all : contents r ≡ appended capacity (contents q) n
  pub unchanged : capacity ≤ length (contents q) → r ≡ q
