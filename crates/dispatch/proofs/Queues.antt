-- A queue that was read: its first number, the rest, and a number put behind the last. Assumes nothing.
use mathlib.Core.List.{List, [], ◌∷◌}
use Rattle.queue.specs.declared.Queue.{Queue}
use mathlib.Core.Path.{◌≡◌, ap, ◌∙◌}
use Prim.Native.Nat.{ℕ, ◌<◌}
use native.Mathlib.Omega.{arith}
use Rattle.std.proofs.Common.{Some}
use Rattle.std.specs.declared.option.Option.{Option}
use Rattle.queue.specs.Contents.{contents, front_of, tail_of, appended, capacity, Dequeues, Enqueues}
use Rattle.dispatch.specs.Orderly.{HeadBelow}

-- the first number of a queue whose head is below k
pub head-below : (xs : List ℕ) (k n : ℕ) → HeadBelow k xs → front_of xs ≡ Some n → n < k
head-below [] k n h e = absurd (let z : ◌≡◌ {A = ℕ} 0 1 = cc in omega arith)
head-below (x ∷ xs) k n h e = let f : x ≡ n = cc in rw (← f) h

-- a number is put behind the last of a queue that was read
pub behind-last : (q r : Queue) (n : ℕ) (xs : List ℕ) → contents q ≡ xs → Enqueues q n r → contents r ≡ appended capacity xs n
behind-last q r n xs e f = f.all ∙ ap (λ (l : List ℕ). appended capacity l n) e

-- the first of a queue that was read, and the rest
pub first-of : (q : Queue) (d : Option ℕ × Queue) (xs : List ℕ) → contents q ≡ xs → Dequeues q d → d.0 ≡ front_of xs
first-of q d xs e f = f.first ∙ ap front_of e

pub rest_of : (q : Queue) (d : Option ℕ × Queue) (xs : List ℕ) → contents q ≡ xs → Dequeues q d → contents d.1 ≡ tail_of xs
rest_of q d xs e f = f.rest ∙ ap tail_of e
