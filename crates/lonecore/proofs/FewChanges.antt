-- What a rule must do to keep a state `Few`: no thread becomes suspended (`awake-set`), and one core and the ready queue together gain no
-- thread (`few-changed`). Assumes nothing.
use mathlib.Core.Bool.{Bool, true, false, cond}
use mathlib.Core.List.{List, [], ◌∷◌, ◌++◌}
use mathlib.Core.Path.{◌≡◌, refl, ap}
use Prim.Native.Nat.{ℕ, zero, suc, ◌+◌, ◌≤◌, ◌<◌}
use native.Mathlib.Omega.{arith}
use lib.Dec.{ltb}
use lib.ListN.{get_or, set, length, length-append}
use lib.Seq.{get_or-set_other}
use Rattle.queue.specs.Contents.{appended, capacity}
use Rattle.thread.specs.declared.Thread.{Thread}
use Rattle.thread.specs.declared.Status.TheVariants.{Ready}
use Rattle.thread.specs.Thread.{blank_thread, status_number}
use Rattle.rules.specs.State.{State}
use Rattle.rules.specs.Return.{wakes, status_after, ready_after}
use Rattle.soundness.proofs.Changes.{standing}
use Rattle.lonecore.proofs.FewRunning.{busy_at, busy_among, Few, busy-same, busy-changed}

-- NONE IS SUSPENDED, of a table of threads
abbrev pub Awake : List Thread → Type 0
Awake hs = (u : ℕ) → ¬ (standing (get_or hs u blank_thread) ≡ 3)

pub awake-set : (hs : List Thread) (t : ℕ) (h : Thread) → Awake hs → ¬ (standing h ≡ 3) → Awake (set hs t h)
awake-set [] t h a n u = a u
awake-set (x ∷ hs) zero h a n zero = n
awake-set (x ∷ hs) zero h a n (suc u) = a (suc u)
awake-set (x ∷ hs) (suc t) h a n zero = a zero
awake-set (x ∷ hs) (suc t) h a n (suc u) = awake-set hs t h (λ v. a (suc v)) n u

-- a parent whose child has ended runs, is ready or stays as it was
pub awake-after : (b : Bool) (q : Thread) → ¬ (standing q ≡ 3) → ¬ (status_number (status_after b q) ≡ 3)
unfolding status_after
awake-after true q n e = omega arith
awake-after false q n e = go (wakes false q) e
  where
    go : (w : Bool) → ¬ (status_number (cond w Ready q.status) ≡ 3)
    go true f = omega arith
    go false f = n f

-- THE READY QUEUE gains one thread at most
appended-most : (cap : ℕ) (xs : List ℕ) (n : ℕ) → length (appended cap xs n) ≤ suc (length xs)
unfolding appended
appended-most cap xs n = go (ltb (length xs) cap)
  where
    go : (b : Bool) → length (cond b (xs ++ (n ∷ [])) xs) ≤ suc (length xs)
    go true = let z = length-append xs (n ∷ []) in omega arith
    go false = omega arith

pub ready-most : (b : Bool) (q : Thread) (p : ℕ) (ready : List ℕ) → length (ready_after b q p ready) ≤ suc (length ready)
unfolding ready_after
ready-most b q p ready = go (wakes b q)
  where
    go : (w : Bool) → length (cond w (appended capacity ready p) ready) ≤ suc (length ready)
    go true = appended-most capacity ready p
    go false = omega arith

-- none where a connected child has ended
pub ready-same : (q : Thread) (p : ℕ) (ready : List ℕ) → ready_after true q p ready ≡ ready
unfolding ready_after wakes
ready-same q p ready = refl

-- CHANGES. The cores and the ready queue are as they were
pub few-same : (s s' : State) → Few s → Awake s'.threads → s'.cores ≡ s.cores → s'.count ≡ s.count → s'.queues.ready ≡ s.queues.ready
    → Few s'
few-same s s' few awake cores count ready = record {
  awake = awake;
  room =
      let n = ap (busy_among s') count in
      let x = busy-same s s' s.count (λ d l. ap (λ cs. get_or cs d 0) cores) in
      let y = ap length ready in
      let z = few.room in
      omega arith;
}

-- one core is given another thread, or none
pub few-changed : (s s' : State) → Few s → Awake s'.threads → (c x : ℕ) → c < s.count → s'.cores ≡ set s.cores c x → s'.count ≡ s.count
    → busy_at s' c + length s'.queues.ready ≤ busy_at s c + length s.queues.ready → Few s'
few-changed s s' few awake c x l cores count less = record {
  awake = awake;
  room =
      let n = ap (busy_among s') count in
      let y = busy-changed s s' c s.count l (λ d m. rw cores (get_or-set_other s.cores c d x 0 m)) in
      let z = few.room in
      omega arith;
}
