-- How many threads are at work: the busy cores and the ready queue. In a state that is `Few` they are together at most as many as the
-- cores, and no thread is suspended. Assumes nothing.
use mathlib.Core.Bool.{Bool, true, false, cond}
use mathlib.Core.Path.{◌≡◌, refl, ap}
use Prim.Native.Nat.{ℕ, zero, suc, ◌+◌, ◌≤◌, ◌<◌}
use native.Mathlib.Decide.{ℕ_discrete}
use native.Mathlib.Omega.{arith}
use lib.Dec.{ltb}
use lib.ListN.{length}
use borrow.Author.Tests.{lt-ltb, le-ltb}
use Rattle.thread.specs.Thread.{none}
use Rattle.rules.specs.State.{State, After, going, on_core, is_busy}
use Rattle.rules.specs.Sound.{status_at}

-- 1 for a busy core, 0 for an idle one
abbrev pub busy_at : State → ℕ → ℕ
busy_at s c = cond (is_busy s c) 1 0

-- the busy ones of the first n cores
unfoldable pub busy_among : State → ℕ → ℕ
busy_among s zero = 0
busy_among s (suc n) = busy_at s n + busy_among s n

pub record Few (s : State) : Type 0 where
  pub awake : (u : ℕ) → ¬ (status_at s u ≡ 3)
  pub room : busy_among s s.count + length s.queues.ready ≤ s.count

-- what an entry gives is so while the machine goes on
abbrev pub StaysFew : After → Type 0
StaysFew a = a.state.outcome ≡ going → Few a.state

-- COUNTS. Of one core
pub busy-one : (s : State) (c : ℕ) → on_core s c < none → busy_at s c ≡ 1
busy-one s c l = rw (lt-ltb _ _ l)

pub idle-zero : (s : State) (c : ℕ) → none ≤ on_core s c → busy_at s c ≡ 0
idle-zero s c l = rw (le-ltb _ _ l)

pub one-most : (s : State) (c : ℕ) → busy_at s c ≤ 1
one-most s c = go (is_busy s c)
  where
    go : (b : Bool) → cond b 1 0 ≤ 1
    go true = omega arith
    go false = omega arith

-- of n cores: at most n
pub busy-most : (s : State) (n : ℕ) → busy_among s n ≤ n
unfolding busy_among
busy-most s zero = omega arith
busy-most s (suc n) = let x = one-most s n in let y = busy-most s n in omega arith

-- fewer where one is idle
pub idle-fewer : (s : State) (c n : ℕ) → c < n → none ≤ on_core s c → busy_among s n < n
unfolding busy_among
idle-fewer s c zero l i = absurd (omega arith)
idle-fewer s c (suc n) l i = go (ℕ_discrete c n) (λ m. idle-fewer s c n m i)
  where
    go : Dec (c ≡ n) → (c < n → busy_among s n < n) → busy_at s n + busy_among s n < suc n
    go (yes e) rec = let x = idle-zero s n (rw e at i) in let y = busy-most s n in omega arith
    go (no d) rec = let q = rec (omega arith) in let x = one-most s n in omega arith

-- where the cores are the same ones, and where one has changed
pub busy-same : (s s' : State) (n : ℕ) → ((d : ℕ) → d < n → on_core s' d ≡ on_core s d) → busy_among s' n ≡ busy_among s n
unfolding busy_among
busy-same s s' zero h = refl
busy-same s s' (suc n) h =
    let x = busy-same s s' n (λ d l. h d (omega arith)) in
    let y : busy_at s' n ≡ busy_at s n = ap (λ t. cond (ltb t none) 1 0) (h n (omega arith)) in
    omega arith

pub busy-changed : (s s' : State) (c n : ℕ) → c < n → ((d : ℕ) → ¬ (d ≡ c) → on_core s' d ≡ on_core s d)
    → busy_among s' n + busy_at s c ≡ busy_among s n + busy_at s' c
unfolding busy_among
busy-changed s s' c zero l h = absurd (omega arith)
busy-changed s s' c (suc n) l h = go (ℕ_discrete n c) (λ m. busy-changed s s' c n m h)
  where
    go : Dec (n ≡ c) → (c < n → busy_among s' n + busy_at s c ≡ busy_among s n + busy_at s' c)
        → (busy_at s' n + busy_among s' n) + busy_at s c ≡ (busy_at s n + busy_among s n) + busy_at s' c
    go (yes e) rec =
        let z = busy-same s s' n (λ d m. h d (λ q. omega arith)) in
        let x : busy_at s' n ≡ busy_at s' c = ap (busy_at s') e in
        let y : busy_at s n ≡ busy_at s c = ap (busy_at s) e in
        omega arith
    go (no m) rec =
        let q = rec (omega arith) in
        let y : busy_at s' n ≡ busy_at s n = ap (λ t. cond (ltb t none) 1 0) (h n m) in
        omega arith
