-- The threads at work, in a list: those on the busy cores, then the ready ones. Assumes nothing.
use mathlib.Core.Bool.{Bool, true, false, cond}
use mathlib.Core.List.{List, [], ◌∷◌, ◌++◌}
use mathlib.Core.Logic.{inl, inr}
use mathlib.Core.Path.{◌≡◌, refl, sym, ap}
use Prim.Native.Nat.{ℕ, zero, suc, ◌+◌, ◌<◌}
use native.Mathlib.Decide.{ℕ_discrete}
use native.Mathlib.Omega.{arith}
use lib.ListN.{get_or, length, length-append}
use borrow.Author.Tests.{lt-ltb}
use Rattle.thread.specs.Thread.{none}
use Rattle.rules.specs.State.{State, on_core, is_busy}
use Rattle.rules.specs.Lists.{Member}
use Rattle.soundness.proofs.Queues.{member-left}
use Rattle.lonecore.proofs.FewRunning.{busy_among}

-- the threads on the first n cores
unfoldable running_on : State → ℕ → List ℕ
running_on s zero = []
running_on s (suc n) = cond (is_busy s n) (on_core s n ∷ running_on s n) (running_on s n)

pub working : State → List ℕ
working s = running_on s s.count ++ s.queues.ready

running-length : (s : State) (n : ℕ) → length (running_on s n) ≡ busy_among s n
unfolding running_on busy_among
running-length s zero = refl
running-length s (suc n) = go (is_busy s n) (running-length s n)
  where
    go : (b : Bool) → length (running_on s n) ≡ busy_among s n
        → length (cond b (on_core s n ∷ running_on s n) (running_on s n)) ≡ cond b 1 0 + busy_among s n
    go true e = omega arith
    go false e = omega arith

pub working-length : (s : State) → length (working s) ≡ busy_among s s.count + length s.queues.ready
unfolding working
working-length s =
    let a = length-append (running_on s s.count) s.queues.ready in
    let b = running-length s s.count in
    omega arith

running-member : (s : State) (c n : ℕ) → c < n → on_core s c < none → Member (on_core s c) (running_on s n)
unfolding running_on
running-member s c zero l b = absurd (omega arith)
running-member s c (suc n) l b = go (ℕ_discrete c n) (is_busy s n) refl (λ m. running-member s c n m b)
  where
    go : Dec (c ≡ n) → (x : Bool) → is_busy s n ≡ x → (c < n → Member (on_core s c) (running_on s n))
        → Member (on_core s c) (cond x (on_core s n ∷ running_on s n) (running_on s n))
    go (yes e) true f rec = inl (ap (on_core s) e)
    go (yes e) false f rec = absurd (let y = lt-ltb _ _ (rw e at b) in let z : ◌≡◌ {A = ℕ} 0 1 = cc in omega arith)
    go (no d) true f rec = inr (rec (omega arith))
    go (no d) false f rec = rec (omega arith)

-- who runs is in it
pub running-works : (s : State) (c : ℕ) → c < s.count → on_core s c < none → Member (on_core s c) (working s)
unfolding working
running-works s c l b = member-left (on_core s c) (running_on s s.count) s.queues.ready (running-member s c s.count l b)

member_right : (u : ℕ) (xs ys : List ℕ) → Member u ys → Member u (xs ++ ys)
member_right u [] ys h = h
member_right u (x ∷ xs) ys h = inr (member_right u xs ys h)

-- and who is ready
pub ready-works : (s : State) (u : ℕ) → Member u s.queues.ready → Member u (working s)
unfolding working
ready-works s u m = member_right u (running_on s s.count) s.queues.ready m

-- a place where a member stands
pub member-index : (a : ℕ) (xs : List ℕ) → Member a xs → (k : ℕ) × (k < length xs) × (get_or xs k 0 ≡ a)
member-index a [] m = elim m [ ]
member-index a (x ∷ xs) (inl e) = (0, omega arith, sym e)
member-index a (x ∷ xs) (inr m) = let z = member-index a xs m in (suc z.0, (let l = z.1 in omega arith), z.2)
