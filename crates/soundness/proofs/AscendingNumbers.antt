-- Ascending numbers, as they stand in a queue of free ones at first: what they are, and that none stands twice. Assumes nothing.
use mathlib.Core.List.{◌∷◌}
use mathlib.Core.Logic.{inl, inr}
use mathlib.Core.Path.{◌≡◌}
use Prim.Native.Nat.{ℕ, zero, suc, ◌+◌, ◌≤◌, ◌<◌}
use native.Mathlib.Decide.{ℕ_discrete}
use native.Mathlib.Omega.{arith}
use Rattle.queue.specs.Contents.{ascending_from}
use Rattle.rules.specs.Lists.{Every, Member, Distinct}

-- what holds of the numbers from k on holds of each
pub ascending-every : (P : ℕ → Type 0) (k n : ℕ) → ((x : ℕ) → k ≤ x → x < k + n → P x) → Every P (ascending_from k n)
ascending-every P k zero f = tt
ascending-every P k (suc n) f = (f k (omega arith) (omega arith), ascending-every P (suc k) n (λ x l m. f x (omega arith) (omega arith)))

pub ascending-least : (k n x : ℕ) → Member x (ascending_from k n) → k ≤ x
ascending-least k zero x m = absurd m
ascending-least k (suc n) x (inl e) = omega arith
ascending-least k (suc n) x (inr m) = let h = ascending-least (suc k) n x m in omega arith

pub ascending-distinct : (k n : ℕ) → Distinct (ascending_from k n)
ascending-distinct k zero = tt
ascending-distinct k (suc n) = (λ m. let h = ascending-least (suc k) n k m in omega arith, ascending-distinct (suc k) n)

pub ascending-stands : (k n x : ℕ) → k ≤ x → x < k + n → Member x (ascending_from k n)
ascending-stands k zero x l m = absurd (omega arith)
ascending-stands k (suc n) x l m = go (ℕ_discrete x k) (λ h. ascending-stands (suc k) n x h (omega arith))
  where
    go : Dec (x ≡ k) → (suc k ≤ x → Member x (ascending_from (suc k) n)) → Member x (k ∷ ascending_from (suc k) n)
    go (yes e) f = inl e
    go (no d) f = inr (f (omega arith))
