-- A function that is changed at one place: memory words by address, slots by number, a thread table by thread number. The serial run
-- and the thread pool change their state by it.
use mathlib.Core.Path.{◌≡◌, refl}
use mathlib.Core.Logic.{ite}
use Prim.Native.Nat.{ℕ}
use native.Mathlib.Decide.{ℕ_discrete}

abbrev pub update : {A : Type 0} → (ℕ → A) → ℕ → A → (ℕ → A)
update f k a x = ite (ℕ_discrete x k) a (f x)

pub update_same : {A : Type 0} (f : ℕ → A) (k : ℕ) (a : A) → update f k a k ≡ a
update_same f k a = go (ℕ_discrete k k)
  where
    go : (o : Dec (k ≡ k)) → ite o a (f k) ≡ a
    go (yes _) = refl
    go (no h) = absurd (h refl)

pub update_other : {A : Type 0} (f : ℕ → A) (k : ℕ) (a : A) (x : ℕ) → ¬ (x ≡ k) → update f k a x ≡ f x
update_other f k a x n = go (ℕ_discrete x k)
  where
    go : (o : Dec (x ≡ k)) → ite o a (f x) ≡ f x
    go (yes h) = absurd (n h)
    go (no _) = refl
