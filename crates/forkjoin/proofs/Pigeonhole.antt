-- The pigeonhole principle: n different numbers below m are at most m many. `DepthBound` counts a thread and its ancestors with it,
-- which have different thread numbers.
use mathlib.Core.Path.{◌∙◌, ◌≡◌, sym}
use mathlib.Core.Logic.{ite}
use Prim.Native.Nat.{◌<◌, ◌≤◌, suc, zero, ℕ}
use native.Mathlib.Decide.{ℕ_discrete}
use native.Mathlib.Omega.{arith}

pub pigeonhole : (m n : ℕ) (f : ℕ → ℕ) → ((i : ℕ) → i < n → f i < m) → ((i j : ℕ) → i < n → j < n → f i ≡ f j → i ≡ j) → n ≤ m
pigeonhole zero zero f b inj = omega arith
pigeonhole zero (suc n) f b inj = let h = b 0 (omega arith) in absurd (omega arith)
pigeonhole (suc m) zero f b inj = omega arith
pigeonhole (suc m) (suc n) f b inj = let h = pigeonhole m n g b' inj' in omega arith
  where
    last : f n < suc m
    last = b n (omega arith)

    g : ℕ → ℕ
    g i = ite (ℕ_discrete (f i) m) (f n) (f i)

    b' : (i : ℕ) → i < n → g i < m
    b' i h = go (ℕ_discrete (f i) m)
      where
        go : (o : Dec (f i ≡ m)) → ite o (f n) (f i) < m
        go (yes e) = near (ℕ_discrete (f n) m)
          where
            near : Dec (f n ≡ m) → f n < m
            near (yes e') = let z = inj i n (omega arith) (omega arith) (e ∙ sym e') in absurd (omega arith)
            near (no d) = omega (arith, last)
        go (no d) = let z = b i (omega arith) in omega arith

    inj' : (i j : ℕ) → i < n → j < n → g i ≡ g j → i ≡ j
    inj' i j h k = go (ℕ_discrete (f i) m) (ℕ_discrete (f j) m)
      where
        go : (o : Dec (f i ≡ m)) (p : Dec (f j ≡ m)) → ite o (f n) (f i) ≡ ite p (f n) (f j) → i ≡ j
        go (yes e) (yes e') x = inj i j (omega arith) (omega arith) (e ∙ sym e')
        go (yes e) (no d) x = let z = inj n j (omega arith) (omega arith) x in absurd (omega arith)
        go (no d) (yes e) x = let z = inj i n (omega arith) (omega arith) x in absurd (omega arith)
        go (no d) (no d') x = inj i j (omega arith) (omega arith) x
