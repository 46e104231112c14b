-- A count of a thread's children among the first n thread numbers. A machine keeps such a count; a join of the pool needs that no thread
-- is a child (`alone`).
use mathlib.Core.Path.{◌∙◌, ◌≡◌, ap, refl, sym}
use mathlib.Core.Logic.{ite}
use Prim.Native.Nat.{◌+◌, ◌<◌, ◌≤◌, suc, zero, ℕ}
use native.Mathlib.Decide.{ℕ_discrete}
use native.Mathlib.Omega.{arith}
use Rattle.forkjoin.proofs.Update.{update}
use Rattle.forkjoin.proofs.ThreadPool.{Cell, child, free, root, used}

-- children of thread t among the first n numbers
module _ {R : Type 0} where
  abbrev pub is-child : Cell R → ℕ → ℕ
  is-child free t = 0
  is-child (used r root) t = 0
  is-child (used r (child q d)) t = ite (ℕ_discrete q t) 1 0

  abbrev pub children : (ℕ → Cell R) → ℕ → ℕ → ℕ
  children f t zero = 0
  children f t (suc n) = is-child (f n) t + children f t n

  -- a count of zero is what a join needs
  pub alone : (f : ℕ → Cell R) (t n : ℕ) → children f t n ≡ 0 → (b : ℕ) → b < n → (r : R) (d : ℕ) → f b ≡ used r (child t d) → ⊥
  alone f t zero h b k r d e = omega arith
  alone f t (suc n) h b k r d e = go (ℕ_discrete b n) (λ x. alone f t n (omega arith) b x r d e)
    where
      one : (o : Dec (t ≡ t)) → ◌≡◌ {A = ℕ} (ite o 1 0) 1
      one (yes _) = refl
      one (no x) = absurd (x refl)

      go : Dec (b ≡ n) → (b < n → ⊥) → ⊥
      go (yes x) _ =
          let y : is-child (f n) t ≡ 1 = ap (λ z. is-child (f z) t) (sym x) ∙ ap (λ z. is-child z t) e ∙ one (ℕ_discrete t t) in
          omega arith
      go (no x) rec = rec (omega arith)

  -- how the count moves when a cell changes
  pub children-update : (f : ℕ → Cell R) (t n b : ℕ) (c : Cell R) → b < n
      → children (update f b c) t n + is-child (f b) t ≡ children f t n + is-child c t
  children-update f t zero b c h = absurd (omega arith)
  children-update f t (suc n) b c h = go (ℕ_discrete n b) (λ x. children-update f t n b c x)
    where
      out : (m : ℕ) → m ≤ b → children (update f b c) t m ≡ children f t m
      out zero k = refl
      out (suc m) k = step (ℕ_discrete m b) (out m (omega arith))
        where
          step : (o : Dec (m ≡ b)) → children (update f b c) t m ≡ children f t m
              → is-child (ite o c (f m)) t + children (update f b c) t m ≡ is-child (f m) t + children f t m
          step (yes x) e = absurd (omega arith)
          step (no x) e = omega arith

      go : (o : Dec (n ≡ b)) → (b < n → children (update f b c) t n + is-child (f b) t ≡ children f t n + is-child c t)
          → (is-child (ite o c (f n)) t + children (update f b c) t n) + is-child (f b) t ≡ (is-child (f n) t + children f t n) + is-child c t
      go (yes x) _ = let y = out n (omega arith) in let z : is-child (f n) t ≡ is-child (f b) t = ap (λ w. is-child (f w) t) x in omega arith
      go (no x) rec = let y = rec (omega arith) in omega arith
