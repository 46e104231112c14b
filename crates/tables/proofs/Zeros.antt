-- Tables that are all zeros: a free record for each thread, and nothing charged. Assumes nothing.
use Rattle.std.proofs.Common.{◌≡◌, ℕ, zero, suc, ◌+◌, ◌<◌, ◌≤◌, ◌⊎◌, List, ◌∷◌, length, get_or, set, replicate, sym, refl, ap, ◌∙◌, inl, inr, ⊎_elim, arith, get_or-set_other, get_or-set_same, ext_get_or}
use lib.ListN.{length-replicate, get_or-replicate, get_or-eq_default}
use Rattle.thread.specs.Thread.{blank_thread}
use Rattle.cells.proofs.Laws.{blank}
use Rattle.rules.specs.State.{going}
use Rattle.tables.specs.Cells.{from}
use Rattle.tables.specs.Meaning.{threads_in, cores_in, units_in, outcome_in}
use Rattle.tables.proofs.Runs.{from-same}

lt-or-le : (x c : ℕ) → (x < c) ⊎ (c ≤ x)
lt-or-le x zero = inr (omega arith)
lt-or-le zero (suc c) = inl (omega arith)
lt-or-le (suc x) (suc c) = ⊎_elim (λ h. inl (omega arith)) (λ h. inr (omega arith)) (lt-or-le x c)

-- the first n cells are zero
abbrev pub ZeroBelow : ℕ → List ℕ → Type 0
ZeroBelow n xs = (k : ℕ) → k < n → get_or xs k 0 ≡ 0

pub zero_more : (xs : List ℕ) (i : ℕ) → i < length xs → ZeroBelow i xs → ZeroBelow (i + 1) (set xs i 0)
zero_more xs i l z k h =
    ⊎_elim (λ p. get_or-set_other xs i k 0 0 (λ e. omega arith) ∙ z k p) (λ p. let e : k ≡ i = omega arith in rw e (get_or-set_same xs i 0 0 l)) (lt-or-le k i)

pub all-zero : (xs : List ℕ) (n i : ℕ) → length xs ≡ n → n ≤ i → ZeroBelow i xs → xs ≡ replicate n 0
all-zero xs n i e l z =
    ext_get_or 0 xs (replicate n 0) (e ∙ sym (length-replicate n 0)) (λ k h. z k (omega arith) ∙ sym (get_or-replicate n k 0 0 (omega arith)))

constant {ℓ} : {A : Type ℓ} (k n : ℕ) (a : A) → from k n (λ _. a) ≡ replicate n a
unfolding from
constant k zero a = refl
constant k (suc n) a = ap (λ l. a ∷ l) (constant (suc k) n a)

module _ (xs : List ℕ) (z : (k : ℕ) → get_or xs k 0 ≡ 0) where
  pub zero-threads : threads_in xs ≡ replicate 32 blank_thread
  unfolding threads_in
  zero-threads = from-same 0 32 _ _ (λ t l m. blank xs z _) ∙ constant 0 32 blank_thread

  pub zero-cores : cores_in xs ≡ replicate 4 0
  unfolding cores_in
  zero-cores = from-same 0 4 _ _ (λ c l m. z _) ∙ constant 0 4 0

  pub zero-units : units_in xs ≡ 0
  unfolding units_in
  zero-units = rw (z 772, z 773, z 774, z 775)

  pub zero-outcome : outcome_in xs ≡ going
  unfolding outcome_in
  zero-outcome = rw (z 777)

-- zeros read as zero at every place
pub zeros : (n k : ℕ) → ◌≡◌ {A = ℕ} (get_or (replicate n 0) k 0) 0
zeros n k = ⊎_elim (λ h. get_or-replicate n k 0 0 h) (λ h. get_or-eq_default (replicate n 0) 0 (rw (length-replicate {A = ℕ} n 0) h)) (lt-or-le k n)
