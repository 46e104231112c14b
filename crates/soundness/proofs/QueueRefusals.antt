-- Each number of a take and of an enable is logged exactly under its condition: document 01, "Who can cause which number". Assumes nothing.
use mathlib.Core.Bool.{Bool, true, false, ◌&&◌}
use mathlib.Core.List.{[]}
use mathlib.Core.Logic.{◌⊎◌, inl, inr, ◌↔◌}
use mathlib.Core.Path.{◌≡◌, refl, ap}
use Prim.Native.Nat.{ℕ, ◌<◌, ◌≤◌}
use native.Mathlib.Omega.{arith}
use lib.Dec.{ltb}
use borrow.Author.Tests.{lt-ltb, le-ltb, lt-leb, le-leb, ltb-true, eqb-true}
use Rattle.command.proofs.Bools.{both}
use Rattle.thread.specs.declared.Status.TheVariants.{Suspended}
use Rattle.thread.specs.Thread.{none, ◌is◌}
use Rattle.rules.specs.State.{State, going, is_over, thread_at, on_core}
use Rattle.rules.specs.Rules.{take_into, take_of, enable_of}
use Rattle.rules.specs.Sound.{status_at}
use Rattle.soundness.proofs.Logs.{TakeLog, take_over, take_no_core, take_busy, take_empty, take_accepted, take-log, EnableLog, enable_over, enable_awake, enable_accepted, enable-log}

-- TAKE
module _ (s : State) (c : ℕ) where
  record TakeMeans (n : ℕ) : Type 0 where
    number19 : n ≡ 19 → is_over s.outcome ≡ true
    number14 : n ≡ 14 → (s.outcome ≡ going) × (s.count ≤ c)
    number15 : n ≡ 15 → (s.outcome ≡ going) × (c < s.count) × (on_core s c < none)
    number16 : n ≡ 16 → (s.outcome ≡ going) × (c < s.count) × (none ≤ on_core s c) × (s.queues.ready ≡ [])

  take-means : {n : ℕ} → TakeLog s c n → TakeMeans n
  take-means (take_over x o) = record {
    number19 = λ e. o;
    number14 = λ e. absurd (omega arith);
    number15 = λ e. absurd (omega arith);
    number16 = λ e. absurd (omega arith);
  }
  take-means (take_no_core x o l) = record {
    number19 = λ e. absurd (omega arith);
    number14 = λ e. (o, l);
    number15 = λ e. absurd (omega arith);
    number16 = λ e. absurd (omega arith);
  }
  take-means (take_busy x o l b) = record {
    number19 = λ e. absurd (omega arith);
    number14 = λ e. absurd (omega arith);
    number15 = λ e. (o, l, b);
    number16 = λ e. absurd (omega arith);
  }
  take-means (take_empty x o l i r) = record {
    number19 = λ e. absurd (omega arith);
    number14 = λ e. absurd (omega arith);
    number15 = λ e. absurd (omega arith);
    number16 = λ e. (o, l, i, r);
  }
  take-means (take_accepted x) = record {
    number19 = λ e. absurd (omega arith);
    number14 = λ e. absurd (omega arith);
    number15 = λ e. absurd (omega arith);
    number16 = λ e. absurd (omega arith);
  }

  taken : TakeMeans (take_of s c).log
  taken = take-means (take-log s c)

  pub take-19 : ((take_of s c).log ≡ 19) ↔ (is_over s.outcome ≡ true)
  unfolding take_of
  take-19 = (taken.number19, λ o. rw o)

  pub take-14 : ((take_of s c).log ≡ 14) ↔ ((s.outcome ≡ going) × (s.count ≤ c))
  unfolding take_of
  take-14 = (taken.number14, λ z. rw (ap is_over z.0, le-leb s.count c z.1))

  -- "15 .. take or steal for a busy one"
  pub take-15 : ((take_of s c).log ≡ 15) ↔ ((s.outcome ≡ going) × (c < s.count) × (on_core s c < none))
  unfolding take_of
  take-15 = (taken.number15, λ z. rw (ap is_over z.0, lt-leb s.count c z.1, lt-ltb (on_core s c) none z.2))

  -- "16 line empty"
  pub take-16 : ((take_of s c).log ≡ 16) ↔ ((s.outcome ≡ going) × (c < s.count) × (none ≤ on_core s c) × (s.queues.ready ≡ []))
  unfolding take_of take_into
  take-16 = (
    taken.number16,
    λ z.
        rw (ap is_over z.0, lt-leb s.count c z.1, le-ltb (on_core s c) none z.2) (ap (λ ts. (take_into s c ts).log) z.3),
  )

  -- no other number is logged
  pub take-numbers : ((take_of s c).log ≡ 0) ⊎ (((14 ≤ (take_of s c).log) × ((take_of s c).log ≤ 16)) ⊎ ((take_of s c).log ≡ 19))
  take-numbers = go (take-log s c)
    where
      go : {n : ℕ} → TakeLog s c n → (n ≡ 0) ⊎ (((14 ≤ n) × (n ≤ 16)) ⊎ (n ≡ 19))
      go (take_over x _) = inr (inr x)
      go (take_no_core x _ _) = inr (inl (omega arith, omega arith))
      go (take_busy x _ _ _) = inr (inl (omega arith, omega arith))
      go (take_empty x _ _ _ _) = inr (inl (omega arith, omega arith))
      go (take_accepted x) = inl x

-- ENABLE
module _ (s : State) (t : ℕ) where
  pub enable-19 : ((enable_of s t).log ≡ 19) ↔ (is_over s.outcome ≡ true)
  unfolding enable_of
  enable-19 = (go (enable-log s t), λ o. rw o)
    where
      go : {n : ℕ} → EnableLog s t n → n ≡ 19 → is_over s.outcome ≡ true
      go (enable_over x o) e = o
      go (enable_awake x o k) e = absurd (omega arith)
      go (enable_accepted x) e = absurd (omega arith)

  -- "17 thread not suspended or above 31"
  pub enable-17 : ((enable_of s t).log ≡ 17) ↔ ((s.outcome ≡ going) × (¬ ((t < 32) × (status_at s t ≡ 3))))
  unfolding enable_of
  enable-17 = (go (enable-log s t), λ z. rw (ap is_over z.0, not-suspended z.1))
    where
      go : {n : ℕ} → EnableLog s t n → n ≡ 17 → (s.outcome ≡ going) × (¬ ((t < 32) × (status_at s t ≡ 3)))
      go (enable_over x o) e = absurd (omega arith)
      go (enable_awake x o k) e = (o, k)
      go (enable_accepted x) e = absurd (omega arith)

      not-suspended : ¬ ((t < 32) × (status_at s t ≡ 3)) → (ltb t 32 && (thread_at s t).status is Suspended) ≡ false
      not-suspended k = test (ltb t 32 && (thread_at s t).status is Suspended) refl
        where
          test : (b : Bool) → (ltb t 32 && (thread_at s t).status is Suspended) ≡ b → (ltb t 32 && (thread_at s t).status is Suspended) ≡ false
          test true e = let (a, d) = both (ltb t 32) ((thread_at s t).status is Suspended) e in absurd (k (ltb-true _ _ a, eqb-true _ _ d))
          test false e = e

  -- no other number is logged
  pub enable-numbers : ((enable_of s t).log ≡ 0) ⊎ (((enable_of s t).log ≡ 17) ⊎ ((enable_of s t).log ≡ 19))
  enable-numbers = go (enable-log s t)
    where
      go : {n : ℕ} → EnableLog s t n → (n ≡ 0) ⊎ ((n ≡ 17) ⊎ (n ≡ 19))
      go (enable_over x _) = inr (inr x)
      go (enable_awake x _ _) = inr (inl x)
      go (enable_accepted x) = inl x
