-- Each number of a steal is logged exactly under its condition, in every sound state: document 01, "Who can cause which number". Assumes
-- nothing but that the state is sound.
use mathlib.Core.Bool.{Bool, true, false}
use mathlib.Core.List.{[]}
use mathlib.Core.Logic.{◌⊎◌, inl, inr, ⊎_elim, ◌↔◌}
use mathlib.Core.Path.{◌≡◌, refl, sym, ◌∙◌, ap}
use Prim.Native.Nat.{ℕ, ◌-◌, ◌<◌, ◌≤◌}
use native.Mathlib.Omega.{arith}
use borrow.Author.Tests.{lt-ltb, le-ltb, lt-leb, le-leb}
use Rattle.thread.specs.declared.Fault.{Fault}
use Rattle.thread.specs.declared.Fault.TheVariants.{SlotPending, AddressNotAllowed, CutOutOfRange, ReturnPending, ShareOutOfRange}
use Rattle.thread.specs.declared.Effect.TheVariants.{Faults}
use Rattle.thread.specs.declared.Thread.{Thread}
use Rattle.thread.specs.Effect.{IsFault, number_of_fault}
use Rattle.thread.proofs.FaultNumbers.{is_fault, same_fault}
use Rattle.thread.specs.Thread.{none}
use Rattle.rules.specs.declared.ForkKind.TheVariants.{Stolen}
use Rattle.rules.specs.State.{Job, State, going, is_over, thread_at, on_core}
use Rattle.rules.specs.Turn.{turn_at, effect_at}
use Rattle.rules.specs.Fork.{Asked, asked, goes_above, fork_of}
use Rattle.rules.specs.Rules.{is_seed, stolen_of, steal_of}
use Rattle.rules.specs.Sound.{Sound}
use Rattle.soundness.proofs.Entries.{Seed, Seeded, seed-true}
use Rattle.soundness.proofs.Exactly.{exactly-and}
use Rattle.soundness.proofs.Faults.{Condition9, Condition10, Condition11, Condition12, Next, next-9, next-10, next-11, next-12, next-31}
use Rattle.soundness.proofs.Tested.{no-fault, seed-shares}
use Rattle.soundness.proofs.Logs.{DearSeed, SeedForks, true-seed, StealLog, steal_over, steal_no_core, steal_busy, steal_no_seed, steal_dear, steal_faults, steal_few_threads, steal_few_stacklets, steal_accepted, steal-log}
use Rattle.soundness.proofs.Refusals.{few-threads, few-stacklets}

-- the test of a seed
no-seed : (j : Job) (s : State) (t : ℕ) → ¬ (Seed j s t) → is_seed j s t ≡ false
no-seed j s t k = go (is_seed j s t) refl
  where
    go : (b : Bool) → is_seed j s t ≡ b → is_seed j s t ≡ false
    go true e = absurd (k (seed-true j s t e))
    go false e = e

-- a seed never goes above its parent's frame
stolen-above : (j : Job) (s : State) (h : Thread) (r : ℕ) → goes_above j s Stolen h r ≡ false
unfolding goes_above
stolen-above j s h r = refl

-- STEAL
module _ (j : Job) (s : State) (sound : Sound j s) (c t : ℕ) where
  record StealMeans (n : ℕ) : Type 0 where
    number19 : n ≡ 19 → is_over s.outcome ≡ true
    number14 : n ≡ 14 → (s.outcome ≡ going) × (s.count ≤ c)
    number15 : n ≡ 15 → (s.outcome ≡ going) × (c < s.count) × (on_core s c < none)
    number18 : n ≡ 18 → (s.outcome ≡ going) × (c < s.count) × (none ≤ on_core s c) × (¬ (Seed j s t))
    number22 : n ≡ 22 → DearSeed j s c t
    fault : IsFault n → (f : Fault) × (n ≡ number_of_fault f) × Seeded j s c t × (effect_at j s (thread_at s t) ≡ Faults f)
    number20 : n ≡ 20 → Seeded j s c t × (r : ℕ) × SeedForks j s t r × (s.queues.free_threads ≡ [])
    number21 : n ≡ 21 → Seeded j s c t × (r : ℕ) × SeedForks j s t r × (¬ (s.queues.free_threads ≡ [])) × (s.queues.free_stacklets ≡ [])

  steal-means : {n : ℕ} → StealLog j s c t n → StealMeans n
  steal-means (steal_over x o) = record {
    number19 = λ e. o;
    number14 = λ e. absurd (omega arith);
    number15 = λ e. absurd (omega arith);
    number18 = λ e. absurd (omega arith);
    number22 = λ e. absurd (omega arith);
    fault = λ l. absurd (no-fault _ l (inr (omega arith, omega arith)));
    number20 = λ e. absurd (omega arith);
    number21 = λ e. absurd (omega arith);
  }
  steal-means (steal_no_core x o l) = record {
    number19 = λ e. absurd (omega arith);
    number14 = λ e. (o, l);
    number15 = λ e. absurd (omega arith);
    number18 = λ e. absurd (omega arith);
    number22 = λ e. absurd (omega arith);
    fault = λ l. absurd (no-fault _ l (inr (omega arith, omega arith)));
    number20 = λ e. absurd (omega arith);
    number21 = λ e. absurd (omega arith);
  }
  steal-means (steal_busy x o l b) = record {
    number19 = λ e. absurd (omega arith);
    number14 = λ e. absurd (omega arith);
    number15 = λ e. (o, l, b);
    number18 = λ e. absurd (omega arith);
    number22 = λ e. absurd (omega arith);
    fault = λ l. absurd (no-fault _ l (inr (omega arith, omega arith)));
    number20 = λ e. absurd (omega arith);
    number21 = λ e. absurd (omega arith);
  }
  steal-means (steal_no_seed x o l i k) = record {
    number19 = λ e. absurd (omega arith);
    number14 = λ e. absurd (omega arith);
    number15 = λ e. absurd (omega arith);
    number18 = λ e. (o, l, i, k);
    number22 = λ e. absurd (omega arith);
    fault = λ l. absurd (no-fault _ l (inr (omega arith, omega arith)));
    number20 = λ e. absurd (omega arith);
    number21 = λ e. absurd (omega arith);
  }
  steal-means (steal_dear x d) = record {
    number19 = λ e. absurd (omega arith);
    number14 = λ e. absurd (omega arith);
    number15 = λ e. absurd (omega arith);
    number18 = λ e. absurd (omega arith);
    number22 = λ e. d;
    fault = λ l. absurd (no-fault _ l (inr (omega arith, omega arith)));
    number20 = λ e. absurd (omega arith);
    number21 = λ e. absurd (omega arith);
  }
  steal-means {n} (steal_faults k f q h) = let z : IsFault n = rw h (is_fault f) in record {
    number19 = λ e. absurd (no-fault _ z (inr (omega arith, omega arith)));
    number14 = λ e. absurd (no-fault _ z (inr (omega arith, omega arith)));
    number15 = λ e. absurd (no-fault _ z (inr (omega arith, omega arith)));
    number18 = λ e. absurd (no-fault _ z (inr (omega arith, omega arith)));
    number22 = λ e. absurd (no-fault _ z (inr (omega arith, omega arith)));
    fault = λ l. (f, h, k, q);
    number20 = λ e. absurd (no-fault _ z (inr (omega arith, omega arith)));
    number21 = λ e. absurd (no-fault _ z (inr (omega arith, omega arith)));
  }
  steal-means (steal_few_threads x k r f u) = record {
    number19 = λ e. absurd (omega arith);
    number14 = λ e. absurd (omega arith);
    number15 = λ e. absurd (omega arith);
    number18 = λ e. absurd (omega arith);
    number22 = λ e. absurd (omega arith);
    fault = λ l. absurd (no-fault _ l (inr (omega arith, omega arith)));
    number20 = λ e. (k, r, f, u);
    number21 = λ e. absurd (omega arith);
  }
  steal-means (steal_few_stacklets x k r f u w) = record {
    number19 = λ e. absurd (omega arith);
    number14 = λ e. absurd (omega arith);
    number15 = λ e. absurd (omega arith);
    number18 = λ e. absurd (omega arith);
    number22 = λ e. absurd (omega arith);
    fault = λ l. absurd (no-fault _ l (inr (omega arith, omega arith)));
    number20 = λ e. absurd (omega arith);
    number21 = λ e. (k, r, f, u, w);
  }
  steal-means (steal_accepted x) = record {
    number19 = λ e. absurd (omega arith);
    number14 = λ e. absurd (omega arith);
    number15 = λ e. absurd (omega arith);
    number18 = λ e. absurd (omega arith);
    number22 = λ e. absurd (omega arith);
    fault = λ l. absurd (no-fault _ l (inl (omega arith)));
    number20 = λ e. absurd (omega arith);
    number21 = λ e. absurd (omega arith);
  }

  stolen : StealMeans (steal_of j s c t).log
  stolen = steal-means (steal-log j s sound c t)

  -- a steal that carries out its seed
  steal-carried : Seeded j s c t → steal_of j s c t ≡ stolen_of j s (turn_at j s c t) (effect_at j s (thread_at s t))
  unfolding steal_of
  steal-carried k =
      rw (
        ap is_over k.ongoing,
        lt-leb s.count c k.core,
        le-ltb (on_core s c) none k.idle,
        true-seed j s t (k.low, k.lent, k.byte),
        le-ltb (j.allowance - s.units) (turn_at j s c t).weight k.paid,
      )

  pub steal-19 : ((steal_of j s c t).log ≡ 19) ↔ (is_over s.outcome ≡ true)
  unfolding steal_of
  steal-19 = (stolen.number19, λ o. rw o)

  pub steal-14 : ((steal_of j s c t).log ≡ 14) ↔ ((s.outcome ≡ going) × (s.count ≤ c))
  unfolding steal_of
  steal-14 = (stolen.number14, λ z. rw (ap is_over z.0, le-leb s.count c z.1))

  pub steal-15 : ((steal_of j s c t).log ≡ 15) ↔ ((s.outcome ≡ going) × (c < s.count) × (on_core s c < none))
  unfolding steal_of
  steal-15 = (stolen.number15, λ z. rw (ap is_over z.0, lt-leb s.count c z.1, lt-ltb (on_core s c) none z.2))

  -- "18 thread above 31, not lent, or its next command not 08 or 09"
  pub steal-18 : ((steal_of j s c t).log ≡ 18) ↔ ((s.outcome ≡ going) × (c < s.count) × (none ≤ on_core s c) × (¬ (Seed j s t)))
  unfolding steal_of
  steal-18 = (stolen.number18, λ z. rw (ap is_over z.0, lt-leb s.count c z.1, le-ltb (on_core s c) none z.2, no-seed j s t z.3))

  pub steal-22 : ((steal_of j s c t).log ≡ 22) ↔ (DearSeed j s c t)
  unfolding steal_of
  steal-22 = (
    stolen.number22,
    λ k.
        rw (
          ap is_over k.ongoing,
          lt-leb s.count c k.core,
          le-ltb (on_core s c) none k.idle,
          true-seed j s t k.seed,
          lt-ltb (j.allowance - s.units) (turn_at j s c t).weight (let z = k.dear in omega arith),
        ),
  )

  pub steal-fault : (f : Fault) → (((steal_of j s c t).log ≡ number_of_fault f) ↔ (Seeded j s c t × (effect_at j s (thread_at s t) ≡ Faults f)))
  unfolding stolen_of
  steal-fault f = (
    λ e.
        let (g, h, k, q) = stolen.fault (rw e (is_fault f)) in
        (k, q ∙ ap Faults (same_fault g f (sym h ∙ e))),
    λ z.
        ap (λ a. a.log) (steal-carried z.0) ∙ ap (λ e. (stolen_of j s (turn_at j s c t) e).log) z.1,
  )

  pub steal-9 : ((steal_of j s c t).log ≡ 9) ↔ (Seeded j s c t × Next j s t Condition9)
  steal-9 = exactly-and (steal-fault SlotPending) (next-9 j s t)

  pub steal-10 : ((steal_of j s c t).log ≡ 10) ↔ (Seeded j s c t × Next j s t Condition10)
  steal-10 = exactly-and (steal-fault AddressNotAllowed) (next-10 j s t)

  pub steal-12 : ((steal_of j s c t).log ≡ 12) ↔ (Seeded j s c t × Next j s t Condition12)
  steal-12 = exactly-and (steal-fault ReturnPending) (next-12 j s t)

  pub steal-11 : ((steal_of j s c t).log ≡ 11) ↔ (Seeded j s c t × Next j s t Condition11)
  steal-11 = exactly-and (steal-fault CutOutOfRange) (next-11 j s t)

  -- an 08 or 09 shares nothing
  pub steal-31 : ¬ ((steal_of j s c t).log ≡ 31)
  steal-31 e =
      let (k, q) = (steal-fault ShareOutOfRange).0 e in
      seed-shares j s t k.byte ((next-31 j s t).0 q).4

  seed-at : (r : ℕ) → SeedForks j s t r → (n : ℕ) → ((f : Asked) → (fork_of j s Stolen (turn_at j s c t) f).log ≡ n)
      → (stolen_of j s (turn_at j s c t) (effect_at j s (thread_at s t))).log ≡ n
  unfolding stolen_of
  seed-at r (d, a, e, q) n make =
      ⊎_elim (λ z. ap (λ x. (stolen_of j s (turn_at j s c t) x).log) z ∙ make (asked r d a e))
      (λ z. ap (λ x. (stolen_of j s (turn_at j s c t) x).log) z ∙ make (asked r d a e)) q

  pub steal-20 : ((steal_of j s c t).log ≡ 20) ↔ (Seeded j s c t × (r : ℕ) × SeedForks j s t r × (s.queues.free_threads ≡ []))
  steal-20 = (
    stolen.number20,
    λ (k, r, f, u).
        ap (λ a. a.log) (steal-carried k) ∙ seed-at r f 20 (λ g. few-threads j s Stolen (turn_at j s c t) g u),
  )

  pub steal-21 : ((steal_of j s c t).log ≡ 21) ↔ (Seeded j s c t × (r : ℕ) × SeedForks j s t r × (¬ (s.queues.free_threads ≡ [])) ×
      (s.queues.free_stacklets ≡ []))
  steal-21 = (
    stolen.number21,
    λ (k, r, f, u, w).
        ap (λ a. a.log) (steal-carried k) ∙ seed-at r f 21
        (λ g. few-stacklets j s Stolen (turn_at j s c t) g u (stolen-above j s (thread_at s t) g.routine) w),
  )

  -- no other number is logged
  pub steal-numbers : ((steal_of j s c t).log ≡ 0) ⊎ (IsFault (steal_of j s c t).log
      ⊎ (((14 ≤ (steal_of j s c t).log) × ((steal_of j s c t).log ≤ 15)) ⊎ ((18 ≤ (steal_of j s c t).log) × ((steal_of j s c t).log ≤ 22))))
  steal-numbers = go (steal-log j s sound c t)
    where
      go : {n : ℕ} → StealLog j s c t n → (n ≡ 0) ⊎ (IsFault n ⊎ (((14 ≤ n) × (n ≤ 15)) ⊎ ((18 ≤ n) × (n ≤ 22))))
      go (steal_over x _) = inr (inr (inr (omega arith, omega arith)))
      go (steal_no_core x _ _) = inr (inr (inl (omega arith, omega arith)))
      go (steal_busy x _ _ _) = inr (inr (inl (omega arith, omega arith)))
      go (steal_no_seed x _ _ _ _) = inr (inr (inr (omega arith, omega arith)))
      go (steal_dear x _) = inr (inr (inr (omega arith, omega arith)))
      go (steal_faults _ f _ h) = inr (inl (rw h (is_fault f)))
      go (steal_few_threads x _ _ _ _) = inr (inr (inr (omega arith, omega arith)))
      go (steal_few_stacklets x _ _ _ _ _) = inr (inr (inr (omega arith, omega arith)))
      go (steal_accepted x) = inl x
