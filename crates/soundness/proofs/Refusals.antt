-- Each number of a step is logged exactly under its condition, in every sound state: document 01, "Who can cause which number", 9 to 12,
-- 14, 15, 19 and 20 to 22, and T-04's 31. So none is logged with what it needs at hand, and the order of the tests is seen in the conditions. Takes and
-- enables are in QueueRefusals, steals in StealRefusals. Assumes nothing but that the state is sound.
use mathlib.Core.Bool.{true, false}
use mathlib.Core.List.{List, [], ◌∷◌}
use mathlib.Core.Logic.{◌⊎◌, inl, inr, ◌↔◌}
use mathlib.Core.Path.{◌≡◌, refl, sym, ◌∙◌, ap}
use Prim.Native.Nat.{ℕ, ◌-◌, ◌/◌, ◌<◌, ◌≤◌}
use native.Mathlib.Omega.{arith}
use borrow.Author.Tests.{lt-ltb, le-ltb, lt-leb, le-leb}
use Rattle.thread.specs.declared.Fault.{Fault}
use Rattle.thread.specs.declared.Fault.TheVariants.{SlotPending, AddressNotAllowed, CutOutOfRange, ReturnPending, ShareOutOfRange}
use Rattle.thread.specs.declared.Effect.TheVariants.{Faults}
use Rattle.thread.specs.Effect.{IsFault, number_of_fault}
use Rattle.thread.proofs.FaultNumbers.{is_fault, same_fault}
use Rattle.thread.specs.Thread.{none}
use Rattle.rules.specs.declared.ForkKind.{ForkKind}
use Rattle.rules.specs.State.{Job, State, going, is_over, thread_at, on_core}
use Rattle.rules.specs.Turn.{Turn, turn_at, effect_at}
use Rattle.rules.specs.Fork.{Asked, asked, goes_above, place_of, fork_on, fork_with, fork_of, born, handed}
use Rattle.rules.specs.Rules.{carried_of, turn_of, step_of}
use Rattle.rules.specs.Sound.{Sound}
use Rattle.soundness.specs.Numbers.{FewThreads, FewStacklets}
use Rattle.soundness.proofs.Entries.{Stepped}
use Rattle.soundness.proofs.Exactly.{exactly-and}
use Rattle.soundness.proofs.Faults.{Condition9, Condition10, Condition11, Condition12, Condition31, Next, next-9, next-10, next-11, next-12, next-31}
use Rattle.soundness.proofs.NeededStacklets.{needs-stacklet}
use Rattle.soundness.proofs.Tested.{no-fault}
use Rattle.soundness.proofs.ThreadsMet.{runner}
use Rattle.soundness.proofs.Logs.{Dear, StepForks, is_lfork, is_fork, StepLog, step_over, step_no_core, step_idle, step_dear, step_faults, step_few_threads, step_few_stacklets, step_accepted, step-log}

-- FORKS of any kind, as they are computed
pub few-threads : (j : Job) (s : State) (kind : ForkKind) (o : Turn) (f : Asked) → s.queues.free_threads ≡ [] → (fork_of j s kind o f).log ≡ 20
unfolding fork_of fork_with
few-threads j s kind o f e = ap (λ ns. (fork_with j s kind o f ns).log) e

pub few-stacklets : (j : Job) (s : State) (kind : ForkKind) (o : Turn) (f : Asked) → ¬ (s.queues.free_threads ≡ [])
    → goes_above j s kind o.thread f.routine ≡ false
    → s.queues.free_stacklets ≡ [] → (fork_of j s kind o f).log ≡ 21
unfolding fork_of fork_with fork_on place_of
few-stacklets j s kind o f some above none = go s.queues.free_threads some
  where
    go : (ns : List ℕ) → ¬ (ns ≡ []) → (fork_with j s kind o f ns).log ≡ 21
    go [] k = absurd (k refl)
    go (n ∷ ns) k =
        ap (λ b. (fork_on s (λ x xs. born j s kind o f (handed n ns x xs)) (place_of b (o.thread.origin.base / 64) s.queues.free_stacklets)).log) above
        ∙ ap (λ ys. (fork_on s (λ x xs. born j s kind o f (handed n ns x xs)) (place_of false (o.thread.origin.base / 64) ys)).log) none

-- STEP
module _ (j : Job) (s : State) (sound : Sound j s) (c : ℕ) where
  -- what a step's number means
  record StepMeans (n : ℕ) : Type 0 where
    number19 : n ≡ 19 → is_over s.outcome ≡ true
    number14 : n ≡ 14 → (s.outcome ≡ going) × (s.count ≤ c)
    number15 : n ≡ 15 → (s.outcome ≡ going) × (c < s.count) × (none ≤ on_core s c)
    number22 : n ≡ 22 → Dear j s c (on_core s c)
    fault : IsFault n → (f : Fault) × (n ≡ number_of_fault f) × Stepped j s c (on_core s c) × (effect_at j s (thread_at s (on_core s c)) ≡ Faults f)
    number20 : n ≡ 20 → FewThreads j s c
    number21 : n ≡ 21 → FewStacklets j s c

  step-means : {n : ℕ} → StepLog j s c n → StepMeans n
  step-means (step_over x o) = record {
    number19 = λ e. o;
    number14 = λ e. absurd (omega arith);
    number15 = λ e. absurd (omega arith);
    number22 = λ e. absurd (omega arith);
    fault = λ l. absurd (no-fault _ l (inr (omega arith, omega arith)));
    number20 = λ e. absurd (omega arith);
    number21 = λ e. absurd (omega arith);
  }
  step-means (step_no_core x o l) = record {
    number19 = λ e. absurd (omega arith);
    number14 = λ e. (o, l);
    number15 = λ e. absurd (omega arith);
    number22 = λ e. absurd (omega arith);
    fault = λ l. absurd (no-fault _ l (inr (omega arith, omega arith)));
    number20 = λ e. absurd (omega arith);
    number21 = λ e. absurd (omega arith);
  }
  step-means (step_idle x o l i) = record {
    number19 = λ e. absurd (omega arith);
    number14 = λ e. absurd (omega arith);
    number15 = λ e. (o, l, i);
    number22 = λ e. absurd (omega arith);
    fault = λ l. absurd (no-fault _ l (inr (omega arith, omega arith)));
    number20 = λ e. absurd (omega arith);
    number21 = λ e. absurd (omega arith);
  }
  step-means (step_dear x d) = record {
    number19 = λ e. absurd (omega arith);
    number14 = λ e. absurd (omega arith);
    number15 = λ e. absurd (omega arith);
    number22 = λ e. d;
    fault = λ l. absurd (no-fault _ l (inr (omega arith, omega arith)));
    number20 = λ e. absurd (omega arith);
    number21 = λ e. absurd (omega arith);
  }
  step-means {n} (step_faults k f q h) = let z : IsFault n = rw h (is_fault f) in record {
    number19 = λ e. absurd (no-fault _ z (inr (omega arith, omega arith)));
    number14 = λ e. absurd (no-fault _ z (inr (omega arith, omega arith)));
    number15 = λ e. absurd (no-fault _ z (inr (omega arith, omega arith)));
    number22 = λ e. absurd (no-fault _ z (inr (omega arith, omega arith)));
    fault = λ l. (f, h, k, q);
    number20 = λ e. absurd (no-fault _ z (inr (omega arith, omega arith)));
    number21 = λ e. absurd (no-fault _ z (inr (omega arith, omega arith)));
  }
  step-means (step_few_threads x k kind r f t) = record {
    number19 = λ e. absurd (omega arith);
    number14 = λ e. absurd (omega arith);
    number15 = λ e. absurd (omega arith);
    number22 = λ e. absurd (omega arith);
    fault = λ l. absurd (no-fault _ l (inr (omega arith, omega arith)));
    number20 = λ e. (k, kind, r, f, t);
    number21 = λ e. absurd (omega arith);
  }
  step-means (step_few_stacklets x k kind r f t a u) = record {
    number19 = λ e. absurd (omega arith);
    number14 = λ e. absurd (omega arith);
    number15 = λ e. absurd (omega arith);
    number22 = λ e. absurd (omega arith);
    fault = λ l. absurd (no-fault _ l (inr (omega arith, omega arith)));
    number20 = λ e. absurd (omega arith);
    number21 = λ e. (k, kind, r, f, t, (needs-stacklet j s sound (on_core s c) (runner j s sound c (on_core s c) k) kind r).0 a, u);
  }
  step-means (step_accepted x) = record {
    number19 = λ e. absurd (omega arith);
    number14 = λ e. absurd (omega arith);
    number15 = λ e. absurd (omega arith);
    number22 = λ e. absurd (omega arith);
    fault = λ l. absurd (no-fault _ l (inl (omega arith)));
    number20 = λ e. absurd (omega arith);
    number21 = λ e. absurd (omega arith);
  }

  means : StepMeans (step_of j s c).log
  means = step-means (step-log j s sound c)

  -- a step that carries out its command
  step-carried : Stepped j s c (on_core s c) → step_of j s c ≡ carried_of j s (turn_at j s c (on_core s c)) (effect_at j s (thread_at s (on_core s c)))
  unfolding step_of turn_of
  step-carried k =
      rw (
        ap is_over k.ongoing,
        lt-leb s.count c k.core,
        lt-ltb (on_core s c) none k.low,
        k.passes,
        le-ltb (j.allowance - s.units) (turn_at j s c (on_core s c)).weight k.paid,
      )

  -- "19 machine over"
  pub step-19 : ((step_of j s c).log ≡ 19) ↔ (is_over s.outcome ≡ true)
  unfolding step_of
  step-19 = (means.number19, λ o. rw o)

  -- "14 core not below the count"
  pub step-14 : ((step_of j s c).log ≡ 14) ↔ ((s.outcome ≡ going) × (s.count ≤ c))
  unfolding step_of
  step-14 = (means.number14, λ z. rw (ap is_over z.0, le-leb s.count c z.1))

  -- "15 step of an idle core"
  pub step-15 : ((step_of j s c).log ≡ 15) ↔ ((s.outcome ≡ going) × (c < s.count) × (none ≤ on_core s c))
  unfolding step_of
  step-15 = (means.number15, λ z. rw (ap is_over z.0, lt-leb s.count c z.1, le-ltb (on_core s c) none z.2))

  -- "22: units plus the command's weight pass the allowance"
  pub step-22 : ((step_of j s c).log ≡ 22) ↔ (Dear j s c (on_core s c))
  unfolding step_of turn_of
  step-22 = (
    means.number22,
    λ k.
        rw (
          ap is_over k.ongoing,
          lt-leb s.count c k.core,
          lt-ltb (on_core s c) none k.low,
          k.passes,
          lt-ltb (j.allowance - s.units) (turn_at j s c (on_core s c)).weight (let z = k.dear in omega arith),
        ),
  )

  -- "12, 9, 10 or 11": the faults
  pub step-fault : (f : Fault) → (((step_of j s c).log ≡ number_of_fault f) ↔ (Stepped j s c (on_core s c) × (effect_at j s (thread_at s (on_core s c)) ≡ Faults f)))
  unfolding carried_of
  step-fault f = (
    λ e.
        let (g, h, k, q) = means.fault (rw e (is_fault f)) in
        (k, q ∙ ap Faults (same_fault g f (sym h ∙ e))),
    λ z.
        ap (λ a. a.log) (step-carried z.0) ∙ ap (λ e. (carried_of j s (turn_at j s c (on_core s c)) e).log) z.1,
  )

  -- "12: return with pending slots"
  pub step-12 : ((step_of j s c).log ≡ 12) ↔ (Stepped j s c (on_core s c) × Next j s (on_core s c) Condition12)
  step-12 = exactly-and (step-fault ReturnPending) (next-12 j s (on_core s c))

  -- "9: a pending slot read or written (a fork writes its d)"
  pub step-9 : ((step_of j s c).log ≡ 9) ↔ (Stepped j s c (on_core s c) × Next j s (on_core s c) Condition9)
  step-9 = exactly-and (step-fault SlotPending) (next-9 j s (on_core s c))

  -- "10: address not allowed"
  pub step-10 : ((step_of j s c).log ≡ 10) ↔ (Stepped j s c (on_core s c) × Next j s (on_core s c) Condition10)
  step-10 = exactly-and (step-fault AddressNotAllowed) (next-10 j s (on_core s c))

  -- "11: cut out of range"
  pub step-11 : ((step_of j s c).log ≡ 11) ↔ (Stepped j s c (on_core s c) × Next j s (on_core s c) Condition11)
  step-11 = exactly-and (step-fault CutOutOfRange) (next-11 j s (on_core s c))

  -- T-04: "31 s out of range"
  pub step-31 : ((step_of j s c).log ≡ 31) ↔ (Stepped j s c (on_core s c) × Next j s (on_core s c) Condition31)
  step-31 = exactly-and (step-fault ShareOutOfRange) (next-31 j s (on_core s c))

  fork_at : (kind : ForkKind) (r : ℕ) → StepForks j s (on_core s c) kind r → (n : ℕ)
      → ((f : Asked) → f.routine ≡ r → (fork_of j s kind (turn_at j s c (on_core s c)) f).log ≡ n)
      → (carried_of j s (turn_at j s c (on_core s c)) (effect_at j s (thread_at s (on_core s c)))).log ≡ n
  unfolding carried_of
  fork_at kind r (is_lfork k d a e q) n make =
      ap (λ x. (carried_of j s (turn_at j s c (on_core s c)) x).log) q
      ∙ ap (λ x. (fork_of j s x (turn_at j s c (on_core s c)) (asked r d a e)).log) (sym k) ∙ make (asked r d a e) refl
  fork_at kind r (is_fork k d a e q) n make =
      ap (λ x. (carried_of j s (turn_at j s c (on_core s c)) x).log) q
      ∙ ap (λ x. (fork_of j s x (turn_at j s c (on_core s c)) (asked r d a e)).log) (sym k) ∙ make (asked r d a e) refl

  -- "20: no free thread number"
  pub step-20 : ((step_of j s c).log ≡ 20) ↔ (FewThreads j s c)
  step-20 = (
    means.number20,
    λ (k, kind, r, f, t).
        ap (λ a. a.log) (step-carried k) ∙ fork_at kind r f 20 (λ g e. few-threads j s kind (turn_at j s c (on_core s c)) g t),
  )

  -- "21: a stacklet is needed and none is free"
  pub step-21 : ((step_of j s c).log ≡ 21) ↔ (FewStacklets j s c)
  step-21 = (
    means.number21,
    λ (k, kind, r, f, t, a, u).
        ap (λ x. x.log) (step-carried k) ∙ fork_at kind r f 21 (λ g e. few-stacklets j s kind (turn_at j s c (on_core s c)) g t
        (ap (λ x. goes_above j s kind (thread_at s (on_core s c)) x) e
        ∙ (needs-stacklet j s sound (on_core s c) (runner j s sound c (on_core s c) k) kind r).1 a) u),
  )

  -- no other number is logged
  pub step-numbers : ((step_of j s c).log ≡ 0) ⊎ (IsFault (step_of j s c).log
      ⊎ (((14 ≤ (step_of j s c).log) × ((step_of j s c).log ≤ 15)) ⊎ ((19 ≤ (step_of j s c).log) × ((step_of j s c).log ≤ 22))))
  step-numbers = go (step-log j s sound c)
    where
      go : {n : ℕ} → StepLog j s c n → (n ≡ 0) ⊎ (IsFault n ⊎ (((14 ≤ n) × (n ≤ 15)) ⊎ ((19 ≤ n) × (n ≤ 22))))
      go (step_over x _) = inr (inr (inr (omega arith, omega arith)))
      go (step_no_core x _ _) = inr (inr (inl (omega arith, omega arith)))
      go (step_idle x _ _ _) = inr (inr (inl (omega arith, omega arith)))
      go (step_dear x _) = inr (inr (inr (omega arith, omega arith)))
      go (step_faults _ f _ h) = inr (inl (rw h (is_fault f)))
      go (step_few_threads x _ _ _ _ _) = inr (inr (inr (omega arith, omega arith)))
      go (step_few_stacklets x _ _ _ _ _ _ _) = inr (inr (inr (omega arith, omega arith)))
      go (step_accepted x) = inl x
