-- The balance of waits and wakes: an accepted entry after which the machine goes on makes at most one waiting thread ready, and one that
-- charges nothing makes a thread wait or takes one off the ready queue (`balanced`). Assumes a sound state that is `Few`, and an image
-- without 09, 0B and 0C.
use mathlib.Core.List.{List}
use mathlib.Core.Logic.{inl}
use mathlib.Core.Path.{◌≡◌, refl}
use Prim.Native.Nat.{ℕ}
use native.Mathlib.Omega.{arith}
use Rattle.schedule.specs.declared.Entry.{Entry}
use Rattle.thread.specs.declared.Effect.TheVariants.{Forks, Suspends, Yields}
use Rattle.rules.specs.State.{Job, State, going, thread_at}
use Rattle.rules.specs.declared.ForkKind.TheVariants.{Stolen}
use Rattle.rules.specs.Turn.{turn_at}
use Rattle.rules.specs.Fork.{asked, born, handed}
use Rattle.rules.specs.Rules.{steal_of, entry_of}
use Rattle.rules.specs.Sound.{Sound}
use Rattle.soundness.proofs.EntryCases.{Seeded, Forked, StepCases, Cases, steal-by, entry-by}
use Rattle.soundness.proofs.Tested.{fault-tested, no-fault}
use Rattle.soundness.proofs.ThreadsMet.{runner, lent-used}
use Rattle.lonecore.specs.LforksOnly.{LforksOnly}
use Rattle.lonecore.proofs.EffectsMet.{step-calls, no-fork, no-suspend, no-yield}
use Rattle.lonecore.proofs.FewRunning.{Few}
pub use Rattle.lonecore.proofs.BalanceChanges.{ready_in, waiting_in, Balanced}
use Rattle.lonecore.proofs.BalanceChanges.{Shown, Even, even, runs_on, own, bore, took}
use Rattle.lonecore.proofs.BalanceLeaves.{waited, returned}

-- a steal keeps both counts, and charges something
module _ (j : Job) (s : State) (ok : Sound j s) where
  stolen-even : (c t : ℕ) → Seeded j s c t → (r d a w n : ℕ) (ns : List ℕ) (x : ℕ) (xs : List ℕ) → Forked j s Stolen (thread_at s t) r n ns x xs
      → Even s (born j s Stolen (turn_at j s c t) (asked r d a w) (handed n ns x xs))
  unfolding born
  stolen-even c t k r d a w n ns x xs f =
      bore j s ok c t n ns _ _ _ (lent-used j s ok c t k) (λ y. let v = k.lent in omega arith) f.number refl refl refl refl refl

  pub steal-even : (c t : ℕ) → (steal_of j s c t).log ≡ 0 → Even s (steal_of j s c t).state
  steal-even c t = steal-by (λ a. a.log ≡ 0 → Even s a.state) j s (λ n l m z. absurd (omega arith)) c t
      (λ k n q z. absurd (no-fault _ (fault-tested j s t n q) (inl (omega arith)))) (λ k r d a w q n ns x xs f z. stolen-even c t k r d a w n ns x xs f)

module _ (j : Job) (s : State) (ok : Sound j s) (only : LforksOnly j.image) (few : Few s) where
  steps : StepCases (Shown s) j s
  unfolding born
  steps = record {
    refuses = λ n l m z e. absurd (omega arith);
    fault = λ c t k n q z e. absurd (let y : ◌≡◌ {A = ℕ} 0 1 = cc in omega arith);
    waiting = λ c t k z e. waited j s ok c t k;
    sets = λ c t k d v q z e. own j s ok c t _ _ k refl refl refl refl;
    loads = λ c t k d a q z e. own j s ok c t _ _ k refl refl refl refl;
    stores = λ c t k a v q z e. own j s ok c t _ _ k refl refl refl refl;
    goes = λ c t k p q z e. own j s ok c t _ _ k refl refl refl refl;
    continues = λ c t k q z e. own j s ok c t _ _ k refl refl refl refl;
    lforks = λ c t k r d a w q n ns x xs f z e. even s _ (bore j s ok c t n ns _ _ _ (runner j s ok c t k) (λ y. let v = runs_on j s ok c t k in omega arith)
        f.number refl refl refl refl refl);
    forks = λ c t k r d a w q n ns x xs f z e. absurd (no-fork r d a w (step-calls j s ok only c t k (Forks r d a w) q));
    joins = λ c t k q z e. own j s ok c t _ _ k refl refl refl refl;
    suspends = λ c t k q z e. absurd (no-suspend (step-calls j s ok only c t k Suspends q));
    yields = λ c t k q z e. absurd (no-yield (step-calls j s ok only c t k Yields q));
    returns = λ c t k v q. returned j s ok c t v k;
    shares = λ c t k x q z e. own j s ok c t _ _ k refl refl refl refl;
  }

  cases : Cases (Shown s) j s
  unfolding born
  cases = record {
    steps = steps;
    takes = λ c t ts k z e. took j s ok c t ts k;
    seed_fault = λ c t k n q z e. absurd (let y : ◌≡◌ {A = ℕ} 0 1 = cc in omega arith);
    steals = λ c t k r d a w q n ns x xs f z e. even s _ (stolen-even j s ok c t k r d a w n ns x xs f);
    enables = λ t k z e. absurd (few.awake t k.suspended);
  }

  pub balanced : (e : Entry) → (entry_of j s e).log ≡ 0 → (entry_of j s e).state.outcome ≡ going → Balanced s (entry_of j s e).state
  balanced e = entry-by (Shown s) j s cases e
