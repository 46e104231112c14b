-- "Per entry, changing nothing": an entry that is refused, by 14 to 22, leaves the state as it was. Assumes nothing.
use mathlib.Core.Logic.{inr}
use mathlib.Core.Path.{◌≡◌, refl}
use Prim.Native.Nat.{◌≤◌}
use native.Mathlib.Omega.{arith}
use Rattle.schedule.specs.declared.Entry.{Entry}
use Rattle.rules.specs.State.{Job, State, After}
use Rattle.rules.specs.Rules.{entry_of}
use Rattle.soundness.proofs.EntryCases.{StepCases, Cases, entry-by}
use Rattle.soundness.proofs.Tested.{fault-tested, no-fault}

module _ (j : Job) (s : State) where
  -- what a refused entry leaves
  abbrev Left : After → Type 0
  Left a = 14 ≤ a.log → a.log ≤ 22 → a.state ≡ s

  steps : StepCases Left j s
  steps = record {
    refuses = λ n l m x y. refl;
    fault = λ c t k n e l m. absurd (no-fault _ (fault-tested j s t n e) (inr (omega arith, omega arith)));
    waiting = λ c t k l m. absurd (omega arith);
    sets = λ c t k d v e l m. absurd (omega arith);
    loads = λ c t k d a e l m. absurd (omega arith);
    stores = λ c t k a v e l m. absurd (omega arith);
    goes = λ c t k p e l m. absurd (omega arith);
    continues = λ c t k e l m. absurd (omega arith);
    lforks = λ c t k r d a e q n ns x xs f l m. absurd (omega arith);
    forks = λ c t k r d a e q n ns x xs f l m. absurd (omega arith);
    joins = λ c t k e l m. absurd (omega arith);
    suspends = λ c t k e l m. absurd (omega arith);
    yields = λ c t k e l m. absurd (omega arith);
    returns = λ c t k v e l m. absurd (omega arith);
    shares = λ c t k x e l m. absurd (omega arith);
  }

  cases : Cases Left j s
  cases = record {
    steps = steps;
    takes = λ c t ts k l m. absurd (omega arith);
    seed_fault = λ c t k n e l m. absurd (no-fault _ (fault-tested j s t n e) (inr (omega arith, omega arith)));
    steals = λ c t k r d a e q n ns x xs f l m. absurd (omega arith);
    enables = λ t k l m. absurd (omega arith);
  }

  pub unchanged : (e : Entry) → 14 ≤ (entry_of j s e).log → (entry_of j s e).log ≤ 22 → (entry_of j s e).state ≡ s
  unchanged e = entry-by Left j s cases e
