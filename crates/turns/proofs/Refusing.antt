-- A refused entry changes nothing, and a suspended thread's enable is accepted. Assumes nothing.
use borrow.Author.Tests.{le-leb, lt-ltb, le-ltb, leb-true}
use mathlib.Core.Bool.{or-true, Bool, true, false, cond}
use mathlib.Core.Logic.{inl, inr}
use mathlib.Core.Path.{◌≡◌, refl, sym, ◌∙◌}
use Prim.Native.Nat.{ℕ, ◌<◌}
use native.Mathlib.Omega.{arith}
use lib.Dec.{eqb, leb}
use Rattle.schedule.specs.declared.Entry.{Entry}
use Rattle.schedule.specs.declared.Entry.TheVariants.{Step, Take, Steal, Enable}
use Rattle.thread.specs.declared.Status.TheVariants.{Suspended}
use Rattle.thread.specs.Effect.{IsFault}
use Rattle.thread.specs.Thread.{◌is◌}
use Rattle.rules.specs.State.{Job, State, After, is_over, is_busy, thread_at}
use Rattle.rules.specs.Update.{refused}
use Rattle.rules.specs.Rules.{entry_of, enable_of, steal_of, is_seed}
use Rattle.soundness.proofs.EntryCases.{StepCases, Cases, entry-by}
use Rattle.soundness.proofs.Tested.{fault-tested}
use Rattle.search.specs.Search.{is_nothing}
use Rattle.rounds.specs.Rounds.{is_written}

-- "accepted or faulting": a fault's number is written
fault-written : (n : ℕ) → IsFault n → is_written n ≡ true
fault-written n (inl (l, h)) = rw (le-leb 9 n l, le-leb n 12 h) (or-true (eqb n 0))
fault-written n (inr e) = rw e

never : {A : Type 0} → true ≡ false → A
never e = let z : ◌≡◌ {A = ℕ} 0 1 = cc in absurd (omega arith)

module _ (j : Job) (s : State) where
  abbrev Stays : After → Type 0
  Stays a = is_written a.log ≡ false → a.state ≡ s

  steps-stay : StepCases Stays j s
  steps-stay = record {
    refuses = λ n l h e. refl;
    fault = λ c t k n f e. never (sym (fault-written _ (fault-tested j s t n f)) ∙ e);
    waiting = λ c t k e. never e;
    sets = λ c t k d v f e. never e;
    loads = λ c t k d a f e. never e;
    stores = λ c t k a v f e. never e;
    goes = λ c t k p f e. never e;
    continues = λ c t k f e. never e;
    lforks = λ c t k r d a w f n ns x xs g e. never e;
    forks = λ c t k r d a w f n ns x xs g e. never e;
    joins = λ c t k f e. never e;
    suspends = λ c t k f e. never e;
    yields = λ c t k f e. never e;
    returns = λ c t k v f e. never e;
    shares = λ c t k x f e. never e;
  }

  stays : Cases Stays j s
  stays = record {
    steps = steps-stay;
    takes = λ c t ts k e. never e;
    seed_fault = λ c t k n f e. never (sym (fault-written _ (fault-tested j s t n f)) ∙ e);
    steals = λ c t k r d a w f n ns x xs g e. never e;
    enables = λ t k e. never e;
  }

  pub refused-stays : (e : Entry) → is_written (entry_of j s e).log ≡ false → (entry_of j s e).state ≡ s
  refused-stays e = entry-by Stays j s stays e

  pub enables : (t : ℕ) → is_over s.outcome ≡ false → t < 32 → ((thread_at s t).status is Suspended) ≡ true → (entry_of j s (Enable t)).log ≡ 0
  unfolding entry_of enable_of
  enables t o l h = rw (o, lt-ltb t 32 l, h)

  -- a steal of no thread is refused
  not-stolen : (x y z : Bool) → is_written (cond x (refused 19 s) (cond y (refused 14 s) (cond z (refused 15 s) (refused 18 s)))).log ≡ false
  not-stolen true y z = refl
  not-stolen false true z = refl
  not-stolen false false true = refl
  not-stolen false false false = refl

  pub nothing-refused : (e : Entry) → is_nothing e ≡ true → is_written (entry_of j s e).log ≡ false
  unfolding entry_of steal_of is_seed
  nothing-refused (Step c) h = never (sym h)
  nothing-refused (Take c) h = never (sym h)
  nothing-refused (Steal c t) h = rw (le-ltb t 32 (leb-true 32 t h)) (not-stolen (is_over s.outcome) (leb s.count c) (is_busy s c))
  nothing-refused (Enable t) h = never (sym h)
