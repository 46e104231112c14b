-- What an entry may do to a state, once for every property P of states: where P holds after each of these changes (`Kept`), it holds
-- after any entry, whatever its log byte (`entry-by`). Assumes nothing.
use mathlib.Core.List.{List}
use mathlib.Core.Logic.{◌⊎◌}
use mathlib.Core.Path.{◌≡◌}
use Prim.Native.Nat.{ℕ, ◌<◌}
use Rattle.schedule.specs.declared.Entry.{Entry}
use Rattle.thread.specs.declared.Fault.{Fault}
use Rattle.thread.specs.Effect.{number_of_fault}
use Rattle.thread.specs.declared.Effect.TheVariants.{Faults, Sets, Loads, Stores, Goes, Continues, Lforks, Forks, Joins, Suspends, Yields, Returns, Shares}
use Rattle.thread.specs.declared.Status.TheVariants.{Ready, Suspended, Waiting}
use Rattle.thread.specs.Thread.{moved_to, joined_at, shared_at, with_status}
use Rattle.thread.specs.Job.{word_at}
use Rattle.rules.specs.declared.ForkKind.TheVariants.{Called, Queued, Stolen}
use Rattle.rules.specs.State.{Job, State, going, faulted, thread_at}
use Rattle.rules.specs.Update.{set_thread, set_ready, set_slot, set_memory, set_outcome, enqueue_ready}
use Rattle.rules.specs.Turn.{turn_at, offset_of, effect_at, completed, goes_on}
use Rattle.rules.specs.Leave.{runs, leaves}
use Rattle.rules.specs.Fork.{asked, born, handed}
use Rattle.rules.specs.Return.{return_of}
use Rattle.rules.specs.Rules.{entry_of}
pub use Rattle.soundness.proofs.EntryCases.{Waits, Stepped, Seeded, Chosen, above, on_free, Forked, Taken, Enabled, Seed, seed-true, not-over, or-true}
use Rattle.soundness.proofs.EntryCases.{StepCases, Cases}
use Rattle.soundness.proofs.EntryCases as cases

-- the changes that an entry can make, and P after each
pub record Kept (P : State → Type 0) (j : Job) (s : State) : Type 0 where
  -- refused: nothing changes
  pub unchanged : P s
  pub fault : (t : ℕ) (n : Fault) → s.outcome ≡ going → t < 32 → effect_at j s (thread_at s t) ≡ Faults n
      → P (set_outcome (faulted (number_of_fault n) t (offset_of j (thread_at s t))) s)
  pub waiting : (c t : ℕ) → Waits j s c t → P (leaves c t Waiting s)
  pub sets : (c t : ℕ) → Stepped j s c t → (d v : ℕ) → effect_at j s (thread_at s t) ≡ Sets d v
      → P (goes_on (turn_at j s c t) (set_slot (thread_at s t) d v s))
  pub loads : (c t : ℕ) → Stepped j s c t → (d a : ℕ) → effect_at j s (thread_at s t) ≡ Loads d a
      → P (goes_on (turn_at j s c t) (set_slot (thread_at s t) d (word_at j s.store.memory a) s))
  pub stores : (c t : ℕ) → Stepped j s c t → (a v : ℕ) → effect_at j s (thread_at s t) ≡ Stores a v
      → P (goes_on (turn_at j s c t) (set_memory a v s))
  pub goes : (c t : ℕ) → Stepped j s c t → (p : ℕ) → effect_at j s (thread_at s t) ≡ Goes p
      → P (completed (turn_at j s c t) (moved_to p (thread_at s t)) s)
  pub continues : (c t : ℕ) → Stepped j s c t → effect_at j s (thread_at s t) ≡ Continues
      → P (goes_on (turn_at j s c t) s)
  pub lforks : (c t : ℕ) → Stepped j s c t → (r d a e : ℕ) → effect_at j s (thread_at s t) ≡ Lforks r d a e
      → (n : ℕ) (ns : List ℕ) (x : ℕ) (xs : List ℕ) → Forked j s Called (thread_at s t) r n ns x xs
      → P (born j s Called (turn_at j s c t) (asked r d a e) (handed n ns x xs))
  pub forks : (c t : ℕ) → Stepped j s c t → (r d a e : ℕ) → effect_at j s (thread_at s t) ≡ Forks r d a e
      → (n : ℕ) (ns : List ℕ) (x : ℕ) (xs : List ℕ) → Forked j s Queued (thread_at s t) r n ns x xs
      → P (born j s Queued (turn_at j s c t) (asked r d a e) (handed n ns x xs))
  pub joins : (c t : ℕ) → Stepped j s c t → effect_at j s (thread_at s t) ≡ Joins
      → P (completed (turn_at j s c t) (joined_at (turn_at j s c t).next (thread_at s t)) s)
  pub suspends : (c t : ℕ) → Stepped j s c t → effect_at j s (thread_at s t) ≡ Suspends
      → P (leaves c t Suspended (goes_on (turn_at j s c t) s))
  pub yields : (c t : ℕ) → Stepped j s c t → effect_at j s (thread_at s t) ≡ Yields
      → P (enqueue_ready t (leaves c t Ready (goes_on (turn_at j s c t) s)))
  pub returns : (c t : ℕ) → Stepped j s c t → (v : ℕ) → effect_at j s (thread_at s t) ≡ Returns v
      → P (return_of j s (turn_at j s c t) v)
  pub shares : (c t : ℕ) → Stepped j s c t → (x : ℕ) → effect_at j s (thread_at s t) ≡ Shares x
      → P (completed (turn_at j s c t) (shared_at (turn_at j s c t).next x (thread_at s t)) s)
  pub takes : (c t : ℕ) (ts : List ℕ) → Taken s c t ts → P (runs c t (set_ready ts s))
  -- an lfork or a fork as a seed
  pub steals : (c t : ℕ) → Seeded j s c t → (r d a e : ℕ)
      → (effect_at j s (thread_at s t) ≡ Lforks r d a e) ⊎ (effect_at j s (thread_at s t) ≡ Forks r d a e)
      → (n : ℕ) (ns : List ℕ) (x : ℕ) (xs : List ℕ) → Forked j s Stolen (thread_at s t) r n ns x xs
      → P (born j s Stolen (turn_at j s c t) (asked r d a e) (handed n ns x xs))
  pub enables : (t : ℕ) → Enabled s t → P (enqueue_ready t (set_thread t (with_status Ready (thread_at s t)) s))

module _ (P : State → Type 0) (j : Job) (s : State) (kept : Kept P j s) where
  steps : StepCases (λ a. P a.state) j s
  steps = record {
    refuses = λ n l m. kept.unchanged;
    fault = λ c t k n e. kept.fault t n k.ongoing k.low e;
    waiting = kept.waiting;
    sets = kept.sets;
    loads = kept.loads;
    stores = kept.stores;
    goes = kept.goes;
    continues = kept.continues;
    lforks = kept.lforks;
    forks = kept.forks;
    joins = kept.joins;
    suspends = kept.suspends;
    yields = kept.yields;
    returns = kept.returns;
    shares = kept.shares;
  }

  each : Cases (λ a. P a.state) j s
  each = record {
    steps = steps;
    takes = kept.takes;
    seed_fault = λ c t k n e. kept.fault t n k.ongoing k.low e;
    steals = kept.steals;
    enables = kept.enables;
  }

  pub entry-by : (e : Entry) → P (entry_of j s e).state
  entry-by = cases.entry-by (λ a. P a.state) j s each
