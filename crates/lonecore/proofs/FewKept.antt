-- Every entry that the built-in scheduler chooses keeps a state `Few` while the machine goes on (`few-choice`): a step, a take (`few-take`),
-- and a steal where the ready queue is empty (`few-steal`); and Start is so (`start-few`). A step assumes a sound state and an image without
-- 09, 0B and 0C.
use mathlib.Core.Bool.{Bool, true, false, cond}
use mathlib.Core.List.{List, [], ◌∷◌}
use mathlib.Core.Path.{◌≡◌, refl, ap}
use Prim.Native.Nat.{ℕ, zero, suc}
use native.Mathlib.Omega.{arith}
use lib.Dec.{ltb}
use lib.ListN.{length, set, replicate}
use lib.Seq.{get_or-set_other}
use borrow.Author.Tests.{ltb-false}
use Rattle.schedule.specs.declared.Entry.TheVariants.{Step, Take, Steal}
use Rattle.thread.specs.declared.Status.TheVariants.{Running}
use Rattle.thread.specs.Thread.{blank_thread, with_status}
use Rattle.rules.specs.declared.ForkKind.TheVariants.{Stolen}
use Rattle.rules.specs.State.{Job, State, thread_at, is_busy}
use Rattle.rules.specs.Start.{start_state}
use Rattle.rules.specs.Turn.{turn_at}
use Rattle.rules.specs.Update.{set_ready}
use Rattle.rules.specs.Leave.{runs}
use Rattle.rules.specs.Fork.{asked, born, handed}
use Rattle.rules.specs.Rules.{take_of, steal_of, entry_of}
use Rattle.rules.specs.Sound.{Sound}
use Rattle.search.specs.Search.{first_seed, idle_choice, choice_of}
use Rattle.soundness.proofs.EntryCases.{Taken, Seeded, take_by, steal-by}
use Rattle.lonecore.specs.LforksOnly.{LforksOnly}
use Rattle.lonecore.proofs.FewRunning.{Few, StaysFew, idle-zero, one-most, busy-most, idle-fewer, busy-changed}
use Rattle.lonecore.proofs.FewChanges.{Awake, awake-set, few-changed}
use Rattle.lonecore.proofs.FewStep.{few-step}

-- Start: no thread but the root, which runs
awake-blank : (n : ℕ) → Awake (replicate n blank_thread)
awake-blank zero u e = omega arith
awake-blank (suc n) zero e = omega arith
awake-blank (suc n) (suc u) e = awake-blank n u e

pub start-few : (j : Job) (count : ℕ) (arguments memory : List ℕ) → Few (start_state j count arguments memory)
unfolding start_state
start-few j count arguments memory = record {
  awake = awake-set (replicate 32 blank_thread) 0 _ (awake-blank 32) (λ e. omega arith);
  room = let z = busy-most (start_state j count arguments memory) count in omega arith;
}

-- a take moves a thread from the ready queue to an idle core
module _ (s : State) (few : Few s) where
  pub few-take : (c : ℕ) → StaysFew (take_of s c)
  few-take c = take_by StaysFew s (λ n l m e. few) c (λ t ts k e. took t ts k)
    where
      took : (t : ℕ) (ts : List ℕ) → Taken s c t ts → Few (runs c t (set_ready ts s))
      took t ts k = few-changed s (runs c t (set_ready ts s)) few
          (awake-set s.threads t (with_status Running (thread_at s t)) few.awake (λ e. omega arith)) c t k.core refl refl (
          let a = idle-zero s c k.idle in
          let b = one-most (runs c t (set_ready ts s)) c in
          let d = ap length k.head in
          omega arith)

-- a steal gives an idle core a thread, where none was ready
module _ (j : Job) (s : State) (few : Few s) where
  pub few-steal : (c t : ℕ) → s.queues.ready ≡ [] → StaysFew (steal_of j s c t)
  unfolding born
  few-steal c t empty = steal-by StaysFew j s (λ n l m e. few) c t (λ k n q e. absurd (let z : ◌≡◌ {A = ℕ} 0 1 = cc in omega arith))
      (λ k r d a w q n ns x xs f e. stolen r d a w n ns x xs k)
    where
      stolen : (r d a w n : ℕ) (ns : List ℕ) (x : ℕ) (xs : List ℕ) → Seeded j s c t
          → Few (born j s Stolen (turn_at j s c t) (asked r d a w) (handed n ns x xs))
      stolen r d a w n ns x xs k = record {
        awake = awake-set (set s.threads t _) n _ (awake-set s.threads t _ few.awake (λ q. omega arith)) (λ q. omega arith);
        room =
            let s' = born j s Stolen (turn_at j s c t) (asked r d a w) (handed n ns x xs) in
            let a = idle-zero s c k.idle in
            let b = one-most s' c in
            let d = busy-changed s s' c s.count k.core (λ i m. get_or-set_other s.cores c i n 0 m) in
            let e = idle-fewer s c s.count k.core k.idle in
            let f = ap length empty in
            omega arith;
      }

-- the scheduler's test of the ready queue
pub none-ready : (ts : List ℕ) → ltb 0 (length ts) ≡ false → ts ≡ []
none-ready [] e = refl
none-ready (t ∷ ts) e = absurd (let z = ltb-false 0 (suc (length ts)) e in omega arith)

-- what the built-in scheduler chooses: an idle core steals where the ready queue is empty only
module _ (j : Job) (s : State) (ok : Sound j s) (only : LforksOnly j.image) (few : Few s) where
  pub few-choice : (c : ℕ) → StaysFew (entry_of j s (choice_of j s c))
  unfolding entry_of choice_of idle_choice
  few-choice c = go (is_busy s c) (ltb 0 (length s.queues.ready)) refl
    where
      go : (b r : Bool) → ltb 0 (length s.queues.ready) ≡ r → StaysFew (entry_of j s (cond b (Step c) (cond r (Take c) (Steal c (first_seed j s)))))
      go true r e = few-step j s ok only few c
      go false true e = few-take s few c
      go false false e = few-steal j s few c (first_seed j s) (none-ready s.queues.ready e)
