-- An open state on the scheduler's way (`Stands`): sound, followed on the tree after n commands, and with few threads at work. Where the bound on
-- threads in use is at most 16, every try is accepted (`step-taken`, `take-taken`, `steal-taken`), but for that of an idle core that finds nothing
-- (`choice-taken`), and an accepted one leads on or to the end (`goes`). Assumes an image without 09, 0B and 0C, and a run of the tree begun k
-- levels down that finishes within the allowance.
use mathlib.Core.Bool.{Bool, true, false, cond}
use mathlib.Core.List.{List, []}
use mathlib.Core.Logic.{◌⊎◌, inl, inr, ⊎_elim}
use mathlib.Core.Path.{◌≡◌, refl, ap}
use Prim.Native.Nat.{ℕ, suc, ◌+◌, ◌-◌, ◌*◌, ◌≤◌, ◌<◌}
use native.Mathlib.Omega.{arith}
use borrow.Author.Tests.{ltb-true, ltb-false}
use lib.Dec.{ltb}
use lib.ListN.{length}
use Rattle.schedule.specs.declared.Entry.TheVariants.{Step, Take, Steal}
use Rattle.thread.specs.declared.Effect.TheVariants.{Lforks, Forks}
use Rattle.thread.specs.Thread.{none}
use Rattle.rules.specs.declared.ForkKind.{ForkKind}
use Rattle.rules.specs.State.{Job, State, going, finished, is_over, thread_at, on_core, is_busy}
use Rattle.rules.specs.Turn.{turn_at, effect_at}
use Rattle.rules.specs.Rules.{step_of, take_of, steal_of, entry_of}
use Rattle.rules.specs.Sound.{GoodJob, Sound, Used}
use Rattle.search.specs.Search.{first_seed, idle_choice, choice_of}
use Rattle.soundness.specs.Numbers.{Stepped, Seeded, StepForks, is_lfork, is_fork, SeedForks}
use Rattle.soundness.proofs.Kept.{entry-sound}
use Rattle.soundness.proofs.LentThreads.{not-both}
use Rattle.soundness.proofs.Logs.{StepLog, step_over, step_no_core, step_idle, step_dear, step_faults, step_few_threads, step_few_stacklets, step_accepted, step-log, TakeLog, take_over, take_no_core, take_busy, take_empty, take_accepted, take-log, StealLog, steal_over, steal_no_core, steal_busy, steal_no_seed, steal_dear, steal_faults, steal_few_threads, steal_few_stacklets, steal_accepted, steal-log}
use Rattle.soundness.proofs.ThreadsMet.{runner, lent-used}
use Rattle.lonecore.specs.LforksOnly.{LforksOnly}
use Rattle.lonecore.proofs.EffectsMet.{met-calls, no-fork}
use Rattle.lonecore.proofs.Followed.{Followed, Ending, Next, rests, goes_on, has_ended, depth, depths, no-fault, within, fork-deep, paid, leads}
use Rattle.lonecore.proofs.FewRunning.{Few}
use Rattle.lonecore.proofs.FewKept.{none-ready, few-choice}
use Rattle.lonecore.proofs.Crowd.{room-step, room-steal}

module _ (j : Job) (good : GoodJob j) (arguments memory : List ℕ) (k : ℕ) (low : k ≤ 31) (only : LforksOnly j.image)
    (E : Ending j good arguments memory k low) (enough : E.end.units ≤ j.allowance) where
  pub record Stands (n : ℕ) (s : State) : Type 0 where
    pub sound : Sound j s
    pub followed : Followed j good arguments memory k low n s
    pub few : Few s
    pub ongoing : s.outcome ≡ going

  module _ (n : ℕ) (s : State) (h : Stands n s) where
    -- how deep a thread is
    abbrev pub deep : ℕ → ℕ
    deep = depth j good arguments memory k low s h.sound n h.followed

    cheap : (c t : ℕ) → Used s t → ¬ (j.allowance < s.units + (turn_at j s c t).weight)
    cheap c t u d = let z = paid j good arguments memory k low s h.sound n h.followed E c t u in omega (arith, z, d, enough)

    -- the only forks are lforks, whose children are less than 32 - k deep
    lfork-deep : (t : ℕ) → Used s t → (r d a e : ℕ)
        → (effect_at j s (thread_at s t) ≡ Lforks r d a e) ⊎ (effect_at j s (thread_at s t) ≡ Forks r d a e) → suc (deep t) < 32 - k
    lfork-deep t u r d a e (inl q) = fork-deep j good arguments memory k low s h.sound n h.followed E t u r d a e q
    lfork-deep t u r d a e (inr q) = absurd (no-fork r d a e (met-calls j s h.sound.job h.sound.placed only t u (Forks r d a e) q))

    step-deep : (c : ℕ) → Stepped j s c (on_core s c) → (kind : ForkKind) (r : ℕ) → StepForks j s (on_core s c) kind r → suc (deep (on_core s c)) < 32 - k
    step-deep c g kind r (is_lfork _ d a e q) = lfork-deep (on_core s c) (runner j s h.sound c (on_core s c) g) r d a e (inl q)
    step-deep c g kind r (is_fork _ d a e q) = lfork-deep (on_core s c) (runner j s h.sound c (on_core s c) g) r d a e (inr q)

    module _ (small : s.count * (32 - k - 1) + 1 ≤ 16) where
      room : (c : ℕ) → Stepped j s c (on_core s c) → (kind : ForkKind) (r : ℕ) → StepForks j s (on_core s c) kind r
          → ¬ (s.queues.free_threads ≡ []) × ¬ (s.queues.free_stacklets ≡ [])
      room c g kind r f = room-step j s h.sound h.few deep (depths j good arguments memory k low s h.sound n h.followed) (32 - k)
          (within j good arguments memory k low s h.sound n h.followed E) c g.core g.low (step-deep c g kind r f) small

      -- a busy core's step
      pub step-taken : (c : ℕ) → c < s.count → on_core s c < none → (step_of j s c).log ≡ 0
      step-taken c core busy = by (step_of j s c).log (step-log j s h.sound c)
        where
          by : (x : ℕ) → StepLog j s c x → x ≡ 0
          by x (step_over e q) = absurd (not-both (is_over s.outcome) q (ap is_over h.ongoing))
          by x (step_no_core e o l) = absurd (omega (arith, l, core))
          by x (step_idle e o l i) = absurd (omega (arith, i, busy))
          by x (step_dear e d) = absurd (cheap c (on_core s c) (let z = h.sound.seats.runs c core busy in omega arith) d.dear)
          by x (step_faults g y q e) =
              absurd (no-fault j good arguments memory k low s h.sound n h.followed E (on_core s c) (runner j s h.sound c (on_core s c) g) y q)
          by x (step_few_threads e g kind r f z) = absurd ((room c g kind r f).0 z)
          by x (step_few_stacklets e g kind r f y b z) = absurd ((room c g kind r f).1 z)
          by x (step_accepted e) = e

      -- an idle core's steal, where the queue is empty
      pub steal-taken : (c t : ℕ) → c < s.count → none ≤ on_core s c → s.queues.ready ≡ [] → ((steal_of j s c t).log ≡ 0) ⊎ ((steal_of j s c t).log ≡ 18)
      steal-taken c t core idle empty = by (steal_of j s c t).log (steal-log j s h.sound c t)
        where
          room_for : Seeded j s c t → (r : ℕ) → SeedForks j s t r → ¬ (s.queues.free_threads ≡ []) × ¬ (s.queues.free_stacklets ≡ [])
          room_for g r (d, a, e, q) = room-steal j s h.sound h.few deep (depths j good arguments memory k low s h.sound n h.followed) (32 - k)
              (within j good arguments memory k low s h.sound n h.followed E) c t core idle empty
              (lfork-deep t (lent-used j s h.sound c t g) r d a e q) small

          by : (x : ℕ) → StealLog j s c t x → (x ≡ 0) ⊎ (x ≡ 18)
          by x (steal_over e q) = absurd (not-both (is_over s.outcome) q (ap is_over h.ongoing))
          by x (steal_no_core e o l) = absurd (omega (arith, l, core))
          by x (steal_busy e o l b) = absurd (omega (arith, b, idle))
          by x (steal_no_seed e o l i m) = inr e
          by x (steal_dear e d) = absurd (cheap c t (let z = d.seed.1 in omega arith) d.dear)
          by x (steal_faults g y q e) = absurd (no-fault j good arguments memory k low s h.sound n h.followed E t (lent-used j s h.sound c t g) y q)
          by x (steal_few_threads e g r f z) = absurd ((room_for g r f).0 z)
          by x (steal_few_stacklets e g r f y z) = absurd ((room_for g r f).1 z)
          by x (steal_accepted e) = inl e

    -- an idle core's take, where the queue is not empty
    pub take-taken : (c : ℕ) → c < s.count → none ≤ on_core s c → ¬ (s.queues.ready ≡ []) → (take_of s c).log ≡ 0
    take-taken c core idle some = by (take_of s c).log (take-log s c)
      where
        by : (x : ℕ) → TakeLog s c x → x ≡ 0
        by x (take_over e q) = absurd (not-both (is_over s.outcome) q (ap is_over h.ongoing))
        by x (take_no_core e o l) = absurd (omega (arith, l, core))
        by x (take_busy e o l b) = absurd (omega (arith, b, idle))
        by x (take_empty e o l i r) = absurd (some r)
        by x (take_accepted e) = e

    -- what a core's try is told: accepted, or that of an idle core that finds neither a ready thread nor a seed
    abbrev pub Told : ℕ → ℕ → Type 0
    Told c x = (x ≡ 0) ⊎ ((x ≡ 18) × (none ≤ on_core s c) × (s.queues.ready ≡ []))

    pub choice-taken : s.count * (32 - k - 1) + 1 ≤ 16 → (c : ℕ) → c < s.count → Told c (entry_of j s (choice_of j s c)).log
    unfolding entry_of choice_of idle_choice
    choice-taken small c core = go (is_busy s c) refl (ltb 0 (length s.queues.ready)) refl
      where
        go : (b : Bool) → is_busy s c ≡ b → (r : Bool) → ltb 0 (length s.queues.ready) ≡ r
            → Told c (entry_of j s (cond b (Step c) (cond r (Take c) (Steal c (first_seed j s))))).log
        go true f r e = inl (step-taken small c core (ltb-true _ _ f))
        go false f true e =
            inl (take-taken c core (ltb-false _ _ f) (λ q. let z = ltb-true 0 (length s.queues.ready) e in let y = ap length q in omega arith))
        go false f false e =
            let idle = ltb-false _ _ f in
            let empty = none-ready s.queues.ready e in
            ⊎_elim (λ z. inl z) (λ z. inr (z, idle, empty)) (steal-taken small c (first_seed j s) core idle empty)

  -- what an accepted try leads to
  pub data Goes (n : ℕ) (s s' : State) : Type 0 where
    stays : Stands n s' → s'.units ≡ s.units → Goes n s s'
    further : Stands (suc n) s' → Goes n s s'
    over : (v : ℕ) → s'.outcome ≡ finished v → suc n ≡ E.count → Goes n s s'

  pub goes : (n : ℕ) (s : State) → Stands n s → (c : ℕ) → (entry_of j s (choice_of j s c)).log ≡ 0 → Goes n s (entry_of j s (choice_of j s c)).state
  goes n s h c z = by (leads j good arguments memory k low s h.sound n h.followed E (choice_of j s c) z)
    where
      standing : (m : ℕ) → (entry_of j s (choice_of j s c)).state.outcome ≡ going → Followed j good arguments memory k low m (entry_of j s (choice_of j s c)).state
          → Stands m (entry_of j s (choice_of j s c)).state
      standing m o f = record { sound = entry-sound j s h.sound (choice_of j s c); followed = f; few = few-choice j s h.sound only h.few c o; ongoing = o }

      by : Next j good arguments memory k low s h.sound n h.followed E (entry_of j s (choice_of j s c)) → Goes n s (entry_of j s (choice_of j s c)).state
      by (rests o u f) = stays (standing n o f) u
      by (goes_on o f) = further (standing (suc n) o f)
      by (has_ended v o e) = over v o e
