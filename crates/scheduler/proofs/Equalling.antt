-- The scheduler's run equals the run by the entries that it wrote. Assumes nothing.
use borrow.Author.Tests.{eqb-false, leb-true}
use mathlib.Core.Bool.{Bool, true, false, cond, not}
use mathlib.Core.List.{List, [], ◌∷◌, ◌++◌, append-nil}
use mathlib.Core.Logic.{◌⊎◌, inl, inr}
use mathlib.Core.Path.{◌≡◌, refl, ◌∙◌, ap, subst}
use Prim.Native.Nat.{ℕ, zero, suc, ◌+◌, ◌≤◌, ◌<◌}
use native.Mathlib.Decide.{dec_lt}
use native.Mathlib.Nat.{zero-add}
use native.Mathlib.Omega.{arith}
use lib.Dec.{leb}
use lib.ListN.{get_or, length}
use Rattle.command.proofs.Bools.{both}
use Rattle.schedule.specs.declared.Entry.{Entry}
use Rattle.schedule.specs.declared.Entry.TheVariants.{Enable}
use Rattle.schedule.specs.Format.{bytes_of_entry, bytes_of_entries}
use Rattle.schedule.proofs.Following.{accepts-short}
use Rattle.rules.specs.Lists.{Every}
use Rattle.thread.specs.Thread.{none}
use Rattle.rules.specs.State.{Job, State, is_over}
use Rattle.rules.specs.Statuses.{IsSuspended}
use Rattle.rules.specs.Rules.{entry_of}
use Rattle.rules.proofs.Laws.{run-next}
use Rattle.rules.specs.Runs.{run_from, logs_from}
use Rattle.demands.specs.Input.{Input, job_in, start_in}
use Rattle.demands.specs.Demands.{Demand3}
use Rattle.demands.proofs.Demands.{demand-3}
use Rattle.demands.proofs.Passing.{takes}
use Rattle.search.specs.Search.{choice_of, lowest_suspended}
use Rattle.rounds.specs.Rounds.{Progress, is_written, may_try, recorded, tried, turns, fresh, round, plays_on, wakened, rounds, usable, beginning}
use Rattle.turns.proofs.Keeping.{short, many-append}
use Rattle.scheduler.proofs.Ending.{none_found, stops, ended}
use Rattle.scheduler.specs.Promise.{scheduled_of, refusal_in, EqualsRun, Ends}

one-many : (e : Entry) → length (bytes_of_entries (e ∷ [])) ≡ length (bytes_of_entry e)
unfolding bytes_of_entries
one-many e = ap length (append-nil (bytes_of_entry e))

module _ (j : Job) where
  logs-snoc : (P : ℕ → Type 0) (s : State) (es : List Entry) (e : Entry) → Every P (logs_from j s es) → P (entry_of j (run_from j s es) e).log
      → Every P (logs_from j s (es ++ (e ∷ [])))
  unfolding run_from logs_from
  logs-snoc P s [] e h k = (k, tt)
  logs-snoc P s (d ∷ es) e h k = (h.0, logs-snoc P (entry_of j s d).state es e h.1 k)

  -- the entries written lead to the state, and their bytes were in the buffer
  pub record Ran (s₀ : State) (room : ℕ) (p : Progress) : Type 0 where
    pub runs : run_from j s₀ p.written ≡ p.state
    pub logs : Every (λ n. is_written n ≡ true) (logs_from j s₀ p.written)
    pub fits : length (bytes_of_entries p.written) + p.left ≡ room

  module _ (s₀ : State) (room : ℕ) where
    ran-recorded : (p : Progress) → Ran s₀ room p → 3 ≤ p.left → (e : Entry) (b : Bool) → is_written (entry_of j p.state e).log ≡ b
        → Ran s₀ room (recorded e (entry_of j p.state e) p)
    unfolding recorded
    ran-recorded p r l e true h =
        rw h
        (record {
          runs = run-next j s₀ p.written e ∙ ap (λ (x : State). (entry_of j x e).state) r.runs;
          logs = logs-snoc (λ n. is_written n ≡ true) s₀ p.written e r.logs (ap (λ (x : State). is_written (entry_of j x e).log) r.runs ∙ h);
          fits = omega (arith, r.fits, short e, many-append p.written (e ∷ []), one-many e);
        })
    ran-recorded p r l e false h = rw h r

    -- one of two, the first only where a test is met
    either : (b : Bool) (p q : Progress) → (b ≡ true → Ran s₀ room p) → Ran s₀ room q → Ran s₀ room (cond b p q)
    either true p q x y = x refl
    either false p q x y = y

    ran-tried : (p : Progress) → Ran s₀ room p → (e : Entry) → Ran s₀ room (tried j e p)
    unfolding tried
    ran-tried p r e =
        either (may_try p) (recorded e (entry_of j p.state e) p) p
        (λ h. ran-recorded p r (leb-true 3 p.left (both (not (is_over p.state.outcome)) (leb 3 p.left) h).1) e _ refl)
        r

    ran-turns : (n c : ℕ) (p : Progress) → Ran s₀ room p → Ran s₀ room (turns n j c p)
    unfolding turns
    ran-turns zero c p r = r
    ran-turns (suc n) c p r = ran-turns n (suc c) (tried j (choice_of j p.state c) p) (ran-tried p r (choice_of j p.state c))

    ran-round : (p : Progress) → Ran s₀ room p → Ran s₀ room (round j p)
    ran-round p r = ran-turns p.state.count 0 (fresh p) (record { runs = r.runs; logs = r.logs; fits = r.fits })

    ran-wakened : (p : Progress) → Ran s₀ room p → Ran s₀ room (wakened j p)
    unfolding wakened
    ran-wakened p r = either p.moved p (tried j (Enable (lowest_suspended p.state)) p) (λ h. r) (ran-tried p r (Enable (lowest_suspended p.state)))

    pub ran-rounds : (n : ℕ) (p : Progress) → Ran s₀ room p → Ran s₀ room (rounds n j p)
    unfolding rounds
    ran-rounds zero p r = r
    ran-rounds (suc n) p r =
        let q = ran-round p r in
        let next = ran-rounds n (wakened j (round j p)) (ran-wakened (round j p) q) in
        either (plays_on (round j p)) (rounds n j (wakened j (round j p))) (round j p) (λ h. next) q

module _ (i : Input) (size : ℕ) where
  whole : Ran (job_in i) (start_in i) (usable size) (scheduled_of i size)
  unfolding run_from logs_from bytes_of_entries
  whole = ran-rounds (job_in i) (start_in i) (usable size) (suc (usable size)) (beginning (start_in i) size)
      (record { runs = refl; logs = tt; fits = zero-add (usable size) })

  -- what is used is within the buffer, and within 32,768 bytes
  pub ends : Ends (scheduled_of i size) (length (bytes_of_entries (scheduled_of i size).written)) size
  ends =
      let p = scheduled_of i size in
      record {
        when = by p whole.fits (ended p (stops (job_in i) (suc (usable size)) (beginning (start_in i) size) (omega arith)));
        within = omega (arith, whole.fits);
        most = omega (arith, whole.fits);
      }
    where
      by : (p : Progress) → length (bytes_of_entries p.written) + p.left ≡ usable size
          → (is_over p.state.outcome ≡ true) ⊎ ((p.left < 3) ⊎ ((p.moved ≡ false) × (none ≤ lowest_suspended p.state)))
          → (is_over p.state.outcome ≡ true)
          ⊎ (((p.moved ≡ false) × ((t : ℕ) → t < 32 → ¬ (IsSuspended p.state t)))
          ⊎ ((size < length (bytes_of_entries p.written) + 3) ⊎ (32768 < length (bytes_of_entries p.written) + 3)))
      by p f (inl over) = inl over
      by p f (inr (inl few)) = inr (inr (shorter (dec_lt size (length (bytes_of_entries p.written) + 3))))
        where
          shorter : Dec (size < length (bytes_of_entries p.written) + 3)
              → (size < length (bytes_of_entries p.written) + 3) ⊎ (32768 < length (bytes_of_entries p.written) + 3)
          shorter (yes l) = inl l
          shorter (no l) = inr (omega (arith, f, few, l))
      by p f (inr (inr idle)) =
          inr (inl (idle.0, λ t l. eqb-false _ _ (none_found 32 p.state.threads 0 t idle.1 (omega arith) (omega arith) (omega arith))))

  pub equals : refusal_in i ≡ 0 → ((k : ℕ) → get_or i.image k 0 < 256) → EqualsRun i (scheduled_of i size)
  equals passes bytes =
      let es = (scheduled_of i size).written in
      let few : length (bytes_of_entries es) ≤ 32768 = omega (arith, whole.fits) in
      record {
        means = accepts-short es few;
        state = whole.runs;
        logs = whole.logs;
        demand = subst (Demand3 i) whole.runs (demand-3 i (takes i [] [] passes bytes) es);
      }
