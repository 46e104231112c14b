-- Lists of entries of any length, from Start: the states that they reach are reached by a run of the theory's pool. So a machine that
-- finishes has the serial run's result, memory and units, and where the serial run finishes no machine faults. Assumes a good job, 1 to 4
-- cores, as many arguments as routine 0 takes and 992 memory words.
use mathlib.Core.List.{List, [], ◌∷◌}
use mathlib.Core.Path.{◌≡◌, refl, sym, ◌∙◌, ap, subst}
use Prim.Native.Nat.{ℕ, ◌+◌, ◌<◌, ◌≤◌}
use native.Mathlib.Omega.{arith}
use lib.ListN.{length, get_or-eq_default}
use Rattle.image.specs.Layout.{arguments_of}
use Rattle.schedule.specs.declared.Entry.{Entry}
use Rattle.window.specs.declared.Window.{Window}
use Rattle.window.proofs.Instance.{windows}
use Rattle.forkjoin.proofs.Language.{halt, ret}
use Rattle.forkjoin.proofs.ThreadPool.{Link, root, used, free, Pool}
use Rattle.forkjoin.proofs.Arrays.{words-from, words-eq}
use Rattle.forkjoin.proofs.PoolRun.{rest, run-snoc}
use Rattle.forkjoin.proofs.SerialRun.{Outcome as SerialOutcome, done, stopped}
use Rattle.forkjoin.proofs.ScheduleIndependence.{Job as TheoryJob, JobRun, job-serial, machine-agrees, machine-sound, machine-units}
use Rattle.thread.specs.Thread.{status_number, blank_thread}
use Rattle.thread.proofs.ThreadState.{ThreadState}
use Rattle.thread.proofs.LawfulThreads.{threads}
use Rattle.thread.proofs.CarriedThreads.{carried-threads, does}
use Rattle.thread.proofs.MarkedWindows.{window-tests, root-job}
use Rattle.rules.specs.State.{Job, State, After, going, finished, faulted, thread_at}
use Rattle.rules.specs.Rules.{entry_of}
use Rattle.rules.specs.Start.{start_state}
use Rattle.rules.specs.Runs.{run_from}
use Rattle.rules.specs.Sound.{GoodJob, Sound}
use Rattle.soundness.proofs.StartSound.{start-sound}
use Rattle.soundness.proofs.Kept.{entry-sound, run_sound}
use Rattle.simulation.proofs.JobCode.{weight_in, code_of}
use Rattle.simulation.proofs.StatePool.{pool_of, cell_free}
use Rattle.simulation.proofs.EntryMoves.{Moves, refuses, rests, steps, finishes, faults-by, entry-moves}
use Rattle.simulation.proofs.StartPool.{root_slots, start-pool}

-- thread numbers above 31 are free
limited : (j : Job) (s : State) → Sound j s → (t : ℕ) → 31 < t → (pool_of j s).cell t ≡ free
limited j s ok t l = cell_free j s.store.words (thread_at s t)
    (ap (λ h. status_number h.status) (get_or-eq_default s.threads blank_thread {n = t} (omega (arith, ok.sized.threads))))

module _ (j : Job) (good : GoodJob j) (arguments memory : List ℕ) where
  -- the job to the theory
  abbrev pub theory_job : TheoryJob
  theory_job = root-job (code_of j good) (root_slots arguments)

  -- the serial run: document 01's plain run
  abbrev pub serial_run : SerialOutcome
  serial_run = job-serial theory_job j.allowance (words-from 32 memory)

  -- a run of the pool from Start
  abbrev pub Reaches : Pool (ThreadState Window) → Type 0
  Reaches N = JobRun theory_job j.allowance (words-from 32 memory) N

  -- a finished machine: the root has returned, from a pool that a run reached
  pub record Finished (s : State) : Type 0 where
    pub result : ℕ
    pub over : s.outcome ≡ finished result
    pub before : Pool (ThreadState Window)
    pub run : Reaches before
    pub thread : ℕ
    pub last : ThreadState Window
    pub is-root : before.cell thread ≡ used last root
    pub returns : does windows window-tests (code_of j good) 0 last ≡ ret result
    pub words : before.words ≡ words-from 32 s.store.memory
    pub units : before.units + weight_in j last.routine last.position ≡ s.units
    pub paid : s.units ≤ j.allowance

  -- a faulted machine: the thread's act is a halt, in a pool that a run reached
  pub record Faulted (s : State) : Type 0 where
    pub number : ℕ
    pub thread : ℕ
    pub offset : ℕ
    pub over : s.outcome ≡ faulted number thread offset
    pub run : Reaches (pool_of j s)
    pub halted : ThreadState Window
    pub link : Link
    pub there : (pool_of j s).cell thread ≡ used halted link
    pub halts : does windows window-tests (code_of j good) 0 halted ≡ halt number

  pub data Reached (s : State) : Type 0 where
    still_open : s.outcome ≡ going → Reaches (pool_of j s) → Reached s
    has-finished : Finished s → Reached s
    has-faulted : Faulted s → Reached s

  -- a run that has reached an open state
  open-run : (s : State) → s.outcome ≡ going → Reached s → Reaches (pool_of j s)
  open-run s o (still_open e run) = run
  open-run s o (has-finished f) = let e = f.over in let z : ◌≡◌ {A = ℕ} 0 1 = cc in absurd (omega arith)
  open-run s o (has-faulted f) = let e = f.over in let z : ◌≡◌ {A = ℕ} 0 1 = cc in absurd (omega arith)

  entry-reached : (s : State) (a : After) → Sound j a.state → Reached s → Moves j good s a → Reached a.state
  entry-reached s a ok r (refuses n l m e) = subst Reached (sym (ap (λ b. b.state) e)) r
  entry-reached s a ok r (rests o m) = still_open m.ongoing (subst Reaches (sym m.pool) (open-run s o r))
  entry-reached s a ok r (steps o m) = still_open m.ongoing
      (run-snoc (threads windows window-tests (code_of j good)) (carried-threads windows window-tests (code_of j good)) 31 m.thread (open-run s o r)
      m.step (limited j a.state ok))
  entry-reached s a ok r (finishes o m) = has-finished (record {
    result = m.result;
    over = m.over;
    before = pool_of j s;
    run = open-run s o r;
    thread = m.thread;
    last = m.last;
    is-root = m.is-root;
    returns = m.returns;
    words = ap (words-from 32) (sym m.memory);
    units = sym m.units;
    paid = m.paid;
  })
  entry-reached s a ok r (faults-by o m) = has-faulted (record {
    number = m.number;
    thread = m.thread;
    offset = m.offset;
    over = m.over;
    run = subst Reaches (sym m.pool) (open-run s o r);
    halted = m.halted;
    link = m.link;
    there = ap (λ N. N.cell m.thread) m.pool ∙ m.there;
    halts = m.halts;
  })

  entries-reached : (es : List Entry) (s : State) → Sound j s → Reached s → Reached (run_from j s es)
  unfolding run_from
  entries-reached [] s ok r = r
  entries-reached (e ∷ es) s ok r = entries-reached es (entry_of j s e).state (entry-sound j s ok e)
      (entry-reached s (entry_of j s e) (entry-sound j s ok e) r (entry-moves j good s ok e))

  module _ (count : ℕ) (some : 1 ≤ count) (most : count ≤ 4) (few : length arguments ≡ arguments_of j.image 0) (all : length memory ≡ 992) where
    -- the state after some entries from Start
    abbrev pub end_of : List Entry → State
    end_of es = run_from j (start_state j count arguments memory) es

    start-open : (start_state j count arguments memory).outcome ≡ going
    unfolding start_state
    start-open = refl

    -- every state that entries lead to is reached by a run of the pool
    pub reached : (es : List Entry) → Reached (end_of es)
    reached es = entries-reached es (start_state j count arguments memory) (start-sound j count arguments memory good some most all)
        (still_open start-open (subst Reaches (start-pool j good count arguments memory few) rest))

    -- a finished machine's result, memory words and units are the serial run's
    pub entries-agree : (es : List Entry) (v : ℕ) → (end_of es).outcome ≡ finished v
        → serial_run ≡ done v (words-from 32 (end_of es).store.memory) (end_of es).units
    entries-agree es v over = by (reached es)
      where
        by : Reached (end_of es) → serial_run ≡ done v (words-from 32 (end_of es).store.memory) (end_of es).units
        by (still_open e run) = let z : ◌≡◌ {A = ℕ} 0 1 = cc in absurd (omega arith)
        by (has-faulted f) = let e = f.over in let z : ◌≡◌ {A = ℕ} 0 1 = cc in absurd (omega arith)
        by (has-finished f) =
            let e = f.over in
            let same : f.result ≡ v = cc in
            let u = f.units in
            let p = f.paid in
            machine-agrees theory_job j.allowance (words-from 32 memory) f.before f.run f.thread f.result f.last f.is-root
            f.returns (omega arith)
            ∙ (λ ι. done (same ι) (f.words ι) (f.units ι))

    -- the same where the serial run is known by its memory words
    pub entries-same : (v u : ℕ) (ms : List ℕ) → length ms ≡ 992 → serial_run ≡ done v (words-from 32 ms) u
        → (es : List Entry) (w : ℕ) → (end_of es).outcome ≡ finished w → (w ≡ v) × ((end_of es).store.memory ≡ ms) × ((end_of es).units ≡ u)
    entries-same v u ms many serial es w over =
        let a = sym (entries-agree es w over) ∙ serial in
        let same : words-from 32 (end_of es).store.memory ≡ words-from 32 ms = cc in
        let size = (run_sound j count arguments memory good some most all es).sized.memory in
        (cc, words-eq 32 (end_of es).store.memory ms (size ∙ sym many) same, cc)

    -- where the serial run ends by a number, no machine finishes
    pub entries-unfinished : (x u : ℕ) (ms : ℕ → ℕ) → serial_run ≡ stopped x ms u → (es : List Entry) (v : ℕ) → (end_of es).outcome ≡ finished v → ⊥
    entries-unfinished x u ms serial es v over = let a = entries-agree es v over in let z : ◌≡◌ {A = ℕ} 0 1 = cc in omega arith

    -- where the serial run finishes, no machine faults
    pub entries-faultless : (v u : ℕ) (ms : ℕ → ℕ) → serial_run ≡ done v ms u → (es : List Entry) (n t o : ℕ) → (end_of es).outcome ≡ faulted n t o → ⊥
    entries-faultless v u ms serial es n t o over = by (reached es)
      where
        by : Reached (end_of es) → ⊥
        by (still_open e run) = let z : ◌≡◌ {A = ℕ} 0 1 = cc in omega arith
        by (has-finished f) = let e = f.over in let z : ◌≡◌ {A = ℕ} 0 1 = cc in omega arith
        by (has-faulted f) = machine-sound theory_job j.allowance (words-from 32 memory) v u ms serial (pool_of j (end_of es)) f.run f.thread
            f.number f.halted f.link f.there f.halts

    -- and none passes its units
    pub entries-units : (v u : ℕ) (ms : ℕ → ℕ) → serial_run ≡ done v ms u → (es : List Entry) → (end_of es).units ≤ u
    entries-units v u ms serial es = by (reached es)
      where
        by : Reached (end_of es) → (end_of es).units ≤ u
        by (still_open e run) = machine-units theory_job j.allowance (words-from 32 memory) v u ms serial (pool_of j (end_of es)) run
        by (has-finished f) =
            let a = sym (entries-agree es f.result f.over) ∙ serial in
            let same : (end_of es).units ≡ u = cc in
            omega arith
        by (has-faulted f) = machine-units theory_job j.allowance (words-from 32 memory) v u ms serial (pool_of j (end_of es)) f.run
