-- The serial run is the theory's: what it ends by, its memory words and its units are those of the serial run of document 01's threads.
-- Assumes a good job, as many arguments as routine 0 takes and 992 memory words.
use mathlib.Core.Bool.{Bool, true, false, cond}
use mathlib.Core.List.{List}
use mathlib.Core.Logic.{ite}
use mathlib.Core.Option.{some}
use mathlib.Core.Path.{◌≡◌, refl, sym, ◌∙◌, ap, subst}
use Prim.Native.Nat.{ℕ, zero, suc, ◌+◌, ◌-◌, ◌≤◌, ◌<◌}
use native.Mathlib.Decide.{dec_lt, dec_le}
use native.Mathlib.Omega.{arith}
use borrow.Author.Tests.{lt-ltb, le-ltb, le-leb, lt-leb, ltb-true, ltb-false}
use lib.Dec.{ltb}
use lib.ListN.{get_or, set, length, length-set}
use Rattle.image.specs.Layout.{arguments_of}
use Rattle.image.proofs.Accepted.{accepted}
use Rattle.image.proofs.Laws.{slots-most, arguments-most}
use Rattle.window.specs.declared.Window.{Window}
use Rattle.window.specs.Rights.{root_window, child_of, rest_of, sharing_of, cut_at}
use Rattle.window.proofs.Laws.{cut-made, share-made, root-fits}
use Rattle.window.proofs.Instance.{windows, parts_of, shared_of}
use Rattle.forkjoin.proofs.Update.{update}
use Rattle.forkjoin.proofs.Arrays.{words-from, words-set}
use Rattle.forkjoin.proofs.SerialRun.{Outcome as TheoryOutcome, done as t-done, stopped as t-stopped, and-then}
use Rattle.thread.specs.declared.Effect.{Effect}
use Rattle.thread.specs.declared.Effect.TheVariants.{Faults, Sets, Loads, Stores, Goes, Continues, Lforks, Forks, Joins, Suspends, Yields, Returns, Shares}
use Rattle.thread.specs.Job.{Job, GoodJob, word_at}
use Rattle.thread.proofs.ThreadState.{ThreadState, effect, onward}
use Rattle.thread.proofs.MarkedWindows.{window-tests}
use Rattle.thread.proofs.SerialSteps.{serial, serial-short, serial-faults, serial-sets, serial-loads-parameter, serial-loads, serial-stores, serial-goes, serial-continues, serial-suspends, serial-yields, serial-shares, serial-joins, serial-returns, serial-lforks, serial-forks, serial-lforks-deep, serial-forks-deep, then-child}
use Rattle.thread.specs.Effect.{asked}
use Rattle.serial.specs.declared.Routine.{Routine}
use Rattle.serial.specs.Serial.{Ended, done, stopped, and_then, jumped_to, assigned, advanced, joined, shared, forked, started_on, arguments_from, weight_at, next_effect, fork_called, carried, call_from, serial_from}
use Rattle.serial.specs.Steps.{GoodRoutine}
use Rattle.serial.proofs.CommandMet.{ForkMet, Known, Next, next-met, weighs, met, slots-few, fresh}
use Rattle.serial.proofs.Unrolled.{Between, between, between_done, unrolled}
use Rattle.simulation.proofs.JobCode.{code_of}
use Rattle.simulation.proofs.EntriesRun.{theory_job, serial_run}
use Rattle.simulation.proofs.PendingSlots.{none-pending}
use Rattle.demands.proofs.RoutineState.{state_of, first-listed, weight-here, effect-here, onward-is, set_is, join_is, share-is, child-is, parent_is}

-- how a serial run ended, as the theory says it: memory words as a function of the address
abbrev pub as_outcome : Ended → TheoryOutcome
as_outcome (done v m u) = t-done v (words-from 32 m) u
as_outcome (stopped n m u) = t-stopped n (words-from 32 m) u

abbrev pub memory_of : Ended → List ℕ
memory_of (done v m u) = m
memory_of (stopped n m u) = m

-- an end that is the theory's, with all its memory words
pub record Same (x : Ended) (o : TheoryOutcome) : Type 0 where
  pub same : as_outcome x ≡ o
  pub size : length (memory_of x) ≡ 992

along : (x : Ended) (o o' : TheoryOutcome) → o' ≡ o → Same x o → Same x o'
along x o o' e s = record { same = s.same ∙ sym e; size = s.size }

-- a fork's child, and then its parent
then_same : (x : Ended) (o : TheoryOutcome) (f : ℕ → List ℕ → ℕ → Ended) (h : ℕ → (ℕ → ℕ) → ℕ → TheoryOutcome) → Same x o
    → ((v : ℕ) (m : List ℕ) (u : ℕ) → x ≡ done v m u → length m ≡ 992 → Same (f v m u) (h v (words-from 32 m) u))
    → Same (and_then x f) (and-then o h)
then_same (done v m u) o f h s k = along _ _ _ (ap (λ z. and-then z h) (sym s.same)) (k v m u refl s.size)
then_same (stopped n m u) o f h s k = along _ _ _ (ap (λ z. and-then z h) (sym s.same)) (record { same = refl; size = s.size })

module _ (j : Job) (good : GoodJob j) where
  -- the theory's serial run
  abbrev pub theory : ℕ → ThreadState Window → (ℕ → ℕ) → ℕ → TheoryOutcome
  theory n q ws u = serial windows window-tests (code_of j good) j.allowance n q ws u

  -- runs from u units on, of which fewer than f are left
  Agree : ℕ → Type 0
  Agree f = (n : ℕ) (l : Routine) (m : List ℕ) (u : ℕ) → GoodRoutine j l → length m ≡ 992 → j.allowance < u + f
      → Same (call_from j (suc n) l m u) (theory n (state_of l) (words-from 32 m) u)

  -- "22: units plus the command's weight pass the allowance"
  short : (n : ℕ) (l : Routine) (m : List ℕ) (u : ℕ) → GoodRoutine j l → length m ≡ 992 → j.allowance < u + weight_at j l
      → Same (stopped 22 m u) (theory n (state_of l) (words-from 32 m) u)
  short n l m u g all h = record {
    same = sym (serial-short windows window-tests (code_of j good) j.allowance n (state_of l) (words-from 32 m) u (rw (weight-here j good l g) h));
    size = all;
  }

  -- a command that is paid for, where runs agree from there on
  module _ (f : ℕ) (ih : Agree f) (n : ℕ) (l : Routine) (m : List ℕ) (u : ℕ) (g : GoodRoutine j l) (all : length m ≡ 992)
      (left : j.allowance < u + suc f) (paid : u + weight_at j l ≤ j.allowance) where
    abbrev ws : ℕ → ℕ
    ws = words-from 32 m

    some-weight : 1 ≤ weight_at j l
    some-weight = weighs j good l g

    charged : u + (code_of j good).weight l.routine l.position ≡ u + weight_at j l
    charged = ap (λ z. u + z) (weight-here j good l g)

    paid-here : u + (code_of j good).weight l.routine l.position ≤ j.allowance
    paid-here = rw charged paid

    met-here : (e : Effect) → next_effect j l ≡ e → effect windows window-tests (code_of j good) (state_of l) ≡ e
    met-here e h = effect-here j good l g ∙ h

    -- the routine goes on as l'
    goes : (l' : Routine) (m' : List ℕ) (q : ThreadState Window) (ws' : ℕ → ℕ) → GoodRoutine j l' → length m' ≡ 992 → q ≡ state_of l' → ws' ≡ words-from 32 m'
        → theory n (state_of l) ws u ≡ theory n q ws' (u + (code_of j good).weight l.routine l.position)
        → Same (call_from j (suc n) l' m' (u + weight_at j l)) (theory n (state_of l) ws u)
    unfolding Agree
    goes l' m' q ws' g' all' e e' step =
        along _ _ _ (step ∙ (λ ι. theory n (e ι) (e' ι) (charged ι))) (ih n l' m' (u + weight_at j l) g' all' (omega (arith, some-weight)))

    word-there : (a : ℕ) (o : Dec (32 ≤ a)) → 32 ≤ a → ite o (get_or m (a - 32) 0) 0 ≡ get_or m (a - 32) 0
    word-there a (yes _) h = refl
    word-there a (no x) h = absurd (x h)

    loads : (d a : ℕ) → next_effect j l ≡ Loads d a → d < 16 → GoodRoutine j (advanced j (assigned d (word_at j m a) l)) → Dec (a < 32)
        → Same (call_from j (suc n) (advanced j (assigned d (word_at j m a) l)) m (u + weight_at j l)) (theory n (state_of l) ws u)
    loads d a e h g' (yes low) =
        goes (advanced j (assigned d (word_at j m a) l)) m _ ws g' all
        (ap (λ v. onward (code_of j good) (state_of l) (update (state_of l).slots d v)) (ap (λ t. cond t (get_or j.parameters a 0) (get_or m (a - 32) 0)) (sym (lt-ltb a 32 low)))
        ∙ set_is j good l g d (word_at j m a) h) refl
        (serial-loads-parameter windows window-tests (code_of j good) j.allowance n (state_of l) ws u paid-here d a (met-here (Loads d a) e) low)
    loads d a e h g' (no low) =
        goes (advanced j (assigned d (word_at j m a) l)) m _ ws g' all
        (ap (λ v. onward (code_of j good) (state_of l) (update (state_of l).slots d v)) (word-there a (dec_le 32 a) (omega arith)
        ∙ ap (λ t. cond t (get_or j.parameters a 0) (get_or m (a - 32) 0)) (sym (le-ltb a 32 (omega arith))))
        ∙ set_is j good l g d (word_at j m a) h) refl
        (serial-loads windows window-tests (code_of j good) j.allowance n (state_of l) ws u paid-here d a (met-here (Loads d a) e) (omega arith))

    parts : (r d a e : ℕ) → ForkMet j good l g r d a e → parts_of (cut_at l.window e) ≡ some (child_of l.window e, rest_of l.window e)
    parts r d a e k = ap parts_of (cut-made l.window e k.low k.high)

    -- a fork: the child's run, then the parent's
    abbrev called : ℕ → ℕ → ℕ → ℕ → TheoryOutcome
    called r d a e = then-child windows window-tests (code_of j good) j.allowance n (state_of l) ws u paid-here r d a (child_of l.window e) (rest_of l.window e)

    forks : (r d a e : ℕ) → ForkMet j good l g r d a e → GoodRoutine j (started_on r (arguments_from j l r a) (child_of l.window e))
        → ((v : ℕ) → GoodRoutine j (assigned d v (advanced j (forked d e l))))
        → (n < 31 → theory n (state_of l) ws u ≡ called r d a e) → (31 ≤ n → theory n (state_of l) ws u ≡ t-stopped 26 ws u) → Dec (n < 31)
        → Same (fork_called j (call_from j) (suc n) l (asked r d a e) m u) (theory n (state_of l) ws u)
    unfolding Agree
    forks r d a e k child parent shallow deep (no h) =
        rw (le-leb 32 (suc n) (omega arith)) (along _ _ _ (deep (omega arith)) (record { same = refl; size = all }))
    forks r d a e k child parent shallow deep (yes h) =
        rw (lt-leb 32 (suc n) (omega arith)) (along _ _ _
        (shallow h ∙ (λ ι. and-then (theory (suc n) (child-is j good l g r a e (omega (arith, k.arguments, slots-few j good l g)) ι) ws (charged ι))
        (λ v m' u'. theory n (parent_is j good l g d e v (omega (arith, k.result, slots-few j good l g)) ι) m' u')))
        (then_same (call_from j (suc (suc n)) (started_on r (arguments_from j l r a) (child_of l.window e)) m (u + weight_at j l)) _ _ _
        (ih (suc n) (started_on r (arguments_from j l r a) (child_of l.window e)) m (u + weight_at j l) child all (omega (arith, some-weight)))
        (λ v m' u' x all'. ih n (assigned d v (advanced j (forked d e l))) m' u' (parent v) all' (later v m' u' x))))
      where
        later : (v : ℕ) (m' : List ℕ) (u' : ℕ)
            → call_from j (suc (suc n)) (started_on r (arguments_from j l r a) (child_of l.window e)) m (u + weight_at j l) ≡ done v m' u'
            → j.allowance < u' + f
        later v m' u' x =
            let b = between j (suc (suc n)) (started_on r (arguments_from j l r a) (child_of l.window e)) m (u + weight_at j l) paid in
            let c = between_done (subst (Between (u + weight_at j l) j.allowance (length m)) x b) in
            omega (arith, c.0, some-weight)

    -- by the effect
    by-effect : (e : Effect) → next_effect j l ≡ e → Known j good l g e → Next j l e
        → Same (carried j (call_from j) (suc n) l m u e) (theory n (state_of l) ws u)
    unfolding carried
    by-effect (Faults x) e k g' = record {
      same = sym (serial-faults windows window-tests (code_of j good) j.allowance n (state_of l) ws u paid-here x (met-here (Faults x) e));
      size = all;
    }
    by-effect (Sets d v) e k g' = goes (advanced j (assigned d v l)) m _ ws g' all (set_is j good l g d v k.reach) refl
        (serial-sets windows window-tests (code_of j good) j.allowance n (state_of l) ws u paid-here d v (met-here (Sets d v) e))
    by-effect (Loads d a) e k g' = loads d a e k.reach.0 (g' (word_at j m a)) (dec_lt a 32)
    by-effect (Stores a v) e k g' = goes (advanced j l) (set m (a - 32) v) _ _ g' (length-set m (a - 32) v ∙ all) (onward-is j good l g)
        (sym (words-set 32 m a v k.reach.0 (omega (arith, k.reach.1, all))))
        (serial-stores windows window-tests (code_of j good) j.allowance n (state_of l) ws u paid-here a v (met-here (Stores a v) e))
    by-effect (Goes p) e k g' = goes (jumped_to p l) m _ ws g' all refl refl
        (serial-goes windows window-tests (code_of j good) j.allowance n (state_of l) ws u paid-here p (met-here (Goes p) e))
    by-effect Continues e k g' = goes (advanced j l) m _ ws g' all (onward-is j good l g) refl
        (serial-continues windows window-tests (code_of j good) j.allowance n (state_of l) ws u paid-here (met-here Continues e))
    by-effect (Lforks r d a c) e k g' = forks r d a c k.told.facts.0 g'.0 g'.1
        (λ h. serial-lforks windows window-tests (code_of j good) j.allowance n (state_of l) ws u paid-here r d a c (child_of l.window c) (rest_of l.window c)
        (met-here (Lforks r d a c) e) (parts r d a c k.told.facts.0) h)
        (λ h. serial-lforks-deep windows window-tests (code_of j good) j.allowance n (state_of l) ws u paid-here r d a c (child_of l.window c) (rest_of l.window c)
        (met-here (Lforks r d a c) e) (parts r d a c k.told.facts.0) h) (dec_lt n 31)
    by-effect (Forks r d a c) e k g' = forks r d a c k.told.facts.0 g'.0 g'.1
        (λ h. serial-forks windows window-tests (code_of j good) j.allowance n (state_of l) ws u paid-here r d a c (child_of l.window c) (rest_of l.window c)
        (met-here (Forks r d a c) e) (parts r d a c k.told.facts.0) h)
        (λ h. serial-forks-deep windows window-tests (code_of j good) j.allowance n (state_of l) ws u paid-here r d a c (child_of l.window c) (rest_of l.window c)
        (met-here (Forks r d a c) e) (parts r d a c k.told.facts.0) h) (dec_lt n 31)
    by-effect Joins e k g' = goes (advanced j (joined l)) m _ ws g' all (join_is j good l g) refl
        (serial-joins windows window-tests (code_of j good) j.allowance n (state_of l) ws u paid-here (met-here Joins e))
    by-effect Suspends e k g' = goes (advanced j l) m _ ws g' all (onward-is j good l g) refl
        (serial-suspends windows window-tests (code_of j good) j.allowance n (state_of l) ws u paid-here (met-here Suspends e))
    by-effect Yields e k g' = goes (advanced j l) m _ ws g' all (onward-is j good l g) refl
        (serial-yields windows window-tests (code_of j good) j.allowance n (state_of l) ws u paid-here (met-here Yields e))
    by-effect (Returns v) e k g' = record {
      same = sym (serial-returns windows window-tests (code_of j good) j.allowance n (state_of l) ws u paid-here v (met-here (Returns v) e)
          ∙ ap (t-done v ws) charged);
      size = all;
    }
    by-effect (Shares x) e k g' = goes (advanced j (shared x l)) m _ ws g' all (share-is j good l g x) refl
        (serial-shares windows window-tests (code_of j good) j.allowance n (state_of l) ws u paid-here x (sharing_of l.window x) (met-here (Shares x) e)
        (ap shared_of (share-made l.window x k.told.facts.0.low k.told.facts.0.high)))

  by-test : (f : ℕ) → Agree f → (n : ℕ) (l : Routine) (m : List ℕ) (u : ℕ) → GoodRoutine j l → length m ≡ 992 → j.allowance < u + suc f → (b : Bool)
      → ltb (j.allowance - u) (weight_at j l) ≡ b
      → Same (cond b (stopped 22 m u) (carried j (call_from j) (suc n) l m u (next_effect j l))) (theory n (state_of l) (words-from 32 m) u)
  by-test f ih n l m u g all left true t = short n l m u g all (omega (arith, ltb-true (j.allowance - u) (weight_at j l) t))
  by-test f ih n l m u g all left false t =
      by-effect f ih n l m u g all left (omega (arith, ltb-false (j.allowance - u) (weight_at j l) t, weighs j good l g)) (next_effect j l) refl
      (met j good l g) (next-met j good l g)

  agree : (f : ℕ) → Agree f
  unfolding Agree
  agree zero n l m u g all left =
      let w = weighs j good l g in
      let h = lt-ltb (j.allowance - u) (weight_at j l) (omega arith) in
      subst (λ x. Same x (theory n (state_of l) (words-from 32 m) u))
      (sym (unrolled j good (suc n) l m u g ∙ ap (λ b. cond b (stopped 22 m u) (carried j (call_from j) (suc n) l m u (next_effect j l))) h))
      (short n l m u g all (omega arith))
  agree (suc f) n l m u g all left =
      subst (λ x. Same x (theory n (state_of l) (words-from 32 m) u)) (sym (unrolled j good (suc n) l m u g))
      (by-test f (λ n l m u g all left. agree f n l m u g all left) n l m u g all left (ltb (j.allowance - u) (weight_at j l)) refl)

-- the serial run is the theory's
pub record IsTheory (j : Job) (good : GoodJob j) (arguments memory : List ℕ) : Type 0 where
  pub same : as_outcome (serial_from j arguments memory) ≡ serial_run j good arguments memory
  pub size : length (memory_of (serial_from j arguments memory)) ≡ 992

module _ (j : Job) (good : GoodJob j) (arguments memory : List ℕ) (few : length arguments ≡ arguments_of j.image 0) (all : length memory ≡ 992) where
  some-routine : 0 < get_or j.image 0 0
  some-routine = let a = accepted j.image good.image in omega (arith, a.some)

  arguments-few : length arguments ≤ 16
  arguments-few =
      let a = accepted j.image good.image in
      omega (arith, few, arguments-most j.image a 0 some-routine, slots-most j.image a 0 some-routine)

  -- begun n levels down, so that n levels fewer are left before a fork meets 26
  root-same : (n : ℕ)
      → Same (call_from j (suc n) (started_on 0 arguments root_window) memory 0)
      (theory j good n (state_of (started_on 0 arguments root_window)) (words-from 32 memory) 0)
  unfolding Agree
  root-same n = agree j good (suc j.allowance) n (started_on 0 arguments root_window) memory 0
      (fresh j good 0 arguments root_window some-routine root-fits) all (omega arith)

  root-state : (n : ℕ)
      → theory j good n (state_of (started_on 0 arguments root_window)) (words-from 32 memory) 0
      ≡ theory j good n (theory_job j good arguments memory).root-thread (words-from 32 memory) 0
  root-state n = λ ι. theory j good n (record {
    routine = 0;
    position = 0;
    slots = first-listed arguments arguments-few ι;
    pending = none-pending ι;
    window = root_window;
  }) (words-from 32 memory) 0

  pub is-theory-below : (n : ℕ)
      → as_outcome (call_from j (suc n) (started_on 0 arguments root_window) memory 0)
      ≡ theory j good n (theory_job j good arguments memory).root-thread (words-from 32 memory) 0
  is-theory-below n = (root-same n).same ∙ root-state n

  pub is-theory : IsTheory j good arguments memory
  unfolding serial_from
  is-theory = record { same = is-theory-below 0; size = (root-same 0).size }
