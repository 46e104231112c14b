-- The rules: what each entry of a schedule does to the machine. Document 01, "Step rules" and "Schedule"; the tests stand in its
-- order: 19, 14, 15, 16 to 18, 22, 12, 9, 10 or 11, 20, 21; T-04's 31 stands with 10 and 11.
use Rattle.std.specs.Prelude.{Bool, cond, ◌&&◌, ◌||◌, not, List, [], ◌∷◌, ℕ, ltb, leb, eqb}
use Rattle.schedule.specs.declared.Entry.{Entry}
use Rattle.schedule.specs.declared.Entry.TheVariants.{Step, Take, Steal, Enable}
use Rattle.thread.specs.declared.Effect.{Effect}
use Rattle.thread.specs.Effect.{number_of_fault}
use Rattle.thread.specs.declared.Effect.TheVariants.{Faults, Sets, Loads, Stores, Goes, Continues, Lforks, Forks, Joins, Suspends, Yields, Returns, Shares}
use Rattle.thread.specs.declared.Status.TheVariants.{Ready, Suspended, Waiting, Lent}
use Rattle.thread.specs.Thread.{with_status, moved_to, joined_at, shared_at, ◌is◌}
use Rattle.thread.specs.Job.{word_at}
use Rattle.rules.specs.declared.ForkKind.TheVariants.{Called, Queued, Stolen}
use Rattle.rules.specs.State.{Job, State, After, is_over, thread_at, on_core, is_busy}
use Rattle.rules.specs.Update.{accepted, refused, set_thread, set_ready, set_slot, set_memory, enqueue_ready}
use Rattle.rules.specs.Turn.{Turn, turn_at, byte_of, effect_at, too_dear, waits, completed, goes_on, faults}
use Rattle.rules.specs.Leave.{runs, leaves}
use Rattle.rules.specs.Fork.{asked, fork_of}
use Rattle.rules.specs.Return.{return_of}

-- A command carried out by a step, by its effect.
-- "suspend, yield: the command is done, then the thread is suspended, or stands at the tail of the ready line"
unfoldable pub carried_of : Job → State → Turn → Effect → After
carried_of j s o (Faults f) = faults o (number_of_fault f) s
carried_of j s o (Sets d v) = accepted (goes_on o (set_slot o.thread d v s))
carried_of j s o (Loads d a) = accepted (goes_on o (set_slot o.thread d (word_at j s.store.memory a) s))
carried_of j s o (Stores a v) = accepted (goes_on o (set_memory a v s))
carried_of j s o (Goes p) = accepted (completed o (moved_to p o.thread) s)
carried_of j s o Continues = accepted (goes_on o s)
carried_of j s o (Lforks r d a e) = fork_of j s Called o (asked r d a e)
carried_of j s o (Forks r d a e) = fork_of j s Queued o (asked r d a e)
carried_of j s o Joins = accepted (completed o (joined_at o.next o.thread) s)
carried_of j s o Suspends = accepted (leaves o.core o.number Suspended (goes_on o s))
carried_of j s o Yields = accepted (enqueue_ready o.number (leaves o.core o.number Ready (goes_on o s)))
carried_of j s o (Returns v) = accepted (return_of j s o v)
carried_of j s o (Shares x) = accepted (completed o (shared_at o.next x o.thread) s)

-- the next command of thread t, on core c: "Otherwise the thread waits, nothing is charged, and the join is met again later"
unfoldable pub turn_of : Job → State → ℕ → ℕ → After
turn_of j s c t =
    cond (waits j (thread_at s t)) (accepted (leaves c t Waiting s))
    (cond (too_dear j s (turn_at j s c t)) (refused 22 s)
    (carried_of j s (turn_at j s c t) (effect_at j s (thread_at s t))))

-- "01 c step"
unfoldable pub step_of : Job → State → ℕ → After
step_of j s c =
    cond (is_over s.outcome) (refused 19 s)
    (cond (leb s.count c) (refused 14 s)
    (cond (not (is_busy s c)) (refused 15 s)
    (turn_of j s c (on_core s c))))

-- the ready queue's head runs on core c; "16 line empty"
unfoldable pub take_into : State → ℕ → List ℕ → After
take_into s c [] = refused 16 s
take_into s c (t ∷ ts) = accepted (runs c t (set_ready ts s))

-- "02 c take the ready line's head"
unfoldable pub take_of : State → ℕ → After
take_of s c =
    cond (is_over s.outcome) (refused 19 s)
    (cond (leb s.count c) (refused 14 s)
    (cond (is_busy s c) (refused 15 s)
    (take_into s c s.queues.ready)))

-- is thread t's next command a seed: is it lent, "its next command .. 08 or 09"?
unfoldable pub is_seed : Job → State → ℕ → Bool
is_seed j s t = ltb t 32 && ((thread_at s t).status is Lent && (eqb (byte_of j (thread_at s t)) 8 || eqb (byte_of j (thread_at s t)) 9))

-- a seed carried out for core c; a command that is no fork is no seed
unfoldable pub stolen_of : Job → State → Turn → Effect → After
stolen_of j s o (Faults f) = faults o (number_of_fault f) s
stolen_of j s o (Sets d v) = refused 18 s
stolen_of j s o (Loads d a) = refused 18 s
stolen_of j s o (Stores a v) = refused 18 s
stolen_of j s o (Goes p) = refused 18 s
stolen_of j s o Continues = refused 18 s
stolen_of j s o (Lforks r d a e) = fork_of j s Stolen o (asked r d a e)
stolen_of j s o (Forks r d a e) = fork_of j s Stolen o (asked r d a e)
stolen_of j s o Joins = refused 18 s
stolen_of j s o Suspends = refused 18 s
stolen_of j s o Yields = refused 18 s
stolen_of j s o (Returns v) = refused 18 s
stolen_of j s o (Shares x) = refused 18 s

-- "03 c t steal: carry out thread t's next command, an 08 or 09, as a seed"
unfoldable pub steal_of : Job → State → ℕ → ℕ → After
steal_of j s c t =
    cond (is_over s.outcome) (refused 19 s)
    (cond (leb s.count c) (refused 14 s)
    (cond (is_busy s c) (refused 15 s)
    (cond (not (is_seed j s t)) (refused 18 s)
    (cond (too_dear j s (turn_at j s c t)) (refused 22 s)
    (stolen_of j s (turn_at j s c t) (effect_at j s (thread_at s t)))))))

-- "04 t enable: suspended t joins the ready line"; "17 thread not suspended or above 31"
unfoldable pub enable_of : State → ℕ → After
enable_of s t =
    cond (is_over s.outcome) (refused 19 s)
    (cond (not (ltb t 32 && (thread_at s t).status is Suspended)) (refused 17 s)
    (accepted (enqueue_ready t (set_thread t (with_status Ready (thread_at s t)) s))))

-- any entry
unfoldable pub entry_of : Job → State → Entry → After
entry_of j s (Step c) = step_of j s c
entry_of j s (Take c) = take_of s c
entry_of j s (Steal c t) = steal_of j s c t
entry_of j s (Enable t) = enable_of s t
