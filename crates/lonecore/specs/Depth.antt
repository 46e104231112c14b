-- T-12: a plain run that "goes at most 16 routines deep". How deep it goes is told clause by clause beside the plain run itself
-- (`carried` and `call_within` of crate `serial`), with the same calls, routines, memory and units, "the root being 1": a routine is as deep as
-- its number n says, and a fork goes as deep as its child does and as the routine does behind it. `depth-exact` (proofs) is a second witness: a
-- plain run that finishes does so with k levels fewer exactly where this number is at most 32 - k.
use Rattle.std.specs.Prelude.{cond, List, ℕ, zero, suc, ◌+◌, ◌-◌, max, ltb, leb, set}
use Rattle.window.specs.Rights.{root_window, child_of}
use Rattle.thread.specs.declared.Effect.{Effect}
use Rattle.thread.specs.declared.Effect.TheVariants.{Faults, Sets, Loads, Stores, Goes, Continues, Lforks, Forks, Joins, Suspends, Yields, Returns, Shares}
use Rattle.thread.specs.Effect.{Asked, asked}
use Rattle.thread.specs.Job.{Job, word_at}
use Rattle.serial.specs.declared.Routine.{Routine}
use Rattle.serial.specs.Serial.{Ended, done, stopped, Call, jumped_to, weight_at, advanced, assigned, joined, shared, forked, started_on, arguments_from, next_effect, call_within}
use Rattle.demands.specs.Input.{Input, job_in}

-- how deep a run goes from an open routine, n deep, with memory m and units u
abbrev pub Depth : Type 0
Depth = ℕ → Routine → List ℕ → ℕ → ℕ

-- behind a child that has returned; where it has not, the run ends n deep
abbrev pub behind_child : ℕ → Ended → (ℕ → List ℕ → ℕ → ℕ) → ℕ
behind_child n (done v m u) f = f v m u
behind_child n (stopped x m u) f = n

module _ (j : Job) (call : Call) (depth : Depth) where
  -- beside `fork_called`; "A fork from 32 deep, the root being 1, meets 26", and has no child
  abbrev pub fork_depth : ℕ → Routine → Asked → List ℕ → ℕ → ℕ
  fork_depth n l f m u =
      cond (leb 32 n) n
      (max
      (depth (suc n) (started_on f.routine (arguments_from j l f.routine f.first) (child_of l.window f.cut)) m (u + weight_at j l))
      (behind_child n
      (call (suc n) (started_on f.routine (arguments_from j l f.routine f.first) (child_of l.window f.cut)) m (u + weight_at j l))
      (λ v m' u'. depth n (assigned f.result v (advanced j (forked f.result f.cut l))) m' u')))

  -- beside `carried`
  unfoldable pub carried_depth : ℕ → Routine → List ℕ → ℕ → Effect → ℕ
  carried_depth n l m u (Faults x) = n
  carried_depth n l m u (Sets d v) = depth n (advanced j (assigned d v l)) m (u + weight_at j l)
  carried_depth n l m u (Loads d a) = depth n (advanced j (assigned d (word_at j m a) l)) m (u + weight_at j l)
  carried_depth n l m u (Stores a v) = depth n (advanced j l) (set m (a - 32) v) (u + weight_at j l)
  carried_depth n l m u (Goes p) = depth n (jumped_to p l) m (u + weight_at j l)
  carried_depth n l m u Continues = depth n (advanced j l) m (u + weight_at j l)
  carried_depth n l m u (Lforks r d a e) = fork_depth n l (asked r d a e) m u
  carried_depth n l m u (Forks r d a e) = fork_depth n l (asked r d a e) m u
  carried_depth n l m u Joins = depth n (advanced j (joined l)) m (u + weight_at j l)
  carried_depth n l m u Suspends = depth n (advanced j l) m (u + weight_at j l)
  carried_depth n l m u Yields = depth n (advanced j l) m (u + weight_at j l)
  carried_depth n l m u (Returns v) = n
  carried_depth n l m u (Shares x) = depth n (advanced j (shared x l)) m (u + weight_at j l)

-- beside `call_within`: a command that passes the allowance is not carried out
unfoldable pub depth_within : Job → ℕ → Depth
depth_within j zero n l m u = n
depth_within j (suc left) n l m u =
    let next = carried_depth j (λ n l m u. call_within j left n l m u) (λ n l m u. depth_within j left n l m u) n l m u (next_effect j l) in
    cond (ltb (j.allowance - u) (weight_at j l)) n next

-- how many routines deep the plain run goes; asked of an input that a run takes only
abbrev pub depth_in : Input → ℕ
depth_in i = depth_within (job_in i) (suc i.allowance) 1 (started_on 0 i.arguments root_window) i.memory 0
