-- A state of the machine followed on the tree of its job, begun k levels down: where some run of that tree finishes, no thread of the state
-- faults, the next command of each is paid for (`paid`), none is 32 - k deep or deeper (`deep-most`), one that forks is less deep than that
-- (`fork-deep`), and an accepted entry leads on or to the end (`leads`). Assumes that the state is sound and followed.
use mathlib.Core.Bool.{cond}
use mathlib.Core.List.{List}
use mathlib.Core.Logic.{⊎_elim}
use mathlib.Core.Path.{◌≡◌, sym, ◌∙◌, ap, subst}
use Prim.Native.Nat.{ℕ, suc, ◌+◌, ◌-◌, ◌≤◌, ◌<◌}
use native.Mathlib.Decide.{dec_lt}
use native.Mathlib.Omega.{arith}
use borrow.Author.Tests.{lt-leb, le-leb}
use lib.ListN.{length}
use Rattle.forkjoin.proofs.ThreadPool.{Link, root, child, used}
use Rattle.forkjoin.proofs.Arrays.{words-from}
use Rattle.forkjoin.proofs.Language.{Act, fork, halt, ret}
use Rattle.forkjoin.proofs.ScheduleIndependence.{Job as TheoryJob}
use Rattle.forkjoin.proofs.Deeper.{deeper-job, deeper-step, does-other, does-below, does-beyond}
use Rattle.forkjoin.proofs.Follow.{Follows, Ends, no-halt, shallow, deep-most, follow, steps-most, paid_for, last_step}
use Rattle.schedule.specs.declared.Entry.{Entry}
use Rattle.window.specs.declared.Window.{Window}
use Rattle.window.proofs.Instance.{windows}
use Rattle.thread.specs.declared.Fault.{Fault}
use Rattle.thread.specs.Effect.{number_of_fault}
use Rattle.thread.specs.declared.Effect.TheVariants.{Faults, Lforks}
use Rattle.thread.specs.Thread.{none}
use Rattle.thread.proofs.ThreadState.{ThreadState, started, behind-fork, by-return, split, act_of, effect}
use Rattle.thread.proofs.CarriedThreads.{does}
use Rattle.thread.proofs.MarkedWindows.{window-tests}
use Rattle.thread.proofs.ThreadSteps.{does-effect, does-fault, lforks-parts}
use Rattle.rules.specs.State.{Job, State, After, going, finished, thread_at}
use Rattle.rules.specs.Turn.{turn_at, effect_at}
use Rattle.rules.specs.Rules.{entry_of}
use Rattle.rules.specs.Sound.{GoodJob, Sound, Used, parent_at}
use Rattle.soundness.proofs.Changes.{used_low}
use Rattle.simulation.proofs.JobCode.{code_of}
use Rattle.simulation.proofs.StatePool.{link_of, pool_of}
use Rattle.simulation.proofs.OwnSteps.{here, cell-here, units-here, effect-met}
use Rattle.simulation.proofs.EntryMoves.{Accepted, resting, stepping, finishing, accepted-moves, entry-moves}
use Rattle.simulation.proofs.EntriesRun.{theory_job}
use Rattle.lonecore.proofs.Depths.{Depths}

-- a halt is no fork, nor is a return
halt-no-fork : {A : Type 0} (a : Act A) (x : ℕ) → a ≡ halt x → (d : ℕ) (c q : A) → a ≡ fork d c q → ⊥
halt-no-fork a x h d c q e = let y : ◌≡◌ {A = ℕ} 0 1 = cc in omega arith

return-no-fork : {A : Type 0} (a : Act A) (v : ℕ) → a ≡ ret v → (d : ℕ) (c q : A) → a ≡ fork d c q → ⊥
return-no-fork a v h d c q e = let y : ◌≡◌ {A = ℕ} 0 1 = cc in omega arith

module _ (j : Job) (good : GoodJob j) (arguments memory : List ℕ) (k : ℕ) (low : k ≤ 31) where
  -- the job to the theory, begun k levels down
  abbrev pub deep_job : TheoryJob
  deep_job = deeper-job k (theory_job j good arguments memory) low

  -- a state after n commands
  abbrev pub Followed : ℕ → State → Type 0
  Followed n s = Follows deep_job (words-from 32 memory) n (pool_of j s)

  -- a run of the tree that finishes
  abbrev pub Ending : Type 0
  Ending = Ends deep_job (words-from 32 memory)

  -- an lfork's act is a fork
  does-lfork : (l : ThreadState Window) (r d a e : ℕ) → effect windows window-tests (code_of j good) l ≡ Lforks r d a e
      → (c : ThreadState Window) × (q : ThreadState Window) × (does windows window-tests (code_of j good) 0 l ≡ fork d c q)
  unfolding act_of
  does-lfork l r d a e h =
      let (c, w, z) = lforks-parts windows window-tests (code_of j good) l r d a e h in (
        started (code_of j good) r l.slots a c,
        behind-fork (code_of j good) l l.slots d w,
        does-effect windows window-tests (code_of j good) 0 l (Lforks r d a e) h
            ∙ ap (λ x. split windows (code_of j good) (by-return windows (code_of j good)) 0 l r d a x) z,
      )

  module _ (s : State) (ok : Sound j s) (n : ℕ) (f : Followed n s) where
    -- how deep a thread is
    abbrev pub depth : ℕ → ℕ
    depth u = length (f.name u)

    pub cell-of : (u : ℕ) (h : Used s u) → (pool_of j s).cell u ≡ used (here j good s ok 0 u h) (link_of (thread_at s u))
    cell-of u h = cell-here j good s ok 0 u h

    pub depths : Depths s (λ u. length (f.name u))
    depths = record { root = at-root; child = below }
      where
        at-root : Used s 0 → length (f.name 0) ≡ 0
        at-root h = ap length (f.represents.root-name 0 (here j good s ok 0 0 h) (cell-of 0 h ∙ ap (used (here j good s ok 0 0 h)) is-root))
          where
            no-parent : parent_at s 0 ≡ none
            no-parent = ⊎_elim (λ a. a.1) (λ a. absurd (a.0 (omega arith))) (ok.tree.tree 0 h)

            is-root : link_of (thread_at s 0) ≡ root
            is-root = ap (λ b. cond b root (child (parent_at s 0) (thread_at s 0).origin.result)) (le-leb none (parent_at s 0) (let z = no-parent in omega arith))

        below : (u : ℕ) → Used s u → ¬ (u ≡ 0) → length (f.name u) ≡ suc (length (f.name (parent_at s u)))
        below u h n = ap length (f.represents.child-name u (here j good s ok 0 u h) (parent_at s u) (thread_at s u).origin.result
            (cell-of u h ∙ ap (used (here j good s ok 0 u h)) is-child)).3
          where
            parent_in : Used s (parent_at s u)
            parent_in = ⊎_elim (λ a. absurd (n a.0)) (λ a. a.1) (ok.tree.tree u h)

            is-child : link_of (thread_at s u) ≡ child (parent_at s u) (thread_at s u).origin.result
            is-child = ap (λ b. cond b root (child (parent_at s u) (thread_at s u).origin.result))
                (lt-leb none (parent_at s u) (used_low s ok.sized.threads (parent_at s u) parent_in))

    module _ (E : Ending) where
      pub no-fault : (t : ℕ) → Used s t → (x : Fault) → effect_at j s (thread_at s t) ≡ Faults x → ⊥
      no-fault t h x q =
          no-halt deep_job (words-from 32 memory) E n (pool_of j s) f t (number_of_fault x) (here j good s ok 0 t h) (link_of (thread_at s t)) (cell-of t h)
          (does-other k (theory_job j good arguments memory) low (here j good s ok 0 t h) (halt-no-fork _ (number_of_fault x) halts) ∙ halts)
        where
          halts : does windows window-tests (code_of j good) 0 (here j good s ok 0 t h) ≡ halt (number_of_fault x)
          halts = does-fault windows window-tests (code_of j good) (here j good s ok 0 t h) x (effect-met j good s ok 0 t h (Faults x) q)

      -- a thread that forks is not at the limit: there it would halt
      forks-below : (t : ℕ) (r c p : ThreadState Window) (l : Link) (d : ℕ) → (pool_of j s).cell t ≡ used r l
          → does windows window-tests (code_of j good) 0 r ≡ fork d c p → k < 31
      forks-below t r c p l d ct e = by (dec_lt k 31)
        where
          by : Dec (k < 31) → k < 31
          by (yes z) = z
          by (no z) =
              let (x, y) = does-beyond k (theory_job j good arguments memory) low (omega arith) r c p d e in
              absurd (no-halt deep_job (words-from 32 memory) E n (pool_of j s) f t x r l ct y)

      pub within : (t : ℕ) → Used s t → depth t < 32 - k
      within t h =
          let z = deep-most deep_job (words-from 32 memory) E n (pool_of j s) f t (here j good s ok 0 t h) (link_of (thread_at s t)) (cell-of t h) in
          omega arith

      -- the child of a thread that forks is not that deep either
      pub fork-deep : (t : ℕ) → Used s t → (r d a e : ℕ) → effect_at j s (thread_at s t) ≡ Lforks r d a e → suc (depth t) < 32 - k
      fork-deep t h r d a e q =
          let (c, p, z) = does-lfork (here j good s ok 0 t h) r d a e (effect-met j good s ok 0 t h (Lforks r d a e) q) in
          let below = forks-below t (here j good s ok 0 t h) c p (link_of (thread_at s t)) d (cell-of t h) z in
          let y = shallow deep_job (words-from 32 memory) E n (pool_of j s) f t d (here j good s ok 0 t h) c p (link_of (thread_at s t)) (cell-of t h)
          (does-below k (theory_job j good arguments memory) low below (here j good s ok 0 t h) ∙ z) in
          omega arith

      pub paid : (c t : ℕ) → Used s t → s.units + (turn_at j s c t).weight ≤ E.end.units
      paid c t h =
          let z = paid_for deep_job (words-from 32 memory) E n (pool_of j s) f t (here j good s ok 0 t h) (link_of (thread_at s t)) (cell-of t h) in
          let y = units-here j good s ok c t h in
          omega arith

      -- no more commands than the run that ends has
      pub commands-most : n ≤ E.count
      commands-most = steps-most deep_job (words-from 32 memory) E n (pool_of j s) f

      -- what an accepted entry leads to: the machine goes on, no command or one further, or it has finished with the last command
      pub data Next (a : After) : Type 0 where
        rests : a.state.outcome ≡ going → a.state.units ≡ s.units → Followed n a.state → Next a
        goes_on : a.state.outcome ≡ going → Followed (suc n) a.state → Next a
        has_ended : (v : ℕ) → a.state.outcome ≡ finished v → suc n ≡ E.count → Next a

      pub leads : (e : Entry) → (entry_of j s e).log ≡ 0 → Next (entry_of j s e)
      leads e z = by (entry_of j s e) (accepted-moves j good s (entry_of j s e) (entry-moves j good s ok e) z)
        where
          by : (a : After) → Accepted j good s a → Next a
          by a (resting m) = rests m.ongoing (ap (λ N. N.units) m.pool) (subst (Follows deep_job (words-from 32 memory) n) (sym m.pool) f)
          by a (stepping m) = goes_on m.ongoing (follow deep_job (words-from 32 memory) E n m.thread (pool_of j s) (pool_of j a.state) f
              (deeper-step k (theory_job j good arguments memory) low m.thread (pool_of j s) (pool_of j a.state)
              (λ r c q l d ct e. forks-below m.thread r c q l d ct e) m.step))
          by a (finishing m) = has_ended m.result m.over
              (last_step deep_job (words-from 32 memory) E n (pool_of j s) f m.thread m.result m.last m.is-root
              (does-other k (theory_job j good arguments memory) low m.last (return-no-fork _ m.result m.returns) ∙ m.returns)).0
