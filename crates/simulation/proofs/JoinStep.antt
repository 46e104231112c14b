-- A join that passes, as a step of the pool: no thread is a child of the one that joins, for its count of children is 0. Assumes a sound
-- state and a thread in use.
use mathlib.Core.Bool.{Bool, true, false, cond}
use mathlib.Core.List.{List}
use mathlib.Core.Path.{◌≡◌, refl, sym, ◌∙◌, ap, subst}
use Prim.Native.Nat.{ℕ, zero, suc, ◌<◌}
use native.Mathlib.Decide.{ℕ_discrete}
use native.Mathlib.Omega.{arith}
use borrow.Author.Tests.{ltb-false, eq-eqb, ne_eqb}
use Rattle.window.specs.declared.Window.{Window}
use Rattle.window.specs.Rights.{rejoined}
use Rattle.window.proofs.Instance.{windows}
use Rattle.forkjoin.proofs.ThreadPool.{Link, root, child, used}
use Rattle.forkjoin.proofs.Arrays.{words-from}
use Rattle.thread.specs.declared.Effect.TheVariants.{Joins}
use Rattle.thread.specs.declared.Thread.{Thread}
use Rattle.thread.specs.declared.Status.{Status}
use Rattle.thread.specs.declared.Status.TheVariants.{Free, Running, Ready, Suspended, Waiting, Lent}
use Rattle.thread.specs.Thread.{status_number, is_root, joined_at}
use Rattle.thread.proofs.ThreadState.{ThreadState, behind-join}
use Rattle.thread.proofs.MarkedWindows.{window-tests}
use Rattle.thread.proofs.ThreadSteps.{ThreadStep, joins-step}
use Rattle.rules.specs.State.{Job, State, thread_at}
use Rattle.rules.specs.Turn.{turn_at, byte_of, effect_at, waits, completed}
use Rattle.rules.specs.Sound.{GoodJob, Sound, Used, status_at, is_child, children_among}
use Rattle.soundness.proofs.Tested.{join-tested}
use Rattle.simulation.proofs.JobCode.{code_of}
use Rattle.simulation.proofs.PendingSlots.{none-pending}
use Rattle.simulation.proofs.StatePool.{thread_of, link_of, cell_in, cell_of, pool_of, InUse, cell-used, used-below}
use Rattle.simulation.proofs.OwnSteps.{here, StepsTo, cell-here, units-here, position_here, effect-met, own-cells}

-- a join that does not wait has no children left
no-child-left : (j : Job) (s : State) (t : ℕ) → effect_at j s (thread_at s t) ≡ Joins → waits j (thread_at s t) ≡ false → (thread_at s t).family.children ≡ 0
no-child-left j s t met w =
    let l = ltb-false 0 (thread_at s t).family.children (rw (eq-eqb (byte_of j (thread_at s t)) 10 (join-tested j s t met)) at w) in
    omega arith

-- a count of 0 leaves no child
childless : (s : State) (t n : ℕ) → children_among s t n ≡ 0 → (b : ℕ) → b < n → Used s b → (thread_at s b).origin.parent ≡ t → ⊥
unfolding children_among
childless s t zero e b l u p = omega arith
childless s t (suc n) e b l u p = go (ℕ_discrete b n) (λ k. childless s t n (omega arith) b k u p)
  where
    one : is_child s t b ≡ 1
    one = rw (ne_eqb (status_at s b) 0 (λ z. omega arith), eq-eqb (thread_at s b).origin.parent t p)

    go : Dec (b ≡ n) → (b < n → ⊥) → ⊥
    go (yes x) rec = let y = ap (is_child s t) x in let z = one in omega arith
    go (no x) rec = rec (omega arith)

-- what a cell that is a child says of the record
cell-in-link : (x : Status) (l q : ThreadState Window) (k k' : Link) → cell_in x l k ≡ used q k' → (0 < status_number x) × (k ≡ k')
cell-in-link Free l q k k' e = let z : ◌≡◌ {A = ℕ} 0 1 = cc in absurd (omega arith)
cell-in-link Running l q k k' e = (omega arith, cc)
cell-in-link Ready l q k k' e = (omega arith, cc)
cell-in-link Suspended l q k k' e = (omega arith, cc)
cell-in-link Waiting l q k k' e = (omega arith, cc)
cell-in-link Lent l q k k' e = (omega arith, cc)

link-parent : (b : Bool) (a r p d : ℕ) → cond b root (child a r) ≡ child p d → a ≡ p
link-parent true a r p d e = let z : ◌≡◌ {A = ℕ} 0 1 = cc in absurd (omega arith)
link-parent false a r p d e = cc

pub cell-child : (j : Job) (ws : List ℕ) (h : Thread) (q : ThreadState Window) (p d : ℕ) → cell_of j ws h ≡ used q (child p d)
    → InUse h × (h.origin.parent ≡ p)
cell-child j ws h q p d e =
    let a = cell-in-link h.status (thread_of j ws h) q (link_of h) (child p d) e in
    (a.0, link-parent (is_root h) h.origin.parent h.origin.result p d a.1)

module _ (j : Job) (good : GoodJob j) (s : State) (ok : Sound j s) (c t : ℕ) (in_use : Used s t) where
  abbrev h : Thread
  h = thread_at s t

  no-children : waits j h ≡ false → effect_at j s h ≡ Joins → (b : ℕ) (q : ThreadState Window) (d : ℕ) → (pool_of j s).cell b ≡ used q (child t d) → ⊥
  no-children w met b q d e =
      let (u, p) = cell-child j s.store.words (thread_at s b) q t d e in
      let l = used-below s.threads b u in
      let many = ok.sized.threads in
      childless s t 32 (sym (ok.tree.counted t in_use) ∙ no-child-left j s t met w) b (omega arith) u p

  join-cell : cell_of j s.store.words (joined_at (turn_at j s c t).next h)
      ≡ used (behind-join windows (code_of j good) (here j good s ok c t in_use) (here j good s ok c t in_use).slots) (link_of h)
  join-cell = cell-used j s.store.words (joined_at (turn_at j s c t).next h) in_use
      ∙ (λ ι. used (record {
        routine = h.origin.routine;
        position = sym (position_here j good s ok c t in_use) ι;
        slots = (here j good s ok c t in_use).slots;
        pending = none-pending ι;
        window = rejoined h.family.window;
      }) (link_of h))

  -- 0A
  pub joins-goes : waits j h ≡ false → effect_at j s h ≡ Joins
      → StepsTo j good s ok c t in_use (completed (turn_at j s c t) (joined_at (turn_at j s c t).next h) s)
  joins-goes w met = subst (ThreadStep windows window-tests (code_of j good) t (pool_of j s)) (λ ι. record {
    cell = own-cells j good s ok c t in_use s.store.words (joined_at (turn_at j s c t).next h)
        (behind-join windows (code_of j good) (here j good s ok c t in_use) (here j good s ok c t in_use).slots) (λ u n k. refl) join-cell ι;
    words = words-from 32 s.store.memory;
    units = units-here j good s ok c t in_use ι;
  }) (joins-step windows window-tests (code_of j good) (pool_of j s) t (here j good s ok c t in_use) (link_of h) (cell-here j good s ok c t in_use)
      (effect-met j good s ok c t in_use Joins met) (no-children w met))
