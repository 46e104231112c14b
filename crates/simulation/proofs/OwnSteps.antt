-- Commands that change their own thread only, as steps of the pool: 01 to 07, a passed join, and suspend and yield as far as they go on.
-- Assumes a sound state and a thread in use.
use mathlib.Core.List.{List}
use mathlib.Core.Logic.{◌⊎◌, ⊎_elim, ite}
use mathlib.Core.Option.{some}
use mathlib.Core.Path.{◌≡◌, refl, sym, ◌∙◌, ap, subst}
use Prim.Native.Nat.{ℕ, ◌+◌, ◌-◌, ◌/◌, ◌<◌, ◌≤◌}
use native.Mathlib.Decide.{dec_lt, dec_le}
use native.Mathlib.Omega.{arith}
use lib.ListN.{get_or, set, length}
use borrow.Author.Tests.{lt-ltb, le-ltb}
use Rattle.image.specs.Layout.{arguments_of}
use Rattle.window.specs.declared.Window.{Window}
use Rattle.window.specs.Rights.{sharing_of, share_at}
use Rattle.window.proofs.Laws.{store-in-memory, share-made}
use Rattle.window.proofs.Instance.{windows, shared_of}
use Rattle.forkjoin.proofs.Update.{update}
use Rattle.forkjoin.proofs.ThreadPool.{used}
use Rattle.forkjoin.proofs.Arrays.{words-from, words-set, frame, frame-own, frame-other}
use Rattle.thread.specs.declared.Effect.{Effect}
use Rattle.thread.specs.declared.Effect.TheVariants.{Sets, Loads, Stores, Goes, Continues, Suspends, Yields, Shares}
use Rattle.thread.specs.declared.Thread.{Thread}
use Rattle.thread.specs.Thread.{is_pending, moved_to, shared_at}
use Rattle.thread.proofs.EffectFacts.{Facts}
use Rattle.thread.proofs.ThreadState.{ThreadState, effect, view, onward, at_target, behind-share}
use Rattle.thread.proofs.LawfulThreads.{effect-facts}
use Rattle.thread.proofs.MarkedWindows.{window-tests}
use Rattle.thread.proofs.ThreadSteps.{ThreadStep, moved, sets-step, goes_step, continues-step, suspends-step, yields-step, shares-step, loads-parameter-step, loads-step, stores-step}
use Rattle.thread.specs.Job.{word_at}
use Rattle.rules.specs.State.{Job, State, thread_at}
use Rattle.rules.specs.Update.{set_slot, set_memory}
use Rattle.rules.specs.Turn.{turn_at, effect_at, completed, goes_on}
use Rattle.rules.specs.Sound.{GoodJob, Sound, Used, size_at}
use Rattle.met.proofs.CommandMet.{share-inside}
use Rattle.soundness.proofs.CommandMet.{MetAt, met_at}
use Rattle.simulation.proofs.JobCode.{weight_in, code_of}
use Rattle.simulation.proofs.StatePool.{thread_of, link_of, cell_of, cells_of, pool_of, cell-used, used-below, cells-change}
use Rattle.simulation.proofs.NextCommand.{weight-here, next_here, effect-here}

-- a store into one frame leaves a frame apart from it
pub frame_apart : (ws : List ℕ) (b n d v b' n' : ℕ) → d < n → (b + n ≤ b') ⊎ (b' + n' ≤ b) → frame (set ws (b + d) v) b' n' ≡ frame ws b' n'
frame_apart ws b n d v b' n' h a = frame-other ws (b + d) v b' n' (λ k l e. ⊎_elim (λ x. omega arith) (λ x. omega arith) a)

-- a used thread's frame lies within the words
pub frame-within : (j : Job) (s : State) → Sound j s → (t : ℕ) → Used s t → (thread_at s t).origin.base + size_at j s t ≤ length s.store.words
frame-within j s ok t u =
    let a = ok.frames.under t u in
    let b = ok.frames.most ((thread_at s t).origin.base / 64) in
    let c = ok.frames.bounded t u in
    let d = ok.sized.words in
    omega arith

-- one thread goes on: the step, as a step between the two states' pools
module _ (j : Job) (good : GoodJob j) (s : State) (ok : Sound j s) (c t : ℕ) (in_use : Used s t) where
  abbrev h : Thread
  h = thread_at s t

  -- the thread to the theory
  abbrev pub here : ThreadState Window
  here = thread_of j s.store.words h

  -- a step of thread t
  abbrev pub StepsTo : State → Type 0
  StepsTo s' = ThreadStep windows window-tests (code_of j good) t (pool_of j s) (pool_of j s')

  pub cell-here : (pool_of j s).cell t ≡ used here (link_of h)
  cell-here = cell-used j s.store.words h in_use

  pub thread-below : t < length s.threads
  thread-below = used-below s.threads t in_use

  pub units-here : s.units + weight_in j h.origin.routine h.position ≡ s.units + (turn_at j s c t).weight
  units-here = ap (λ z. s.units + z) (weight-here j good s ok.placed t in_use)

  pub position_here : (code_of j good).next h.origin.routine h.position ≡ (turn_at j s c t).next
  position_here = next_here j good s ok.placed t in_use

  pub effect-met : (e : Effect) → effect_at j s h ≡ e → effect windows window-tests (code_of j good) here ≡ e
  effect-met e met = effect-here j good s ok.placed t in_use ∙ met

  pub effect-slots : (e : Effect) → effect_at j s h ≡ e → MetAt j s t e
  effect-slots e met = met_at j s good ok.placed t in_use e met

  pub effect-tested : (e : Effect) → effect_at j s h ≡ e → Facts (arguments_of j.image) (view windows window-tests here) e
  effect-tested e met = subst (Facts (arguments_of j.image) (view windows window-tests here)) (effect-met e met)
      (effect-facts windows window-tests (code_of j good) here)

  -- the pool in which thread t alone is another, by its record and words
  pub own-cells : (ws : List ℕ) (h' : Thread) (q : ThreadState Window)
      → ((u : ℕ) → ¬ (u ≡ t) → Used s u → frame ws (thread_at s u).origin.base (size_at j s u) ≡ frame s.store.words (thread_at s u).origin.base (size_at j s u))
      → cell_of j ws h' ≡ used q (link_of h)
      → update (pool_of j s).cell t (used q (link_of h)) ≡ cells_of j ws (set s.threads t h')
  own-cells ws h' q others own = sym (cells-change j s.store.words ws s.threads t h' thread-below others ∙ ap (update (pool_of j s).cell t) own)

  -- slot d becomes v
  slot-cell : (d v : ℕ) → d < size_at j s t
      → cell_of j (set s.store.words (h.origin.base + d) v) (moved_to (turn_at j s c t).next h)
      ≡ used (onward (code_of j good) here (update here.slots d v)) (link_of h)
  slot-cell d v l = cell-used j (set s.store.words (h.origin.base + d) v) (moved_to (turn_at j s c t).next h) in_use
      ∙ (λ ι. used (record {
        routine = h.origin.routine;
        position = sym position_here ι;
        slots = frame-own s.store.words h.origin.base (size_at j s t) d v l (frame-within j s ok t in_use) ι;
        pending = is_pending h.family.pending;
        window = h.family.window;
      }) (link_of h))

  slot_step : (d v : ℕ) → d < size_at j s t
      → ThreadStep windows window-tests (code_of j good) t (pool_of j s)
      (moved windows window-tests (code_of j good) (pool_of j s) t here (link_of h) cell-here (onward (code_of j good) here (update here.slots d v)))
      → StepsTo (goes_on (turn_at j s c t) (set_slot h d v s))
  slot_step d v l step = subst (ThreadStep windows window-tests (code_of j good) t (pool_of j s)) (λ ι. record {
    cell = own-cells (set s.store.words (h.origin.base + d) v) (moved_to (turn_at j s c t).next h) (onward (code_of j good) here (update here.slots d v))
        (λ u n k. frame_apart s.store.words h.origin.base (size_at j s t) d v (thread_at s u).origin.base (size_at j s u) l
        (ok.frames.apart t u in_use k (λ e. n (sym e)))) (slot-cell d v l) ι;
    words = words-from 32 s.store.memory;
    units = units-here ι;
  }) step

  -- 01, 02, 03
  pub sets-goes : (d v : ℕ) → effect_at j s h ≡ Sets d v → StepsTo (goes_on (turn_at j s c t) (set_slot h d v s))
  sets-goes d v met = slot_step d v (effect-slots (Sets d v) met).0
      (sets-step windows window-tests (code_of j good) (pool_of j s) t here (link_of h) cell-here d v (effect-met (Sets d v) met))

  -- 04
  pub loads-goes : (d a : ℕ) → effect_at j s h ≡ Loads d a → StepsTo (goes_on (turn_at j s c t) (set_slot h d (word_at j s.store.memory a) s))
  loads-goes d a met = go (dec_lt a 32)
    where
      word : (o : Dec (32 ≤ a)) → 32 ≤ a → ite o (get_or s.store.memory (a - 32) 0) 0 ≡ get_or s.store.memory (a - 32) 0
      word (yes _) l = refl
      word (no x) l = absurd (x l)

      go : Dec (a < 32) → StepsTo (goes_on (turn_at j s c t) (set_slot h d (word_at j s.store.memory a) s))
      go (yes l) = rw (lt-ltb a 32 l) (slot_step d (get_or j.parameters a 0) (effect-slots (Loads d a) met).0
          (loads-parameter-step windows window-tests (code_of j good) (pool_of j s) t here (link_of h) cell-here d a (effect-met (Loads d a) met) l))
      go (no l) = rw (le-ltb a 32 (omega arith)) (slot_step d (get_or s.store.memory (a - 32) 0) (effect-slots (Loads d a) met).0
          (subst (λ v. ThreadStep windows window-tests (code_of j good) t (pool_of j s)
          (moved windows window-tests (code_of j good) (pool_of j s) t here (link_of h) cell-here (onward (code_of j good) here (update here.slots d v))))
          (word (dec_le 32 a) (omega arith))
          (loads-step windows window-tests (code_of j good) (pool_of j s) t here (link_of h) cell-here d a (effect-met (Loads d a) met) (omega arith))))

  -- the thread goes on and its slots stay
  onward-cell : cell_of j s.store.words (moved_to (turn_at j s c t).next h) ≡ used (onward (code_of j good) here here.slots) (link_of h)
  onward-cell = cell-used j s.store.words (moved_to (turn_at j s c t).next h) in_use
      ∙ (λ ι. used (record {
        routine = h.origin.routine;
        position = sym position_here ι;
        slots = here.slots;
        pending = is_pending h.family.pending;
        window = h.family.window;
      }) (link_of h))

  onward-step : ThreadStep windows window-tests (code_of j good) t (pool_of j s)
      (moved windows window-tests (code_of j good) (pool_of j s) t here (link_of h) cell-here (onward (code_of j good) here here.slots))
      → StepsTo (goes_on (turn_at j s c t) s)
  onward-step step = subst (ThreadStep windows window-tests (code_of j good) t (pool_of j s)) (λ ι. record {
    cell = own-cells s.store.words (moved_to (turn_at j s c t).next h) (onward (code_of j good) here here.slots) (λ u n k. refl) onward-cell ι;
    words = words-from 32 s.store.memory;
    units = units-here ι;
  }) step

  -- 06 where the slot is not 0; 0B and 0C as far as the thread goes on
  pub continues-goes : effect_at j s h ≡ Continues → StepsTo (goes_on (turn_at j s c t) s)
  continues-goes met = onward-step
      (continues-step windows window-tests (code_of j good) (pool_of j s) t here (link_of h) cell-here (effect-met Continues met))

  pub suspends-goes : effect_at j s h ≡ Suspends → StepsTo (goes_on (turn_at j s c t) s)
  suspends-goes met = onward-step
      (suspends-step windows window-tests (code_of j good) (pool_of j s) t here (link_of h) cell-here (effect-met Suspends met))

  pub yields-goes : effect_at j s h ≡ Yields → StepsTo (goes_on (turn_at j s c t) s)
  yields-goes met = onward-step
      (yields-step windows window-tests (code_of j good) (pool_of j s) t here (link_of h) cell-here (effect-met Yields met))

  -- 0E: the window with its new ceiling
  share_cell : (x : ℕ) → cell_of j s.store.words (shared_at (turn_at j s c t).next x h) ≡ used (behind-share (code_of j good) here (sharing_of h.family.window x)) (link_of h)
  share_cell x = cell-used j s.store.words (shared_at (turn_at j s c t).next x h) in_use
      ∙ (λ ι. used (record {
        routine = h.origin.routine;
        position = sym position_here ι;
        slots = here.slots;
        pending = is_pending h.family.pending;
        window = sharing_of h.family.window x;
      }) (link_of h))

  pub shares-goes : (x : ℕ) → effect_at j s h ≡ Shares x → StepsTo (completed (turn_at j s c t) (shared_at (turn_at j s c t).next x h) s)
  shares-goes x met = subst (ThreadStep windows window-tests (code_of j good) t (pool_of j s)) (λ ι. record {
    cell = own-cells s.store.words (shared_at (turn_at j s c t).next x h) (behind-share (code_of j good) here (sharing_of h.family.window x)) (λ u n k. refl) (share_cell x) ι;
    words = words-from 32 s.store.memory;
    units = units-here ι;
  }) (shares-step windows window-tests (code_of j good) (pool_of j s) t here (link_of h) cell-here x (sharing_of h.family.window x) (effect-met (Shares x) met) left)
    where
      range : (h.family.window.mark ≤ x) × (x ≤ h.family.window.ceiling)
      range = share-inside h.family.window x (effect-tested (Shares x) met)

      left : shared_of (share_at h.family.window x) ≡ some (sharing_of h.family.window x)
      left = ap shared_of (share-made h.family.window x range.0 range.1)

  -- 05
  pub stores-goes : (a v : ℕ) → effect_at j s h ≡ Stores a v → StepsTo (goes_on (turn_at j s c t) (set_memory a v s))
  stores-goes a v met = subst (ThreadStep windows window-tests (code_of j good) t (pool_of j s)) (λ ι. record {
    cell = own-cells s.store.words (moved_to (turn_at j s c t).next h) (onward (code_of j good) here here.slots) (λ u n k. refl) onward-cell ι;
    words = sym (words-set 32 s.store.memory a v place.0 (omega (arith, place.1, ok.sized.memory))) ι;
    units = units-here ι;
  }) (stores-step windows window-tests (code_of j good) (pool_of j s) t here (link_of h) cell-here a v (effect-met (Stores a v) met))
    where
      place : (32 ≤ a) × (a < 1024)
      place = store-in-memory h.family.window a (ok.windows.fits t in_use) (effect-tested (Stores a v) met)

  -- 07, and 06 where the slot is 0
  pub goes-goes : (p : ℕ) → effect_at j s h ≡ Goes p → StepsTo (completed (turn_at j s c t) (moved_to p h) s)
  goes-goes p met = subst (ThreadStep windows window-tests (code_of j good) t (pool_of j s)) (λ ι. record {
    cell = own-cells s.store.words (moved_to p h) (at_target here p) (λ u n k. refl) (cell-used j s.store.words (moved_to p h) in_use) ι;
    words = words-from 32 s.store.memory;
    units = units-here ι;
  }) (goes_step windows window-tests (code_of j good) (pool_of j s) t here (link_of h) cell-here p (effect-met (Goes p) met))
