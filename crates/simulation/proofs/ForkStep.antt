-- A fork as a step of the pool, whoever carries it out: an lfork's step, a fork's step or a steal. The child's frame is new, so every
-- other thread keeps its words. Assumes a sound state, a thread in use and room for the child.
use mathlib.Core.Bool.{true, cond, ◌&&◌}
use mathlib.Core.List.{List, ◌∷◌}
use mathlib.Core.Logic.{ite}
use mathlib.Core.Option.{some}
use mathlib.Core.Path.{◌≡◌, refl, sym, ◌∙◌, ap, subst, fun_ext}
use Prim.Native.Nat.{ℕ, ◌+◌, ◌/◌, ◌<◌, ◌≤◌}
use native.Mathlib.Decide.{dec_lt}
use native.Mathlib.Omega.{arith}
use lib.Dec.{ltb}
use lib.ListN.{get_or, set, length, length-set}
use borrow.Author.Tests.{lt-ltb, le-ltb, lt-leb}
use Rattle.command.proofs.Bools.{both}
use Rattle.image.specs.Layout.{routine_count, slots_of, arguments_of}
use Rattle.image.proofs.Accepted.{accepted}
use Rattle.image.proofs.Laws.{slots-some, slots-most, arguments-most}
use Rattle.window.specs.declared.Window.{Window}
use Rattle.window.specs.Rights.{child_of, rest_of, cut_at}
use Rattle.window.proofs.Laws.{cut-made}
use Rattle.window.proofs.Instance.{windows, parts_of}
use Rattle.stacklets.specs.Tops.{top_at, base_on, fits_on, is_topmost}
use Rattle.stacklets.specs.Layout.{Apart}
use Rattle.stacklets.specs.Frames.{arguments_at, pushed_words}
use Rattle.stacklets.proofs.Places.{fits-yes, pushed-apart}
use Rattle.stacklets.proofs.Words.{pushed-keeps, pushed-argument, pushed-zero}
use Rattle.forkjoin.proofs.Update.{update}
use Rattle.forkjoin.proofs.ThreadPool.{root, child, free, used}
use Rattle.forkjoin.proofs.Arrays.{words-from, frame}
use Rattle.thread.specs.declared.Effect.TheVariants.{Lforks, Forks}
use Rattle.thread.specs.declared.Thread.{Thread}
use Rattle.thread.specs.Thread.{none, origin_of, new_thread, behind_fork}
use Rattle.thread.proofs.ThreadState.{ThreadState, started, behind-fork}
use Rattle.thread.proofs.MarkedWindows.{window-tests}
use Rattle.thread.proofs.ThreadSteps.{ThreadStep, forked, lforks-step, forks-step}
use Rattle.met.proofs.CommandMet.{ForkMet}
use Rattle.rules.proofs.Laws.{child-in-use, parent-in-use}
use Rattle.rules.specs.declared.ForkKind.{ForkKind}
use Rattle.rules.specs.declared.ForkKind.TheVariants.{Called, Queued, Stolen}
use Rattle.rules.specs.State.{Job, State, thread_at}
use Rattle.rules.specs.Turn.{turn_at, effect_at}
use Rattle.rules.specs.Fork.{asked, born, child_goes, child_status, parent_status, is_connected, goes_above, handed}
use Rattle.rules.specs.Lists.{Every}
use Rattle.rules.specs.Sound.{GoodJob, Sound, Used, size_at, status_at, Unused}
use Rattle.simulation.proofs.JobCode.{code_of}
use Rattle.simulation.proofs.PendingSlots.{none-pending, more-pending}
use Rattle.simulation.proofs.StatePool.{link_of, cell_of, cells_of, pool_of, cell-used, cell_free, cells-set, cells-words}
use Rattle.simulation.proofs.NextCommand.{frame-slot}
use Rattle.simulation.proofs.OwnSteps.{here, StepsTo, cell-here, thread-below, units-here, position_here, effect-met}

-- a free thread number n and a stacklet x with room for routine r's frame
pub record Room (j : Job) (s : State) (r n x : ℕ) : Type 0 where
  pub low : n < 32
  pub unused : status_at s n ≡ 0
  pub fits : fits_on s.store.tops x (slots_of j.image r) ≡ true

-- above the parent's frame
pub room-above : (j : Job) (s : State) → Sound j s → (kind : ForkKind) (h : Thread) (r n : ℕ) (ns : List ℕ) → s.queues.free_threads ≡ n ∷ ns
    → goes_above j s kind h r ≡ true → Room j s r n (h.origin.base / 64)
unfolding goes_above
room-above j s ok kind h r n ns e above =
    let f : Every (λ m. (m < 32) × (status_at s m ≡ 0)) (n ∷ ns) = subst (Every (λ m. (m < 32) × (status_at s m ≡ 0))) e ok.free_threads.free in
    let top = is_topmost s.store.tops h.origin.base (slots_of j.image h.origin.routine) in
    let fit = fits_on s.store.tops (h.origin.base / 64) (slots_of j.image r) in
    let i = both top fit (both (is_connected kind) (top && fit) above).1 in
    record { low = f.0.0; unused = f.0.1; fits = i.1 }

-- on a free stacklet
pub room-free : (j : Job) (s : State) → GoodJob j → Sound j s → (r n x : ℕ) (ns xs : List ℕ) → s.queues.free_threads ≡ n ∷ ns → s.queues.free_stacklets ≡ x ∷ xs
    → r < routine_count j.image → Room j s r n x
room-free j s good ok r n x ns xs e e' l =
    let f : Every (λ m. (m < 32) × (status_at s m ≡ 0)) (n ∷ ns) = subst (Every (λ m. (m < 32) × (status_at s m ≡ 0))) e ok.free_threads.free in
    let g : Every (λ y. (y < 16) × (top_at s.store.tops y ≡ 0) × Unused s y) (x ∷ xs) =
    subst (Every (λ y. (y < 16) × (top_at s.store.tops y ≡ 0) × Unused s y)) e' ok.free_stacklets.free in
    let i = slots-most j.image (accepted j.image good.image) r l in
    let top = g.0.1 in
    record { low = f.0.0; unused = f.0.1; fits = fits-yes s.store.tops x (slots_of j.image r) g.0.0 (omega arith) }

-- where the child goes does not show in the pool
child-goes-pool : (j : Job) (kind : ForkKind) (c n : ℕ) (s : State) → pool_of j (child_goes kind c n s) ≡ pool_of j s
child-goes-pool j Called c n s = refl
child-goes-pool j Queued c n s = refl
child-goes-pool j Stolen c n s = refl

-- a new frame leaves a frame apart from it
frame-kept : (tops ws : List ℕ) (x n : ℕ) (vs : List ℕ) (b m : ℕ) → Apart b m (base_on tops x) n → frame (pushed_words tops ws x n vs) b m ≡ frame ws b m
frame-kept tops ws x n vs b m a = fun_ext {f = frame (pushed_words tops ws x n vs) b m} {g = frame ws b m} (λ k. go k (dec_lt k m))
  where
    go : (k : ℕ) (o : Dec (k < m)) → ite o (get_or (pushed_words tops ws x n vs) (b + k) 0) 0 ≡ ite o (get_or ws (b + k) 0) 0
    go k (yes h) = pushed-keeps tops ws x n vs b m a k h
    go k (no _) = refl

-- and is the child's: its arguments, which were slots of the parent, then zeros
frame-new : (tops ws : List ℕ) (x n b m a k : ℕ) → fits_on tops x n ≡ true → length ws ≡ 1024 → a + k ≤ m → k ≤ n
    → frame (pushed_words tops ws x n (arguments_at ws (b + a) k)) (base_on tops x) n ≡ (λ i. cond (ltb i k) (frame ws b m (a + i)) 0)
frame-new tops ws x n b m a k fit all h h' =
    fun_ext {f = frame (pushed_words tops ws x n (arguments_at ws (b + a) k)) (base_on tops x) n} {g = λ i. cond (ltb i k) (frame ws b m (a + i)) 0}
    (λ i. go i (dec_lt i n) (dec_lt i k))
  where
    go : (i : ℕ) (o : Dec (i < n)) → Dec (i < k)
        → ite o (get_or (pushed_words tops ws x n (arguments_at ws (b + a) k)) (base_on tops x + i) 0) 0 ≡ cond (ltb i k) (frame ws b m (a + i)) 0
    go i (yes l) (yes y) = pushed-argument tops ws x n fit all i l (b + a) k y ∙ ap (λ z. get_or ws z 0) (omega arith)
        ∙ sym (frame-slot ws b m (a + i) (omega arith)) ∙ ap (λ t. cond t (frame ws b m (a + i)) 0) (sym (lt-ltb i k y))
    go i (yes l) (no y) = pushed-zero tops ws x n fit all i l (b + a) k (omega arith)
        ∙ ap (λ t. cond t (frame ws b m (a + i)) 0) (sym (le-ltb i k (omega arith)))
    go i (no l) (yes y) = absurd (omega arith)
    go i (no l) (no y) = ap (λ t. cond t (frame ws b m (a + i)) 0) (sym (le-ltb i k (omega arith)))

module _ (j : Job) (good : GoodJob j) (s : State) (ok : Sound j s) (c t : ℕ) (in_use : Used s t) (kind : ForkKind) (r d a e n : ℕ) (ns : List ℕ)
    (x : ℕ) (xs : List ℕ) (room : Room j s r n x) (range : ForkMet j.image (size_at j s t) (thread_at s t).family.window r d a e) where
  abbrev h : Thread
  h = thread_at s t

  abbrev l : ThreadState Window
  l = here j good s ok c t in_use

  -- the words with the child's frame
  abbrev ws : List ℕ
  ws = pushed_words s.store.tops s.store.words x (slots_of j.image r) (arguments_at s.store.words (h.origin.base + a) (arguments_of j.image r))

  abbrev parent : Thread
  parent = behind_fork (parent_status kind) (turn_at j s c t).next d (rest_of h.family.window e) h

  abbrev kid : Thread
  kid = new_thread (origin_of r t d (base_on s.store.tops x)) (child_status kind) (is_connected kind) (child_of h.family.window e)

  some-slots : 0 < slots_of j.image r
  some-slots = let z = slots-some j.image (accepted j.image good.image) r range.routine in omega arith

  kept : (u : ℕ) → Used s u → frame ws (thread_at s u).origin.base (size_at j s u) ≡ frame s.store.words (thread_at s u).origin.base (size_at j s u)
  kept u k = frame-kept s.store.tops s.store.words x (slots_of j.image r) (arguments_at s.store.words (h.origin.base + a) (arguments_of j.image r))
      (thread_at s u).origin.base (size_at j s u) (pushed-apart s.store.tops x (slots_of j.image r) room.fits some-slots (thread_at s u).origin.base (size_at j s u)
      (ok.frames.under u k) (ok.frames.most ((thread_at s u).origin.base / 64)))

  parent-cell : cell_of j ws parent ≡ used (behind-fork (code_of j good) l l.slots d (rest_of h.family.window e)) (link_of h)
  parent-cell = cell-used j ws parent (parent-in-use kind)
      ∙ (λ ι. used (record {
        routine = h.origin.routine;
        position = sym (position_here j good s ok c t in_use) ι;
        slots = kept t in_use ι;
        pending = more-pending h.family.pending d ι;
        window = rest_of h.family.window e;
      }) (link_of h))

  thread-low : t < 32
  thread-low = let b = thread-below j good s ok c t in_use in let m = ok.sized.threads in omega arith

  child-cell : cell_of j ws kid ≡ used (started (code_of j good) r l.slots a (child_of h.family.window e)) (child t d)
  child-cell = cell-used j ws kid (child-in-use kind)
      ∙ (λ ι. used (record {
        routine = r;
        position = 0;
        slots = frame-new s.store.tops s.store.words x (slots_of j.image r) h.origin.base (size_at j s t) a (arguments_of j.image r) room.fits
            ok.sized.words range.arguments (arguments-most j.image (accepted j.image good.image) r range.routine) ι;
        pending = none-pending ι;
        window = child_of h.family.window e;
      }) (cond (lt-leb none t thread-low ι) root (child t d)))

  born-cells : cells_of j ws (set (set s.threads t parent) n kid)
      ≡ update (update (cells_of j s.store.words s.threads) t (used (behind-fork (code_of j good) l l.slots d (rest_of h.family.window e)) (link_of h))) n
      (used (started (code_of j good) r l.slots a (child_of h.family.window e)) (child t d))
  born-cells =
      cells-set j ws (set s.threads t parent) n kid (omega (arith, length-set s.threads t parent, ok.sized.threads, room.low))
      ∙ ap (λ f. update f n (cell_of j ws kid)) (cells-set j ws s.threads t parent (thread-below j good s ok c t in_use))
      ∙ ap (λ f. update (update f t (cell_of j ws parent)) n (cell_of j ws kid)) (cells-words j s.store.words ws s.threads kept)
      ∙ ap (λ z. update (update (cells_of j s.store.words s.threads) t z) n (cell_of j ws kid)) parent-cell
      ∙ ap (update (update (cells_of j s.store.words s.threads) t (used (behind-fork (code_of j good) l l.slots d (rest_of h.family.window e)) (link_of h))) n)
      child-cell

  -- the pool after the fork
  born-pool : forked windows window-tests (code_of j good) (pool_of j s) t l (link_of h) (cell-here j good s ok c t in_use) r d a
      (child_of h.family.window e) (rest_of h.family.window e) n ≡ pool_of j (born j s kind (turn_at j s c t) (asked r d a e) (handed n ns x xs))
  unfolding born
  born-pool = (λ ι. record { cell = sym born-cells ι; words = words-from 32 s.store.memory; units = units-here j good s ok c t in_use ι })
      ∙ sym (child-goes-pool j kind c n _)

  unused-cell : (pool_of j s).cell n ≡ free
  unused-cell = cell_free j s.store.words (thread_at s n) room.unused

  -- the parts of the cut
  parts : parts_of (cut_at h.family.window e) ≡ some (child_of h.family.window e, rest_of h.family.window e)
  parts = ap parts_of (cut-made h.family.window e range.low range.high)

  pub lforks-goes : effect_at j s h ≡ Lforks r d a e → StepsTo j good s ok c t in_use (born j s kind (turn_at j s c t) (asked r d a e) (handed n ns x xs))
  lforks-goes met = subst (ThreadStep windows window-tests (code_of j good) t (pool_of j s)) born-pool
      (lforks-step windows window-tests (code_of j good) (pool_of j s) t l (link_of h) (cell-here j good s ok c t in_use) r d a e
      (child_of h.family.window e) (rest_of h.family.window e) n (effect-met j good s ok c t in_use (Lforks r d a e) met) parts unused-cell)

  pub forks-goes : effect_at j s h ≡ Forks r d a e → StepsTo j good s ok c t in_use (born j s kind (turn_at j s c t) (asked r d a e) (handed n ns x xs))
  forks-goes met = subst (ThreadStep windows window-tests (code_of j good) t (pool_of j s)) born-pool
      (forks-step windows window-tests (code_of j good) (pool_of j s) t l (link_of h) (cell-here j good s ok c t in_use) r d a e
      (child_of h.family.window e) (rest_of h.family.window e) n (effect-met j good s ok c t in_use (Forks r d a e) met) parts unused-cell)
