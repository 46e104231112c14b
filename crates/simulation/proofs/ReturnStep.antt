-- A return: a child's is a step of the pool, which frees its number and puts the value into the parent's slot; the root's is the theory's
-- last command. The frame that goes is cleared, which no other frame sees. Assumes a sound state and a thread in use.
use mathlib.Core.Bool.{Bool, true, false, cond}
use mathlib.Core.List.{List, []}
use mathlib.Core.Logic.{⊎_elim, ite}
use mathlib.Core.Path.{◌≡◌, refl, sym, ◌∙◌, ap, subst, fun_ext}
use Prim.Native.Nat.{ℕ, ◌+◌, ◌<◌}
use native.Mathlib.Decide.{ℕ_discrete, dec_lt}
use native.Mathlib.Omega.{arith}
use lib.ListN.{get_or, set, length-set}
use lib.Seq.{get_or-set_same, get_or-set_other}
use borrow.Author.Tests.{leb-false}
use Rattle.image.specs.Layout.{slots_of}
use Rattle.window.specs.declared.Window.{Window}
use Rattle.stacklets.specs.Layout.{Apart}
use Rattle.stacklets.specs.Frames.{wiped}
use Rattle.stacklets.proofs.Words.{length-framed, framed-apart}
use Rattle.window.proofs.Instance.{windows}
use Rattle.forkjoin.proofs.Language.{ret}
use Rattle.forkjoin.proofs.Update.{update}
use Rattle.forkjoin.proofs.ThreadPool.{root, child, free, used}
use Rattle.forkjoin.proofs.Arrays.{words-from, frame, frame-own}
use Rattle.thread.specs.declared.Effect.TheVariants.{Returns}
use Rattle.thread.specs.declared.Status.TheVariants.{Ready}
use Rattle.thread.specs.declared.Thread.{Thread}
use Rattle.thread.specs.Thread.{status_number, is_pending, is_root, none, blank_thread, without_child}
use Rattle.thread.proofs.ThreadState.{ThreadState, deliver}
use Rattle.thread.proofs.CarriedThreads.{does}
use Rattle.thread.proofs.MarkedWindows.{window-tests}
use Rattle.thread.proofs.ThreadSteps.{ThreadStep, does-return, returns-step}
use Rattle.rules.specs.State.{Job, State, thread_at}
use Rattle.rules.specs.Turn.{turn_at, effect_at}
use Rattle.rules.specs.Return.{wakes, status_after, return_to_parent, return_of}
use Rattle.rules.specs.Sound.{GoodJob, Sound, Used, size_at}
use Rattle.simulation.proofs.JobCode.{code_of}
use Rattle.simulation.proofs.StatePool.{thread_of, link_of, cell_of, cells_of, pool_of, InUse, cell-used, used-below, cells-change, cells-set}
use Rattle.simulation.proofs.OwnSteps.{frame_apart, frame-within, here, StepsTo, cell-here, thread-below, units-here, effect-met}

-- a frame apart from one that is cleared keeps its slots
frame-wiped : (ws : List ℕ) (base n b m : ℕ) → Apart b m base n → frame (wiped ws base n) b m ≡ frame ws b m
frame-wiped ws base n b m a = fun_ext {f = frame (wiped ws base n) b m} {g = frame ws b m} (λ k. go k (dec_lt k m))
  where
    go : (k : ℕ) (o : Dec (k < m)) → ite o (get_or (wiped ws base n) (b + k) 0) 0 ≡ ite o (get_or ws (b + k) 0) 0
    go k (yes l) = framed-apart ws base n [] b m a k l
    go k (no l) = refl

-- the parent is in use afterwards
woken-in-use : (connected : Bool) (q : Thread) → InUse q → 0 < status_number (status_after connected q)
unfolding status_after
woken-in-use true q h = omega arith
woken-in-use false q h = go (wakes false q)
  where
    go : (b : Bool) → 0 < status_number (cond b Ready q.status)
    go true = omega arith
    go false = h

module _ (j : Job) (good : GoodJob j) (s : State) (ok : Sound j s) (c t : ℕ) (in_use : Used s t) (v : ℕ)
    (met : effect_at j s (thread_at s t) ≡ Returns v) where
  abbrev h : Thread
  h = thread_at s t

  abbrev l : ThreadState Window
  l = here j good s ok c t in_use

  -- the act is a return
  pub returns : does windows window-tests (code_of j good) 0 l ≡ ret v
  returns = does-return windows window-tests (code_of j good) l v (effect-met j good s ok c t in_use (Returns v) met)

  -- the root is thread 0
  pub root-cell : is_root h ≡ true → (pool_of j s).cell t ≡ used l root
  root-cell is = cell-here j good s ok c t in_use ∙ ap (λ b. used l (cond b root (child h.origin.parent h.origin.result))) is

  module _ (not_root : is_root h ≡ false) where
    abbrev p : ℕ
    p = h.origin.parent

    abbrev q : Thread
    q = thread_at s p

    -- the parent is another thread in use
    pub record Above : Type 0 where
      pub not_first : t ≡ 0 → ⊥
      pub used-parent : Used s p
      pub other : ¬ (p ≡ t)

    pub above : Above
    above = ⊎_elim (λ x. absurd (outside x.1))
        (λ x. record { not_first = x.0; used-parent = x.1; other = λ e. let y = ap ok.tree.rank e in let z = x.2 in omega arith })
        (ok.tree.tree t in_use)
      where
        outside : h.origin.parent ≡ none → ⊥
        outside e = let z = leb-false none h.origin.parent not_root in omega arith

    slot-inside : h.origin.result < size_at j s p
    slot-inside = ok.frames.result t in_use above.not_first

    -- the words once the frame is cleared, and with the value
    abbrev cleared : List ℕ
    cleared = wiped s.store.words h.origin.base (size_at j s t)

    abbrev ws : List ℕ
    ws = set cleared (q.origin.base + h.origin.result) v

    -- any other thread's frame is as it was
    frame-left : (u : ℕ) → Used s u → ¬ (u ≡ t) → frame cleared (thread_at s u).origin.base (size_at j s u) ≡ frame s.store.words (thread_at s u).origin.base (size_at j s u)
    frame-left u k n = frame-wiped s.store.words h.origin.base (size_at j s t) (thread_at s u).origin.base (size_at j s u) (ok.frames.apart u t k in_use n)

    parent-slots : frame ws q.origin.base (size_at j s p) ≡ update (frame s.store.words q.origin.base (size_at j s p)) h.origin.result v
    parent-slots = frame-own cleared q.origin.base (size_at j s p) h.origin.result v slot-inside
        (omega (arith, frame-within j s ok p above.used-parent, length-framed s.store.words h.origin.base (size_at j s t) []))
        ∙ ap (λ f. update f h.origin.result v) (frame-left p above.used-parent above.other)

    abbrev parent : Thread
    parent = without_child (status_after h.connected q) q

    parent-cell : cell_of j ws parent ≡ used (deliver (thread_of j s.store.words q) h.origin.result v) (link_of q)
    parent-cell = cell-used j ws parent (woken-in-use h.connected q above.used-parent)
        ∙ (λ ι. used (record {
          routine = q.origin.routine;
          position = q.position;
          slots = parent-slots ι;
          pending = is_pending q.family.pending;
          window = q.family.window;
        }) (link_of q))

    -- a thread in use once t is freed is another that was
    still : (u : ℕ) → InUse (get_or (set s.threads t blank_thread) u blank_thread)
        → (get_or (set s.threads t blank_thread) u blank_thread ≡ thread_at s u) × Used s u × (¬ (u ≡ t))
    still u k = go (ℕ_discrete u t)
      where
        go : Dec (u ≡ t) → (get_or (set s.threads t blank_thread) u blank_thread ≡ thread_at s u) × Used s u × (¬ (u ≡ t))
        go (yes e) =
            let b : get_or (set s.threads t blank_thread) u blank_thread ≡ blank_thread =
            ap (λ z. get_or (set s.threads t blank_thread) z blank_thread) e
            ∙ get_or-set_same s.threads t blank_thread blank_thread (thread-below j good s ok c t in_use) in
            let z = ap (λ w. status_number w.status) b in
            absurd (omega arith)
        go (no n) =
            let b = get_or-set_other s.threads t u blank_thread blank_thread n in
            (b, subst InUse b k, n)

    kept : (u : ℕ) → ¬ (u ≡ p) → InUse (get_or (set s.threads t blank_thread) u blank_thread)
        → frame ws (get_or (set s.threads t blank_thread) u blank_thread).origin.base
        (slots_of j.image (get_or (set s.threads t blank_thread) u blank_thread).origin.routine)
        ≡ frame s.store.words (get_or (set s.threads t blank_thread) u blank_thread).origin.base
        (slots_of j.image (get_or (set s.threads t blank_thread) u blank_thread).origin.routine)
    kept u n k =
        let (same, was, other) = still u k in
        subst (λ g. frame ws g.origin.base (slots_of j.image g.origin.routine) ≡ frame s.store.words g.origin.base (slots_of j.image g.origin.routine)) (sym same)
        (frame_apart cleared q.origin.base (size_at j s p) h.origin.result v (thread_at s u).origin.base (size_at j s u) slot-inside
        (ok.frames.apart p u above.used-parent was (λ e. n (sym e)))
        ∙ frame-left u was other)

    return-cells : cells_of j ws (set (set s.threads t blank_thread) p parent)
        ≡ update (update (cells_of j s.store.words s.threads) t free) p (used (deliver (thread_of j s.store.words q) h.origin.result v) (link_of q))
    return-cells =
        cells-change j s.store.words ws (set s.threads t blank_thread) p parent
        (omega (arith, length-set s.threads t blank_thread, used-below s.threads p above.used-parent)) kept
        ∙ ap (λ f. update f p (cell_of j ws parent)) (cells-set j s.store.words s.threads t blank_thread (thread-below j good s ok c t in_use))
        ∙ ap (update (update (cells_of j s.store.words s.threads) t free) p) parent-cell

    child-link : (pool_of j s).cell t ≡ used l (child p h.origin.result)
    child-link = cell-here j good s ok c t in_use ∙ ap (λ b. used l (cond b root (child h.origin.parent h.origin.result))) not_root

    parent-goes : StepsTo j good s ok c t in_use (return_to_parent j s (turn_at j s c t) p q v)
    unfolding return_to_parent
    parent-goes = subst (ThreadStep windows window-tests (code_of j good) t (pool_of j s))
        (λ ι. record { cell = sym return-cells ι; words = words-from 32 s.store.memory; units = units-here j good s ok c t in_use ι })
        (returns-step windows window-tests (code_of j good) (pool_of j s) t l (thread_of j s.store.words q) (link_of q) p h.origin.result v child-link
        (cell-used j s.store.words q above.used-parent) (effect-met j good s ok c t in_use (Returns v) met))

    pub returns-goes : StepsTo j good s ok c t in_use (return_of j s (turn_at j s c t) v)
    unfolding return_of
    returns-goes = rw not_root parent-goes
