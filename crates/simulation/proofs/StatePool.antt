-- A state as a pool of threads: a thread in use is a used cell with its routine, position, slots, pending slots and window, linked to its
-- parent. Cores, queues, stacklets and statuses are not seen, but for who is in use. Assumes nothing.
use mathlib.Core.Bool.{cond}
use mathlib.Core.List.{List}
use mathlib.Core.Logic.{ite}
use mathlib.Core.Path.{◌≡◌, refl, sym, ◌∙◌, ap, fun_ext}
use Prim.Native.Nat.{ℕ, ◌<◌}
use native.Mathlib.Decide.{ℕ_discrete, dec_lt}
use native.Mathlib.Omega.{arith}
use lib.Dec.{leb}
use lib.ListN.{get_or, set, length, get_or-eq_default}
use lib.Seq.{get_or-set_same, get_or-set_other}
use Rattle.image.specs.Layout.{slots_of}
use Rattle.window.specs.declared.Window.{Window}
use Rattle.forkjoin.proofs.Update.{update}
use Rattle.forkjoin.proofs.ThreadPool.{Link, root, child, Cell, free, used, Pool}
use Rattle.forkjoin.proofs.Arrays.{words-from, frame}
use Rattle.thread.specs.declared.Thread.{Thread}
use Rattle.thread.specs.declared.Status.{Status}
use Rattle.thread.specs.declared.Status.TheVariants.{Free, Running, Ready, Suspended, Waiting, Lent}
use Rattle.thread.specs.Thread.{status_number, is_pending, is_root, none, blank_thread}
use Rattle.thread.proofs.ThreadState.{ThreadState}
use Rattle.rules.specs.State.{Job, State}

-- a thread's own state: its slots are its frame's words, and zero past them
abbrev pub thread_of : Job → List ℕ → Thread → ThreadState Window
thread_of j ws h = record {
  routine = h.origin.routine;
  position = h.position;
  slots = frame ws h.origin.base (slots_of j.image h.origin.routine);
  pending = is_pending h.family.pending;
  window = h.family.window;
}

-- whose child it is, and by which slot
abbrev pub link_of : Thread → Link
link_of h = cond (is_root h) root (child h.origin.parent h.origin.result)

abbrev pub cell_in : Status → ThreadState Window → Link → Cell (ThreadState Window)
cell_in Free l k = free
cell_in Running l k = used l k
cell_in Ready l k = used l k
cell_in Suspended l k = used l k
cell_in Waiting l k = used l k
cell_in Lent l k = used l k

abbrev pub cell_of : Job → List ℕ → Thread → Cell (ThreadState Window)
cell_of j ws h = cell_in h.status (thread_of j ws h) (link_of h)

-- the cells of a thread table, with the stacklets' words
abbrev pub cells_of : Job → List ℕ → List Thread → ℕ → Cell (ThreadState Window)
cells_of j ws ts t = cell_of j ws (get_or ts t blank_thread)

abbrev pub pool_of : Job → State → Pool (ThreadState Window)
pool_of j s = record { cell = cells_of j s.store.words s.threads; words = words-from 32 s.store.memory; units = s.units }

-- a record in use
abbrev pub InUse : Thread → Type 0
InUse h = 0 < status_number h.status

cell-in-used : (x : Status) (l : ThreadState Window) (k : Link) → 0 < status_number x → cell_in x l k ≡ used l k
cell-in-used Free l k h = absurd (omega arith)
cell-in-used Running l k h = refl
cell-in-used Ready l k h = refl
cell-in-used Suspended l k h = refl
cell-in-used Waiting l k h = refl
cell-in-used Lent l k h = refl

cell-in-free : (x : Status) (l : ThreadState Window) (k : Link) → status_number x ≡ 0 → cell_in x l k ≡ free
cell-in-free Free l k h = refl
cell-in-free Running l k h = absurd (omega arith)
cell-in-free Ready l k h = absurd (omega arith)
cell-in-free Suspended l k h = absurd (omega arith)
cell-in-free Waiting l k h = absurd (omega arith)
cell-in-free Lent l k h = absurd (omega arith)

pub cell-used : (j : Job) (ws : List ℕ) (h : Thread) → InUse h → cell_of j ws h ≡ used (thread_of j ws h) (link_of h)
cell-used j ws h u = cell-in-used h.status (thread_of j ws h) (link_of h) u

pub cell_free : (j : Job) (ws : List ℕ) (h : Thread) → status_number h.status ≡ 0 → cell_of j ws h ≡ free
cell_free j ws h u = cell-in-free h.status (thread_of j ws h) (link_of h) u

-- the cell of a thread whose frame's words are the same
pub cell-words : (j : Job) (ws ws' : List ℕ) (h : Thread)
    → (InUse h → frame ws' h.origin.base (slots_of j.image h.origin.routine) ≡ frame ws h.origin.base (slots_of j.image h.origin.routine))
    → cell_of j ws' h ≡ cell_of j ws h
cell-words j ws ws' h f = go h.status f
  where
    with-slots : (ℕ → ℕ) → ThreadState Window
    with-slots z = record { routine = h.origin.routine; position = h.position; slots = z; pending = is_pending h.family.pending; window = h.family.window }

    go : (x : Status) → (0 < status_number x → frame ws' h.origin.base (slots_of j.image h.origin.routine) ≡ frame ws h.origin.base (slots_of j.image h.origin.routine))
        → cell_in x (thread_of j ws' h) (link_of h) ≡ cell_in x (thread_of j ws h) (link_of h)
    go Free f = refl
    go Running f = ap (λ z. used (with-slots z) (link_of h)) (f (omega arith))
    go Ready f = ap (λ z. used (with-slots z) (link_of h)) (f (omega arith))
    go Suspended f = ap (λ z. used (with-slots z) (link_of h)) (f (omega arith))
    go Waiting f = ap (λ z. used (with-slots z) (link_of h)) (f (omega arith))
    go Lent f = ap (λ z. used (with-slots z) (link_of h)) (f (omega arith))

-- a thread in use has a number of the table
pub used-below : (ts : List Thread) (t : ℕ) → InUse (get_or ts t blank_thread) → t < length ts
used-below ts t u = go (dec_lt t (length ts))
  where
    go : Dec (t < length ts) → t < length ts
    go (yes h) = h
    go (no h) = let e = ap (λ z. status_number z.status) (get_or-eq_default ts blank_thread {n = t} (omega arith)) in absurd (omega arith)

-- one record and some words have changed, but no other used thread's words
pub cells-change : (j : Job) (ws ws' : List ℕ) (ts : List Thread) (t : ℕ) (h : Thread) → t < length ts
    → ((u : ℕ) → ¬ (u ≡ t) → InUse (get_or ts u blank_thread)
    → frame ws' (get_or ts u blank_thread).origin.base (slots_of j.image (get_or ts u blank_thread).origin.routine)
    ≡ frame ws (get_or ts u blank_thread).origin.base (slots_of j.image (get_or ts u blank_thread).origin.routine))
    → cells_of j ws' (set ts t h) ≡ update (cells_of j ws ts) t (cell_of j ws' h)
cells-change j ws ws' ts t h l f = fun_ext {f = cells_of j ws' (set ts t h)} {g = update (cells_of j ws ts) t (cell_of j ws' h)} (λ u. go u (ℕ_discrete u t))
  where
    go : (u : ℕ) (o : Dec (u ≡ t)) → cells_of j ws' (set ts t h) u ≡ ite o (cell_of j ws' h) (cells_of j ws ts u)
    go u (yes e) = ap (λ z. cells_of j ws' (set ts t h) z) e ∙ ap (cell_of j ws') (get_or-set_same ts t h blank_thread l)
    go u (no n) = ap (cell_of j ws') (get_or-set_other ts t u h blank_thread n) ∙ cell-words j ws ws' (get_or ts u blank_thread) (f u n)

pub cells-set : (j : Job) (ws : List ℕ) (ts : List Thread) (t : ℕ) (h : Thread) → t < length ts
    → cells_of j ws (set ts t h) ≡ update (cells_of j ws ts) t (cell_of j ws h)
cells-set j ws ts t h l = cells-change j ws ws ts t h l (λ u n k. refl)

-- only words have changed, and no used thread's
pub cells-words : (j : Job) (ws ws' : List ℕ) (ts : List Thread)
    → ((u : ℕ) → InUse (get_or ts u blank_thread)
    → frame ws' (get_or ts u blank_thread).origin.base (slots_of j.image (get_or ts u blank_thread).origin.routine)
    ≡ frame ws (get_or ts u blank_thread).origin.base (slots_of j.image (get_or ts u blank_thread).origin.routine))
    → cells_of j ws' ts ≡ cells_of j ws ts
cells-words j ws ws' ts f = fun_ext {f = cells_of j ws' ts} {g = cells_of j ws ts} (λ u. cell-words j ws ws' (get_or ts u blank_thread) (f u))

-- the same thread to the pool: only its status, its connection and its count of children may differ
pub record Alike (h h' : Thread) : Type 0 where
  pub routine : h'.origin.routine ≡ h.origin.routine
  pub position : h'.position ≡ h.position
  pub base : h'.origin.base ≡ h.origin.base
  pub pending : h'.family.pending ≡ h.family.pending
  pub window : h'.family.window ≡ h.family.window
  pub parent : h'.origin.parent ≡ h.origin.parent
  pub result : h'.origin.result ≡ h.origin.result
  pub used : InUse h
  pub still : InUse h'

pub cell-alike : (j : Job) (ws : List ℕ) (h h' : Thread) → Alike h h' → cell_of j ws h' ≡ cell_of j ws h
cell-alike j ws h h' a = cell-used j ws h' a.still
    ∙ (λ ι. used (record {
      routine = a.routine ι;
      position = a.position ι;
      slots = frame ws (a.base ι) (slots_of j.image (a.routine ι));
      pending = is_pending (a.pending ι);
      window = a.window ι;
    }) (cond (leb none (a.parent ι)) root (child (a.parent ι) (a.result ι))))
    ∙ sym (cell-used j ws h a.used)

-- a record that is the same to the pool leaves it
pub cells-alike : (j : Job) (ws : List ℕ) (ts : List Thread) (t : ℕ) (h : Thread) → Alike (get_or ts t blank_thread) h
    → cells_of j ws (set ts t h) ≡ cells_of j ws ts
cells-alike j ws ts t h a = fun_ext {f = cells_of j ws (set ts t h)} {g = cells_of j ws ts} (λ u. go u (ℕ_discrete u t))
  where
    go : (u : ℕ) → Dec (u ≡ t) → cells_of j ws (set ts t h) u ≡ cells_of j ws ts u
    go u (yes e) = ap (λ z. cells_of j ws (set ts t h) z) e ∙ ap (cell_of j ws) (get_or-set_same ts t h blank_thread (used-below ts t a.used))
        ∙ cell-alike j ws (get_or ts t blank_thread) h a ∙ ap (λ z. cells_of j ws ts z) (sym e)
    go u (no n) = ap (cell_of j ws) (get_or-set_other ts t u h blank_thread n)
