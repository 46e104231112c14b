-- What a change of a state does to frames and windows, in three kinds: none comes or goes, a fork makes one, a return ends one. What a part
-- of soundness says of frames or windows is shown for these three only. Assumes nothing.
use mathlib.Core.Bool.{Bool, true}
use mathlib.Core.List.{List, ◌∷◌}
use mathlib.Core.Path.{◌≡◌, refl, ◌∙◌}
use Prim.Native.Nat.{ℕ, ◌+◌, ◌/◌, ◌≤◌, ◌<◌}
use native.Mathlib.Decide.{ℕ_discrete, dec_lt}
use native.Mathlib.Omega.{arith}
use lib.ListN.{get_or, set, length}
use lib.Seq.{get_or-set_same, get_or-set_other, set_out}
use Rattle.image.specs.Layout.{routine_count, slots_of}
use Rattle.window.specs.declared.Window.{Window}
use Rattle.window.specs.Rights.{child_of, rest_of, sharing_of, rejoined}
use Rattle.stacklets.specs.Tops.{top_at, base_on, fits_on, pushed_tops, popped_tops}
use Rattle.stacklets.specs.Frames.{wiped, pushed_words}
use Rattle.thread.specs.declared.Thread.{Thread}
use Rattle.thread.specs.declared.Status.{Status}
use Rattle.thread.specs.Thread.{status_number, blank_thread, origin_of, new_thread}
use Rattle.rules.specs.State.{Job, State, thread_at}
use Rattle.rules.specs.Return.{stacklets_without}
use Rattle.rules.specs.Sound.{Used, status_at, size_at, window_held, IsFreeWord}
use Rattle.soundness.proofs.ForkTree.{Childless}

-- a record in the place of another: the same frame and place in the fork tree, in use just if that was
pub record Stays (h h' : Thread) : Type 0 where
  pub routine : h'.origin.routine ≡ h.origin.routine
  pub parent : h'.origin.parent ≡ h.origin.parent
  pub result : h'.origin.result ≡ h.origin.result
  pub base : h'.origin.base ≡ h.origin.base
  pub was : 0 < status_number h'.status → 0 < status_number h.status
  pub still : 0 < status_number h.status → 0 < status_number h'.status

-- and with the same window
pub record Like (h h' : Thread) : Type 0 where
  pub stays : Stays h h'
  pub window : h'.family.window ≡ h.family.window

pub stays-refl : (h : Thread) → Stays h h
stays-refl h = record { routine = refl; parent = refl; result = refl; base = refl; was = λ u. u; still = λ u. u }

pub like-same : {h h' : Thread} → h' ≡ h → Like h h'
like-same {h} e = rw e (record { stays = stays-refl h; window = refl })

pub like-trans : {f g h : Thread} → Like f g → Like g h → Like f h
like-trans p q = record {
  stays = record {
    routine = q.stays.routine ∙ p.stays.routine;
    parent = q.stays.parent ∙ p.stays.parent;
    result = q.stays.result ∙ p.stays.result;
    base = q.stays.base ∙ p.stays.base;
    was = λ u. p.stays.was (q.stays.was u);
    still = λ u. q.stays.still (p.stays.still u);
  };
  window = q.window ∙ p.window;
}

-- only status, connection, position, children and pending slots differ, and both are in use
pub like-used : {h h' : Thread} → 0 < status_number h.status → 0 < status_number h'.status → h'.origin.routine ≡ h.origin.routine → h'.origin.parent ≡ h.origin.parent → h'.origin.result ≡ h.origin.result
    → h'.origin.base ≡ h.origin.base → h'.family.window ≡ h.family.window → Like h h'
like-used u v r p d b w = record { stays = record { routine = r; parent = p; result = d; base = b; was = λ x. u; still = λ x. v }; window = w }

-- a table in which one record was replaced
pub like-replaced : (ts : List Thread) (t : ℕ) (h : Thread) → Like (get_or ts t blank_thread) h → (u : ℕ) → Like (get_or ts u blank_thread) (get_or (set ts t h) u blank_thread)
like-replaced ts t h l u = go (ℕ_discrete u t) (dec_lt t (length ts))
  where
    go : Dec (u ≡ t) → Dec (t < length ts) → Like (get_or ts u blank_thread) (get_or (set ts t h) u blank_thread)
    go (yes e) (yes b) = rw (e, get_or-set_same ts t h blank_thread b) l
    go (yes e) (no b) = like-same (rw (set_out ts t h (omega arith)))
    go (no n) _ = like-same (get_or-set_other ts t u h blank_thread n)

-- how a window changes where no frame comes or goes: not at all, by a join that passes, or by a 0E
pub data Turned (w w' : Window) (childless : Type 0) : Type 0 where
  kept : w' ≡ w → Turned w w' childless
  rejoins : w' ≡ rejoined w → childless → Turned w w' childless
  shares : (x : ℕ) → w.mark ≤ x → x ≤ w.ceiling → w' ≡ sharing_of w x → Turned w w' childless

-- NO FRAME comes or goes, and no word changes outside the frames
pub record Steady (j : Job) (s s' : State) : Type 0 where
  pub stays : (u : ℕ) → Stays (thread_at s u) (thread_at s' u)
  pub window : (u : ℕ) → Turned (window_held s u) (window_held s' u) (Childless s u)
  pub tops : s'.store.tops ≡ s.store.tops
  pub free : s'.queues.free_stacklets ≡ s.queues.free_stacklets
  pub words : (i : ℕ) → IsFreeWord j s i → get_or s'.store.words i 0 ≡ get_or s.store.words i 0

-- where the new frame of routine r goes: above the parent's frame, or at the first word of a free stacklet
pub data NewPlace (j : Job) (s s' : State) (t x : ℕ) : Type 0 where
  above_parent : base_on s.store.tops x ≡ (thread_at s t).origin.base + size_at j s t → x ≡ (thread_at s t).origin.base / 64 → s'.queues.free_stacklets ≡ s.queues.free_stacklets → NewPlace j s s' t x
  on_new : top_at s.store.tops x ≡ 0 → s.queues.free_stacklets ≡ x ∷ s'.queues.free_stacklets → NewPlace j s s' t x

-- A FORK by thread t makes thread n, of routine r, on stacklet x, with the window up to a cut
pub record Birth (j : Job) (s s' : State) (t n r d x cut : ℕ) : Type 0 where
  pub parent-used : Used s t
  pub number : n < 32
  pub unused : status_at s n ≡ 0
  pub not_root : n ≡ 0 → ⊥
  pub routine : r < routine_count j.image
  pub slot : d < size_at j s t
  pub low : (thread_at s t).family.window.mark ≤ cut
  pub high : cut ≤ (thread_at s t).family.window.ceiling
  pub fit : fits_on s.store.tops x (slots_of j.image r) ≡ true
  pub place : NewPlace j s s' t x
  pub tops : s'.store.tops ≡ pushed_tops s.store.tops x (slots_of j.image r)
  pub arguments : List ℕ
  pub words : s'.store.words ≡ pushed_words s.store.tops s.store.words x (slots_of j.image r) arguments
  pub status : Status
  pub connected : Bool
  pub used : 0 < status_number status
  pub child : thread_at s' n ≡ new_thread (origin_of r t d (base_on s.store.tops x)) status connected (child_of (thread_at s t).family.window cut)
  pub parent : Stays (thread_at s t) (thread_at s' t)
  pub rest : (thread_at s' t).family.window ≡ rest_of (thread_at s t).family.window cut
  pub others : (u : ℕ) → (u ≡ t → ⊥) → (u ≡ n → ⊥) → thread_at s' u ≡ thread_at s u

-- A RETURN of thread t, which has no children; of the other frames a word may change
pub record Ending (j : Job) (s s' : State) (t : ℕ) : Type 0 where
  pub used : Used s t
  pub childless : Childless s t
  pub gone : thread_at s' t ≡ blank_thread
  pub others : (u : ℕ) → (u ≡ t → ⊥) → Like (thread_at s u) (thread_at s' u)
  pub tops : s'.store.tops ≡ popped_tops s.store.tops (thread_at s t).origin.base
  pub free : s'.queues.free_stacklets ≡ stacklets_without (thread_at s t).origin.base s.queues.free_stacklets
  pub words : (i : ℕ) → IsFreeWord j s' i → get_or s'.store.words i 0 ≡ get_or (wiped s.store.words (thread_at s t).origin.base (size_at j s t)) i 0

pub data Change (j : Job) (s s' : State) : Type 0 where
  steady : Steady j s s' → Change j s s'
  birth : (t n r d x cut : ℕ) → Birth j s s' t n r d x cut → Change j s s'
  ending : (t : ℕ) → Ending j s s' t → Change j s s'

-- after a fork a thread is the child, or one that stays
pub data Family (s s' : State) (n : ℕ) (child : Thread) (u : ℕ) : Type 0 where
  newborn : u ≡ n → thread_at s' u ≡ child → Family s s' n child u
  elder : (u ≡ n → ⊥) → Stays (thread_at s u) (thread_at s' u) → Family s s' n child u

module _ {j : Job} {s s' : State} {t n r d x cut : ℕ} (b : Birth j s s' t n r d x cut) where
  abbrev pub child_of_birth : Thread
  child_of_birth = new_thread (origin_of r t d (base_on s.store.tops x)) b.status b.connected (child_of (thread_at s t).family.window cut)

  pub family : (u : ℕ) → Family s s' n child_of_birth u
  family u = go (ℕ_discrete u n) (ℕ_discrete u t)
    where
      go : Dec (u ≡ n) → Dec (u ≡ t) → Family s s' n child_of_birth u
      go (yes e) _ = newborn e (rw e b.child)
      go (no e) (yes q) = elder e (rw q b.parent)
      go (no e) (no q) = elder e (like-same (b.others u q e)).stays

  -- a thread in use before is not the child, and stays
  pub not-newborn : (u : ℕ) → Used s u → u ≡ n → ⊥
  not-newborn u h e = let z : status_at s u ≡ 0 = rw e b.unused in omega arith

  pub elder-stays : (u : ℕ) → Used s u → Stays (thread_at s u) (thread_at s' u)
  elder-stays u h = go (family u)
    where
      go : Family s s' n child_of_birth u → Stays (thread_at s u) (thread_at s' u)
      go (newborn e _) = absurd (not-newborn u h e)
      go (elder _ k) = k

-- after a return a thread in use is another one, and was in use
pub survivor : {j : Job} (s s' : State) (t : ℕ) → Ending j s s' t → (u : ℕ) → Used s' u → (u ≡ t → ⊥) × Like (thread_at s u) (thread_at s' u)
survivor s s' t f u h = go (ℕ_discrete u t)
  where
    go : Dec (u ≡ t) → (u ≡ t → ⊥) × Like (thread_at s u) (thread_at s' u)
    go (yes e) = let z : status_at s' u ≡ 0 = rw (e, f.gone) in absurd (omega arith)
    go (no n) = (n, f.others u n)
