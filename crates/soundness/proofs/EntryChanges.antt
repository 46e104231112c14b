-- Every entry, whatever its log byte, changes frames and windows in one of three ways (`entry-change`). Assumes nothing.
use mathlib.Core.Bool.{Bool, true, false, cond, ◌&&◌}
use mathlib.Core.List.{List, ◌∷◌}
use mathlib.Core.Logic.{◌⊎◌, ⊎_elim}
use mathlib.Core.Path.{◌≡◌, refl, sym, ◌∙◌, ap}
use Prim.Native.Nat.{ℕ, ◌+◌, ◌/◌, ◌≤◌, ◌<◌}
use native.Mathlib.Decide.{ℕ_discrete}
use native.Mathlib.Omega.{arith}
use lib.ListN.{get_or, set, length, length-set}
use lib.Seq.{get_or-set_same, get_or-set_other}
use Rattle.command.proofs.Bools.{both}
use Rattle.image.specs.Layout.{slots_of}
use Rattle.image.proofs.Accepted.{Accepts, accepted}
use Rattle.image.proofs.Laws.{slots-most}
use Rattle.schedule.specs.declared.Entry.{Entry}
use Rattle.window.specs.Rights.{child_of, rest_of}
use Rattle.stacklets.specs.Tops.{top_at, base_on, fits_on, is_topmost, pushed_tops}
use Rattle.stacklets.specs.Frames.{wiped, pushed_words}
use Rattle.stacklets.proofs.Places.{fits-yes, topmost-base}
use Rattle.thread.specs.declared.Thread.{Thread}
use Rattle.thread.specs.declared.Status.{Status}
use Rattle.thread.specs.declared.Status.TheVariants.{Running, Ready, Suspended, Waiting}
use Rattle.thread.specs.declared.Effect.TheVariants.{Sets, Loads, Lforks, Forks, Joins, Returns, Shares}
use Rattle.thread.specs.Thread.{status_number, blank_thread, origin_of, new_thread, with_status, disconnected, moved_to, joined_at, shared_at, behind_fork, without_child, is_root, none}
use Rattle.rules.proofs.Laws.{child-in-use, parent-in-use}
use Rattle.rules.specs.declared.ForkKind.{ForkKind}
use Rattle.rules.specs.declared.ForkKind.TheVariants.{Called, Queued, Stolen}
use Rattle.rules.specs.State.{Job, State, going, finished, thread_at}
use Rattle.rules.specs.Update.{set_thread, set_core, set_outcome}
use Rattle.rules.specs.Turn.{effect_at, turn_at, completed, goes_on}
use Rattle.rules.specs.Leave.{runs, leaves}
use Rattle.rules.specs.Fork.{born, goes_above, is_connected, child_status, parent_status}
use Rattle.rules.specs.Return.{freed, wakes, status_after, return_to_parent, return_of}
use Rattle.rules.specs.Rules.{entry_of}
use Rattle.rules.specs.Lists.{Every}
use Rattle.rules.specs.Sound.{Sound, Used, Unused, status_at, size_at, window_held, IsFreeWord}
use Rattle.soundness.proofs.Entries.{Kept, Stepped, Forked, Chosen, above, on_free, entry-by}
use Rattle.soundness.proofs.Changes.{used-below}
use Rattle.soundness.proofs.CommandMet.{MetAt}
use Rattle.soundness.proofs.FrameChanges.{Stays, Like, stays-refl, like-same, like-trans, like-used, like-replaced, Turned, kept, rejoins, shares, NewPlace, above_parent, on_new, Change, steady, birth, ending}
use Rattle.soundness.proofs.ForkTree.{Childless}
use Rattle.soundness.proofs.Parts.{return-childless, join-childless}
use Rattle.soundness.proofs.ThreadsMet.{runner, waiter-used, taken-used, lent-used, parent-used, child-not-first, linked-parent, step-met, seed-met}

-- CHANGES OF STATUS AND PLACE: threads that leave a core, run, or go on
liking : (j : Job) (s s' : State) → ((u : ℕ) → Like (thread_at s u) (thread_at s' u)) → s'.store.tops ≡ s.store.tops → s'.queues.free_stacklets ≡ s.queues.free_stacklets
    → ((i : ℕ) → IsFreeWord j s i → get_or s'.store.words i 0 ≡ get_or s.store.words i 0) → Change j s s'
liking j s s' like tops free words = steady (record {
  stays = λ u. (like u).stays;
  window = λ u. kept (like u).window;
  tops = tops;
  free = free;
  words = words;
})

like-status : (s : State) (t : ℕ) (status : Status) → Used s t → 0 < status_number status
    → (u : ℕ) → Like (thread_at s u) (thread_at (set_thread t (with_status status (thread_at s t)) s) u)
like-status s t status h k = like-replaced s.threads t (with_status status (thread_at s t)) (like-used h k refl refl refl refl refl)

like-leaves : (s : State) (c t : ℕ) (status : Status) → Used s t → 0 < status_number status → ((thread_at s t).connected ≡ true → Used s (thread_at s t).origin.parent)
    → (u : ℕ) → Like (thread_at s u) (thread_at (leaves c t status s) u)
unfolding leaves
like-leaves s c t status h k p u = go (thread_at s t).connected p
  where
    s1 : State
    s1 = set_thread t (disconnected status (thread_at s t)) s

    off : (u : ℕ) → Like (thread_at s u) (thread_at s1 u)
    off = like-replaced s.threads t (disconnected status (thread_at s t)) (like-used h k refl refl refl refl refl)

    go : (b : Bool) → (b ≡ true → Used s (thread_at s t).origin.parent)
        → Like (thread_at s u) (thread_at (cond b (runs c (thread_at s t).origin.parent s1) (set_core c none s1)) u)
    go true p = like-trans (off u) (like-status s1 (thread_at s t).origin.parent Running ((off (thread_at s t).origin.parent).stays.still (p refl)) (omega arith) u)
    go false p = off u

leaves-store : (c t : ℕ) (status : Status) (s : State) → (leaves c t status s).store ≡ s.store
unfolding leaves
leaves-store c t status s = go (thread_at s t).connected
  where
    go : (b : Bool) → (cond b (runs c (thread_at s t).origin.parent (set_thread t (disconnected status (thread_at s t)) s)) (set_core c none (set_thread t (disconnected status (thread_at s t)) s))).store ≡ s.store
    go true = refl
    go false = refl

leaves-tops : (c t : ℕ) (status : Status) (s : State) → (leaves c t status s).store.tops ≡ s.store.tops
leaves-tops c t status s = ap (λ x. x.tops) (leaves-store c t status s)

leaves_word : (c t : ℕ) (status : Status) (s : State) (i : ℕ) → get_or (leaves c t status s).store.words i 0 ≡ get_or s.store.words i 0
leaves_word c t status s i = ap (λ x. get_or x.words i 0) (leaves-store c t status s)

leaves_free : (c t : ℕ) (status : Status) (s : State) → (leaves c t status s).queues.free_stacklets ≡ s.queues.free_stacklets
unfolding leaves
leaves_free c t status s = go (thread_at s t).connected
  where
    go : (b : Bool) → (cond b (runs c (thread_at s t).origin.parent (set_thread t (disconnected status (thread_at s t)) s)) (set_core c none (set_thread t (disconnected status (thread_at s t)) s))).queues.free_stacklets
        ≡ s.queues.free_stacklets
    go true = refl
    go false = refl

-- of a sound state
module _ (j : Job) (s : State) (ok : Sound j s) where
  like-moved : (t p : ℕ) (u : ℕ) → Like (thread_at s u) (get_or (set s.threads t (moved_to p (thread_at s t))) u blank_thread)
  like-moved t p = like-replaced s.threads t (moved_to p (thread_at s t)) (record {
    stays = record { routine = refl; parent = refl; result = refl; base = refl; was = λ u. u; still = λ u. u };
    window = refl;
  })

  -- the command is completed, and the thread leaves its core
  done-leaves : (c t : ℕ) (status : Status) → Stepped j s c t → 0 < status_number status
      → (u : ℕ) → Like (thread_at s u) (thread_at (leaves c t status (goes_on (turn_at j s c t) s)) u)
  done-leaves c t status k l u =
      like-trans (like-moved t (turn_at j s c t).next u)
      (like-leaves (goes_on (turn_at j s c t) s) c t status ((like-moved t (turn_at j s c t).next t).stays.still (runner j s ok c t k)) l still-linked u)
    where
      here : thread_at (goes_on (turn_at j s c t) s) t ≡ moved_to (turn_at j s c t).next (thread_at s t)
      here = get_or-set_same s.threads t (moved_to (turn_at j s c t).next (thread_at s t)) blank_thread (used-below s t (runner j s ok c t k))

      still-linked : (thread_at (goes_on (turn_at j s c t) s) t).connected ≡ true → Used (goes_on (turn_at j s c t) s) (thread_at (goes_on (turn_at j s c t) s) t).origin.parent
      still-linked e = rw (ap (λ h. h.origin.parent) here) ((like-moved t (turn_at j s c t).next (thread_at s t).origin.parent).stays.still
          (linked-parent j s ok t (sym (ap (λ h. h.connected) here) ∙ e)))

  -- a thread's window changes, and its frame stays
  window-change : (c t : ℕ) (h' : Thread) → Stepped j s c t → Stays (thread_at s t) h' → Turned (window_held s t) h'.family.window (Childless s t)
      → Change j s (completed (turn_at j s c t) h' s)
  window-change c t h' k stays turned = steady (record {
    stays = λ u. (view u (ℕ_discrete u t)).0;
    window = λ u. (view u (ℕ_discrete u t)).1;
    tops = refl;
    free = refl;
    words = λ i w. refl;
  })
    where
      Seen : ℕ → Thread → Type 0
      Seen u g = Stays (thread_at s u) g × Turned (window_held s u) g.family.window (Childless s u)

      view : (u : ℕ) → Dec (u ≡ t) → Seen u (get_or (set s.threads t h') u blank_thread)
      view u (yes q) = rw (q, get_or-set_same s.threads t h' blank_thread (used-below s t (runner j s ok c t k))) (stays, turned)
      view u (no n) = rw (get_or-set_other s.threads t u h' blank_thread n) (stays-refl (thread_at s u), kept refl)

  -- a join that passes
  join-change : (c t : ℕ) → Stepped j s c t → effect_at j s (thread_at s t) ≡ Joins
      → Change j s (completed (turn_at j s c t) (joined_at (turn_at j s c t).next (thread_at s t)) s)
  join-change c t k e = window-change c t (joined_at (turn_at j s c t).next (thread_at s t)) k
      (record { routine = refl; parent = refl; result = refl; base = refl; was = λ x. x; still = λ x. x }) (rejoins refl (join-childless j s ok c t k e))

  -- a 0E
  share-change : (c t x : ℕ) → Stepped j s c t → effect_at j s (thread_at s t) ≡ Shares x
      → Change j s (completed (turn_at j s c t) (shared_at (turn_at j s c t).next x (thread_at s t)) s)
  share-change c t x k e = let m = (step-met j s ok c t k (Shares x) e).0 in
      window-change c t (shared_at (turn_at j s c t).next x (thread_at s t)) k
      (record { routine = refl; parent = refl; result = refl; base = refl; was = λ x. x; still = λ x. x }) (shares x m.low m.high refl)

  -- what goes above its parent's frame finds it topmost, and fits
  goes-above : (kind : ForkKind) (t r : ℕ) → goes_above j s kind (thread_at s t) r ≡ true
      → (is_topmost s.store.tops (thread_at s t).origin.base (size_at j s t) ≡ true) × (fits_on s.store.tops ((thread_at s t).origin.base / 64) (slots_of j.image r) ≡ true)
  unfolding goes_above
  goes-above kind t r g =
      both _ _ (both (is_connected kind) (is_topmost s.store.tops (thread_at s t).origin.base (size_at j s t) && fits_on s.store.tops ((thread_at s t).origin.base / 64) (slots_of j.image r)) g).1

  -- a fork of any kind: s' is the state with the child
  fork-change : (kind : ForkKind) (c t r d a e n : ℕ) (ns : List ℕ) (x : ℕ) (xs : List ℕ) (s' : State) → s.outcome ≡ going → Used s t
      → MetAt j s t (Lforks r d a e) → Forked j s kind (thread_at s t) r n ns x xs
      → s'.threads ≡ set (set s.threads t (behind_fork (parent_status kind) (turn_at j s c t).next d (rest_of (thread_at s t).family.window e) (thread_at s t)))
      n (new_thread (origin_of r t d (base_on s.store.tops x)) (child_status kind) (is_connected kind) (child_of (thread_at s t).family.window e))
      → s'.store.tops ≡ pushed_tops s.store.tops x (slots_of j.image r) → s'.queues.free_stacklets ≡ xs
      → (vs : List ℕ) → s'.store.words ≡ pushed_words s.store.tops s.store.words x (slots_of j.image r) vs → Change j s s'
  fork-change kind c t r d a e n ns x xs s' ongoing h m f threads tops free vs words = birth t n r d x e (record {
    parent-used = h;
    number = number;
    unused = unused;
    not_root = λ z. let y = ok.tree.root (λ v q. unfinished v (sym ongoing ∙ q)) in let w : status_at s 0 ≡ 0 = rw z at unused in omega arith;
    routine = m.0.routine;
    slot = m.0.result;
    low = m.0.low;
    high = m.0.high;
    fit = spot.0;
    place = spot.1;
    tops = tops;
    arguments = vs;
    words = words;
    status = child_status kind;
    connected = is_connected kind;
    used = child-in-use kind;
    child = rw threads (get_or-set_same (set s.threads t p) n q blank_thread (let l = length-set s.threads t p in let k = ok.sized.threads in omega (arith, number)));
    parent = rw parent (record { routine = refl; parent = refl; result = refl; base = refl; was = λ _. h; still = λ _. parent-in-use kind });
    rest = rw parent;
    others = λ u a b. rw threads (get_or-set_other (set s.threads t p) n u q blank_thread b ∙ get_or-set_other s.threads t u p blank_thread a);
  })
    where
      p : Thread
      p = behind_fork (parent_status kind) (turn_at j s c t).next d (rest_of (thread_at s t).family.window e) (thread_at s t)

      q : Thread
      q = new_thread (origin_of r t d (base_on s.store.tops x)) (child_status kind) (is_connected kind) (child_of (thread_at s t).family.window e)

      head : (n < 32) × (status_at s n ≡ 0)
      head = let all : Every (λ y. (y < 32) × (status_at s y ≡ 0)) (n ∷ ns) = rw f.number at ok.free_threads.free in all.0

      number : n < 32
      number = head.0

      unused : status_at s n ≡ 0
      unused = head.1

      unfinished : (v : ℕ) → going ≡ finished v → ⊥
      unfinished v q = let z : ◌≡◌ {A = ℕ} 0 1 = cc in omega arith

      other : t ≡ n → ⊥
      other z = let y : status_at s t ≡ 0 = ap (status_at s) z ∙ unused in omega arith

      parent : thread_at s' t ≡ p
      parent = rw threads (get_or-set_other (set s.threads t p) n t q blank_thread other ∙ get_or-set_same s.threads t p blank_thread (used-below s t h))

      spot : (fits_on s.store.tops x (slots_of j.image r) ≡ true) × NewPlace j s s' t x
      spot = go f.place
        where
          good : Accepts j.image
          good = accepted j.image ok.job.image

          go : Chosen j s kind (thread_at s t) r x xs → (fits_on s.store.tops x (slots_of j.image r) ≡ true) × NewPlace j s s' t x
          go (above g e l) =
              let w = goes-above kind t r g in
              (rw e w.1, above_parent (rw e (topmost-base s.store.tops (thread_at s t).origin.base (size_at j s t) w.0)) e (free ∙ l))
          go (on_free g l) =
              let all : Every (λ y. (y < 16) × (top_at s.store.tops y ≡ 0) × Unused s y) (x ∷ xs) = rw l at ok.free_stacklets.free in
              let w = slots-most j.image good r m.0.routine in
              let v = all.0.1 in
              (fits-yes s.store.tops x (slots_of j.image r) all.0.0 (omega arith), on_new all.0.1 (rw free l))

  -- a parent is in use after its child's return as before
  after-used : (b : Bool) (q : Thread) → 0 < status_number q.status → 0 < status_number (status_after b q)
  unfolding status_after
  after-used true q h = omega arith
  after-used false q h = go (wakes false q)
    where
      go : (w : Bool) → 0 < status_number (cond w Ready q.status)
      go true = omega arith
      go false = h

  -- a return: to the parent, or the root's
  return-change : (c t v : ℕ) → Stepped j s c t → effect_at j s (thread_at s t) ≡ Returns v → Change j s (return_of j s (turn_at j s c t) v)
  unfolding return_of return_to_parent
  return-change c t v k e = go (is_root (thread_at s t)) refl
    where
      h : Used s t
      h = runner j s ok c t k

      alone : Childless s t
      alone = return-childless j s ok c t v k e

      below : t < length s.threads
      below = used-below s t h

      p : ℕ
      p = (thread_at s t).origin.parent

      q : Thread
      q = thread_at s (thread_at s t).origin.parent

      q' : Thread
      q' = without_child (status_after (thread_at s t).connected q) q

      -- the words once the frame is cleared
      ws : List ℕ
      ws = wiped s.store.words (thread_at s t).origin.base (size_at j s t)

      other : Used s p → (u : ℕ) → (u ≡ t → ⊥) → Dec (u ≡ p) → Like (thread_at s u) (get_or (set (set s.threads t blank_thread) p q') u blank_thread)
      other w u n (yes z) = rw (
        z,
        get_or-set_same (set s.threads t blank_thread) p q' blank_thread
            (let l = length-set s.threads t blank_thread in let m = used-below s p w in omega arith),
      )
          (like-used w (after-used (thread_at s t).connected q w) refl refl refl refl refl)
      other w u n (no z) = like-same (get_or-set_other (set s.threads t blank_thread) p u q' blank_thread z ∙ get_or-set_other s.threads t u blank_thread blank_thread n)

      -- the value goes to a slot of the parent's frame, which is no free word
      delivered : is_root (thread_at s t) ≡ false → (i : ℕ)
          → (0 < status_number (get_or (set (set s.threads t blank_thread) p q') p blank_thread).status
          → (i < (get_or (set (set s.threads t blank_thread) p q') p blank_thread).origin.base)
          ⊎ ((get_or (set (set s.threads t blank_thread) p q') p blank_thread).origin.base
          + slots_of j.image (get_or (set (set s.threads t blank_thread) p q') p blank_thread).origin.routine ≤ i))
          → get_or (set ws (q.origin.base + (thread_at s t).origin.result) v) i 0 ≡ get_or ws i 0
      delivered r i w =
          let a = (other (parent-used j s ok t h r) p (alone t h) (yes refl)).stays in
          let l = ok.frames.result t h (child-not-first j s ok t h r) in
          let y : (i < q.origin.base) ⊎ (q.origin.base + size_at j s p ≤ i) = rw (a.base, a.routine) at (w (a.still (parent-used j s ok t h r))) in
          get_or-set_other ws (q.origin.base + (thread_at s t).origin.result) i v 0 (λ e. ⊎_elim (λ z. omega arith) (λ z. omega arith) y)

      go : (b : Bool) → is_root (thread_at s t) ≡ b
          → Change j s (cond b (set_outcome (finished v) (set_core c none (freed j (turn_at j s c t) s))) (return_to_parent j s (turn_at j s c t) (thread_at s t).origin.parent (thread_at s (thread_at s t).origin.parent) v))
      go true r = ending t (record {
        used = h;
        childless = alone;
        gone = get_or-set_same s.threads t blank_thread blank_thread below;
        others = λ u n. like-same (get_or-set_other s.threads t u blank_thread blank_thread n);
        tops = refl;
        free = refl;
        words = λ i w. refl;
      })
      go false r = ending t (record {
        used = h;
        childless = alone;
        gone = get_or-set_other (set s.threads t blank_thread) p t q' blank_thread (λ z. alone t h (sym z))
            ∙ get_or-set_same s.threads t blank_thread blank_thread below;
        others = λ u n. other (parent-used j s ok t h r) u n (ℕ_discrete u p);
        tops = refl;
        free = refl;
        words = λ i w. delivered r i (w p);
      })

  same-change : (s' : State) → s'.threads ≡ s.threads → s'.store.tops ≡ s.store.tops → s'.queues.free_stacklets ≡ s.queues.free_stacklets → s'.store.words ≡ s.store.words → Change j s s'
  same-change s' threads tops free words = liking j s s' (λ u. like-same (ap (λ ts. get_or ts u blank_thread) threads)) tops free (λ i w. ap (λ ws. get_or ws i 0) words)

  -- a thread that stands somewhere else
  moved-change : (t p : ℕ) (s' : State) → s'.threads ≡ set s.threads t (moved_to p (thread_at s t)) → s'.store.tops ≡ s.store.tops → s'.queues.free_stacklets ≡ s.queues.free_stacklets
      → ((i : ℕ) → IsFreeWord j s i → get_or s'.store.words i 0 ≡ get_or s.store.words i 0) → Change j s s'
  moved-change t p s' threads tops free words = liking j s s' (λ u. rw threads (like-moved t p u)) tops free words

  -- a slot that is written is no free word
  slot-change : (c t d v : ℕ) → Stepped j s c t → d < size_at j s t → (i : ℕ) → IsFreeWord j s i
      → get_or (set s.store.words ((thread_at s t).origin.base + d) v) i 0 ≡ get_or s.store.words i 0
  slot-change c t d v k l i w = get_or-set_other s.store.words ((thread_at s t).origin.base + d) i v 0
      (λ e. ⊎_elim (λ a. omega arith) (λ a. omega arith) (w t (runner j s ok c t k)))

  status-change : (t : ℕ) (status : Status) (s' : State) → Used s t → 0 < status_number status → s'.threads ≡ set s.threads t (with_status status (thread_at s t))
      → s'.store.tops ≡ s.store.tops → s'.queues.free_stacklets ≡ s.queues.free_stacklets → s'.store.words ≡ s.store.words → Change j s s'
  status-change t status s' h k threads tops free words = liking j s s' (λ u. rw threads (like-status s t status h k u)) tops free (λ i w. ap (λ ws. get_or ws i 0) words)

  -- ALL CHANGES
  changes : Kept (Change j s) j s
  unfolding born
  changes = record {
    unchanged = same-change s refl refl refl refl;
    fault = λ t n g l e. same-change _ refl refl refl refl;
    waiting = λ c t k. liking j s _ (like-leaves s c t Waiting (waiter-used j s ok c t k) (omega arith) (linked-parent j s ok t)) (leaves-tops c t Waiting s) (leaves_free c t Waiting s) (λ i w. leaves_word c t Waiting s i);
    sets = λ c t k d v e. moved-change t _ _ refl refl refl (slot-change c t d v k (step-met j s ok c t k (Sets d v) e).0);
    loads = λ c t k d a e. moved-change t _ _ refl refl refl (slot-change c t d _ k (step-met j s ok c t k (Loads d a) e).0);
    stores = λ c t k a v e. moved-change t _ _ refl refl refl (λ i w. refl);
    goes = λ c t k p e. moved-change t _ _ refl refl refl (λ i w. refl);
    continues = λ c t k e. moved-change t _ _ refl refl refl (λ i w. refl);
    lforks = λ c t k r d a e q n ns x xs f.
        fork-change Called c t r d a e n ns x xs _ k.ongoing (runner j s ok c t k) (step-met j s ok c t k (Lforks r d a e) q) f refl refl refl _ refl;
    forks = λ c t k r d a e q n ns x xs f.
        fork-change Queued c t r d a e n ns x xs _ k.ongoing (runner j s ok c t k) (step-met j s ok c t k (Forks r d a e) q) f refl refl refl _ refl;
    joins = join-change;
    suspends = λ c t k e. liking j s _ (done-leaves c t Suspended k (omega arith)) (leaves-tops c t Suspended _) (leaves_free c t Suspended _) (λ i w. leaves_word c t Suspended (goes_on (turn_at j s c t) s) i);
    yields = λ c t k e. liking j s _ (done-leaves c t Ready k (omega arith)) (leaves-tops c t Ready _) (leaves_free c t Ready _) (λ i w. leaves_word c t Ready (goes_on (turn_at j s c t) s) i);
    returns = λ c t k v e. return-change c t v k e;
    shares = λ c t k x e. share-change c t x k e;
    takes = λ c t ts k. status-change t Running _ (taken-used j s ok c t ts k) (omega arith) refl refl refl refl;
    steals = λ c t k r d a e q n ns x xs f.
        fork-change Stolen c t r d a e n ns x xs _ k.ongoing (lent-used j s ok c t k) (seed-met j s ok c t k r d a e q) f refl refl refl _ refl;
    enables = λ t k. status-change t Ready _ (let z = k.suspended in omega arith) (omega arith) refl refl refl refl;
  }

  pub entry-change : (e : Entry) → Change j s (entry_of j s e).state
  entry-change = entry-by (Change j s) j s changes
