-- Every entry keeps each thread at a command's start of its routine, its numbers in range, and a waiting thread at its join: said of one
-- record, and shown of each record that a rule writes. Assumes nothing.
use mathlib.Core.Bool.{Bool, true, false, cond}
use mathlib.Core.List.{List}
use mathlib.Core.Path.{◌≡◌, refl, sym, ◌∙◌, ap}
use Prim.Native.Nat.{ℕ, ◌<◌}
use native.Mathlib.Decide.{ℕ_discrete, dec_lt}
use native.Mathlib.Omega.{arith}
use lib.ListN.{get_or, set, length}
use lib.Seq.{get_or-set_same, get_or-set_other, set_out}
use Rattle.image.specs.Layout.{routine_count, code_of}
use Rattle.image.specs.Code.{commands_of, is_start}
use Rattle.image.proofs.Accepted.{Accepts, accepted}
use Rattle.image.proofs.Laws.{slots-most, start-good}
use Rattle.schedule.specs.declared.Entry.{Entry}
use Rattle.window.specs.Rights.{child_of, rest_of}
use Rattle.stacklets.specs.Tops.{base_on}
use Rattle.thread.specs.declared.Thread.{Thread}
use Rattle.thread.specs.declared.Status.{Status}
use Rattle.thread.specs.declared.Status.TheVariants.{Running, Ready, Suspended, Waiting}
use Rattle.thread.specs.declared.Effect.TheVariants.{Sets, Loads, Stores, Goes, Continues, Lforks, Forks, Joins, Suspends, Yields, Shares}
use Rattle.thread.specs.Thread.{status_number, blank_thread, origin_of, new_thread, with_status, disconnected, moved_to, joined_at, shared_at, behind_fork, without_child, is_root, none}
use Rattle.rules.specs.declared.ForkKind.{ForkKind}
use Rattle.rules.specs.declared.ForkKind.TheVariants.{Called, Queued, Stolen}
use Rattle.rules.specs.State.{Job, State, finished, thread_at}
use Rattle.rules.specs.Update.{set_thread, set_core, set_outcome}
use Rattle.rules.specs.Turn.{byte_of, turn_at, goes_on}
use Rattle.rules.specs.Leave.{runs, leaves}
use Rattle.rules.specs.Fork.{born, is_connected, child_status, parent_status}
use Rattle.rules.specs.Return.{freed, wakes, status_after, return_to_parent, return_of}
use Rattle.rules.specs.Rules.{entry_of}
use Rattle.rules.specs.Sound.{Sound, Positioned, Used, status_at}
use Rattle.soundness.proofs.Entries.{Kept, Stepped, entry-by}
use Rattle.soundness.proofs.Changes.{used-below}
use Rattle.soundness.proofs.CommandMet.{MetAt}
use Rattle.soundness.proofs.Parts.{runs as thread-runs}
use Rattle.soundness.proofs.ThreadsMet.{runner, waiter-used, taken-used, lent-used, parent-used, linked-parent, step-met, seed-met}
use Rattle.soundness.proofs.Pending.{pending-bound}

-- a record, if it is in use
pub record WellPlaced (j : Job) (h : Thread) : Type 0 where
  pub routine : h.origin.routine < routine_count j.image
  pub position : is_start (commands_of (code_of j.image h.origin.routine)) h.position ≡ true
  pub pending : h.family.pending < 65536
  pub result : h.origin.result < 16
  pub join : status_number h.status ≡ 4 → byte_of j h ≡ 10

abbrev pub Good : Job → Thread → Type 0
Good j h = 0 < status_number h.status → WellPlaced j h

pub placed-good : (j : Job) (s : State) → Positioned j s → (u : ℕ) → Good j (thread_at s u)
placed-good j s p u h = record { routine = p.routine u h; position = p.position u h; pending = p.pending u h; result = p.result u h; join = p.join u }

pub good_placed : (j : Job) (s : State) → ((u : ℕ) → Good j (thread_at s u)) → Positioned j s
good_placed j s f = record {
  routine = λ u h. (f u h).routine;
  position = λ u h. (f u h).position;
  pending = λ u h. (f u h).pending;
  result = λ u h. (f u h).result;
  join = λ u e. (f u (omega arith)).join e;
}

-- a table in which one record was replaced by a good one
good-replaced : (j : Job) (ts : List Thread) → ((u : ℕ) → Good j (get_or ts u blank_thread)) → (t : ℕ) (h : Thread) → Good j h
    → (u : ℕ) → Good j (get_or (set ts t h) u blank_thread)
good-replaced j ts f t h g u = go (ℕ_discrete u t) (dec_lt t (length ts))
  where
    go : Dec (u ≡ t) → Dec (t < length ts) → Good j (get_or (set ts t h) u blank_thread)
    go (yes e) (yes b) = rw (e, get_or-set_same ts t h blank_thread b) g
    go (yes e) (no b) = rw (set_out ts t h (omega arith)) (f u)
    go (no n) _ = rw (get_or-set_other ts t u h blank_thread n) (f u)

-- another status than waiting
good-status : (j : Job) (h : Thread) (status : Status) → WellPlaced j h → (status_number status ≡ 4 → byte_of j h ≡ 10) → Good j (with_status status h)
good-status j h status g b u = record { routine = g.routine; position = g.position; pending = g.pending; result = g.result; join = b }

good-leaves : (j : Job) (s : State) → ((u : ℕ) → Good j (thread_at s u)) → (c t : ℕ) (status : Status) → Used s t → (status_number status ≡ 4 → byte_of j (thread_at s t) ≡ 10)
    → ((thread_at s t).connected ≡ true → Used s (thread_at s t).origin.parent) → (0 < status_number status)
    → (u : ℕ) → Good j (thread_at (leaves c t status s) u)
unfolding leaves
good-leaves j s f c t status h b p l u = go (thread_at s t).connected p
  where
    s1 : State
    s1 = set_thread t (disconnected status (thread_at s t)) s

    off : (u : ℕ) → Good j (thread_at s1 u)
    off = good-replaced j s.threads f t (disconnected status (thread_at s t)) (λ _. let g = f t h in
        record { routine = g.routine; position = g.position; pending = g.pending; result = g.result; join = b })

    used : (u : ℕ) → Used s u → Used s1 u
    used u k = go (ℕ_discrete u t)
      where
        go : Dec (u ≡ t) → Used s1 u
        go (yes e) = rw (e, get_or-set_same s.threads t (disconnected status (thread_at s t)) blank_thread (used-below s t h)) l
        go (no n) = rw (get_or-set_other s.threads t u (disconnected status (thread_at s t)) blank_thread n) k

    go : (b : Bool) → (b ≡ true → Used s (thread_at s t).origin.parent) → Good j (thread_at (cond b (runs c (thread_at s t).origin.parent s1) (set_core c none s1)) u)
    go true p = good-replaced j s1.threads off (thread_at s t).origin.parent (with_status Running (thread_at s1 (thread_at s t).origin.parent))
        (good-status j (thread_at s1 (thread_at s t).origin.parent) Running (off (thread_at s t).origin.parent (used (thread_at s t).origin.parent (p refl))) (λ e. absurd (omega arith))) u
    go false p = off u

module _ (j : Job) (s : State) (ok : Sound j s) where
  all : (u : ℕ) → Good j (thread_at s u)
  all = placed-good j s ok.placed

  running : (c t : ℕ) → Stepped j s c t → status_at s t ≡ 1
  running c t k = thread-runs j s ok c t k.core k.seat k.low

  -- a thread that stands at another command's start
  good-moved : (c t p : ℕ) → Stepped j s c t → is_start (commands_of (code_of j.image (thread_at s t).origin.routine)) p ≡ true
      → (u : ℕ) → Good j (get_or (set s.threads t (moved_to p (thread_at s t))) u blank_thread)
  good-moved c t p k e = good-replaced j s.threads all t (moved_to p (thread_at s t)) (λ h. let g = all t h in
      record { routine = g.routine; position = e; pending = g.pending; result = g.result; join = λ q. let z = running c t k in absurd (omega arith) })

  moved-placed : (c t p : ℕ) (s' : State) → Stepped j s c t → is_start (commands_of (code_of j.image (thread_at s t).origin.routine)) p ≡ true
      → s'.threads ≡ set s.threads t (moved_to p (thread_at s t)) → Positioned j s'
  moved-placed c t p s' k e threads = good_placed j s' (λ u. rw threads (good-moved c t p k e u))

  same-placed : (s' : State) → s'.threads ≡ s.threads → Positioned j s'
  same-placed s' threads = good_placed j s' (λ u. rw threads (all u))

  status-placed : (t : ℕ) (status : Status) (s' : State) → Used s t → (status_number status ≡ 4 → ⊥) → s'.threads ≡ set s.threads t (with_status status (thread_at s t)) → Positioned j s'
  status-placed t status s' h n threads = good_placed j s' (λ u. rw threads
      (good-replaced j s.threads all t (with_status status (thread_at s t)) (good-status j (thread_at s t) status (all t h) (λ e. absurd (n e))) u))

  -- the command is done, and the thread leaves its core
  good-done-leaves : (c t : ℕ) (status : Status) → Stepped j s c t
      → is_start (commands_of (code_of j.image (thread_at s t).origin.routine)) (turn_at j s c t).next ≡ true → 0 < status_number status → (status_number status ≡ 4 → ⊥)
      → (u : ℕ) → Good j (thread_at (leaves c t status (goes_on (turn_at j s c t) s)) u)
  good-done-leaves c t status k e l n =
      good-leaves j s1 (good-moved c t (turn_at j s c t).next k e) c t status (still t h) (λ q. absurd (n q)) linked l
    where
      s1 : State
      s1 = goes_on (turn_at j s c t) s

      h : Used s t
      h = runner j s ok c t k

      here : thread_at s1 t ≡ moved_to (turn_at j s c t).next (thread_at s t)
      here = get_or-set_same s.threads t (moved_to (turn_at j s c t).next (thread_at s t)) blank_thread (used-below s t h)

      still : (u : ℕ) → Used s u → Used s1 u
      still u w = go (ℕ_discrete u t)
        where
          go : Dec (u ≡ t) → Used s1 u
          go (yes q) = rw (q, here) h
          go (no q) = rw (get_or-set_other s.threads t u (moved_to (turn_at j s c t).next (thread_at s t)) blank_thread q) w

      linked : (thread_at s1 t).connected ≡ true → Used s1 (thread_at s1 t).origin.parent
      linked q = rw (ap (λ g. g.origin.parent) here) (still (thread_at s t).origin.parent (linked-parent j s ok t (sym (ap (λ g. g.connected) here) ∙ q)))

  -- a fork of any kind
  fork-placed : (kind : ForkKind) (t r d a e n x next : ℕ) (s' : State) → Used s t → MetAt j s t (Lforks r d a e)
      → is_start (commands_of (code_of j.image (thread_at s t).origin.routine)) next ≡ true
      → s'.threads ≡ set (set s.threads t (behind_fork (parent_status kind) next d (rest_of (thread_at s t).family.window e) (thread_at s t)))
      n (new_thread (origin_of r t d (base_on s.store.tops x)) (child_status kind) (is_connected kind) (child_of (thread_at s t).family.window e))
      → Positioned j s'
  fork-placed kind t r d a e n x next s' h m st threads = good_placed j s' (λ u. rw threads
      (good-replaced j (set s.threads t p) (good-replaced j s.threads all t p (λ _. parent)) n q (λ _. child) u))
    where
      p : Thread
      p = behind_fork (parent_status kind) next d (rest_of (thread_at s t).family.window e) (thread_at s t)

      q : Thread
      q = new_thread (origin_of r t d (base_on s.store.tops x)) (child_status kind) (is_connected kind) (child_of (thread_at s t).family.window e)

      good : Accepts j.image
      good = accepted j.image ok.job.image

      d16 : d < 16
      d16 = let z = slots-most j.image good (thread_at s t).origin.routine (ok.placed.routine t h) in let y = m.0.result in omega arith

      parent-runs : (kind : ForkKind) → status_number (parent_status kind) ≡ 4 → ⊥
      parent-runs Called z = omega arith
      parent-runs Queued z = omega arith
      parent-runs Stolen z = omega arith

      child-runs : (kind : ForkKind) → status_number (child_status kind) ≡ 4 → ⊥
      child-runs Called z = omega arith
      child-runs Queued z = omega arith
      child-runs Stolen z = omega arith

      parent : WellPlaced j p
      parent = let g = all t h in record {
        routine = g.routine;
        position = st;
        pending = pending-bound (thread_at s t).family.pending d g.pending d16;
        result = g.result;
        join = λ z. absurd (parent-runs kind z);
      }

      child : WellPlaced j q
      child = record {
        routine = m.0.routine;
        position = start-good j.image good r m.0.routine;
        pending = omega arith;
        result = d16;
        join = λ z. absurd (child-runs kind z);
      }

  -- a parent whose child has returned still stands at its join if it still waits
  good-parent : (b : Bool) (q : Thread) → Good j q → 0 < status_number q.status → Good j (without_child (status_after b q) q)
  unfolding status_after
  good-parent b q f h _ = go b
    where
      g : WellPlaced j q
      g = f h

      with-status : (status : Status) → (status_number status ≡ 4 → byte_of j q ≡ 10) → WellPlaced j (without_child status q)
      with-status status b = record { routine = g.routine; position = g.position; pending = g.pending; result = g.result; join = b }

      woken : (w : Bool) → WellPlaced j (without_child (cond w Ready q.status) q)
      woken true = with-status Ready (λ z. absurd (omega arith))
      woken false = with-status q.status g.join

      go : (b : Bool) → WellPlaced j (without_child (cond b Running (cond (wakes b q) Ready q.status)) q)
      go true = with-status Running (λ z. absurd (omega arith))
      go false = woken (wakes false q)

  return-placed : (c t v : ℕ) → Stepped j s c t → Positioned j (return_of j s (turn_at j s c t) v)
  unfolding return_of return_to_parent
  return-placed c t v k = go (is_root (thread_at s t)) refl
    where
      h : Used s t
      h = runner j s ok c t k

      p : ℕ
      p = (thread_at s t).origin.parent

      q : Thread
      q = thread_at s (thread_at s t).origin.parent

      freed-good : (u : ℕ) → Good j (get_or (set s.threads t blank_thread) u blank_thread)
      freed-good = good-replaced j s.threads all t blank_thread (λ z. absurd (omega arith))

      go : (b : Bool) → is_root (thread_at s t) ≡ b
          → Positioned j (cond b (set_outcome (finished v) (set_core c none (freed j (turn_at j s c t) s))) (return_to_parent j s (turn_at j s c t) (thread_at s t).origin.parent (thread_at s (thread_at s t).origin.parent) v))
      go true r = good_placed j _ freed-good
      go false r = good_placed j _ (good-replaced j (set s.threads t blank_thread) freed-good p (without_child (status_after (thread_at s t).connected q) q)
          (good-parent (thread_at s t).connected q (all p) (parent-used j s ok t h r)))

  placed-kept : Kept (Positioned j) j s
  unfolding born
  placed-kept = record {
    unchanged = ok.placed;
    fault = λ t n g l e. same-placed _ refl;
    waiting = λ c t k. good_placed j _ (good-leaves j s all c t Waiting (waiter-used j s ok c t k) (λ _. k.byte) (linked-parent j s ok t) (omega arith));
    sets = λ c t k d v e. moved-placed c t _ _ k (step-met j s ok c t k (Sets d v) e).1 refl;
    loads = λ c t k d a e. moved-placed c t _ _ k (step-met j s ok c t k (Loads d a) e).1 refl;
    stores = λ c t k a v e. moved-placed c t _ _ k (step-met j s ok c t k (Stores a v) e) refl;
    goes = λ c t k p e. moved-placed c t p _ k (step-met j s ok c t k (Goes p) e) refl;
    continues = λ c t k e. moved-placed c t _ _ k (step-met j s ok c t k Continues e) refl;
    lforks = λ c t k r d a e q n ns x xs f.
        fork-placed Called t r d a e n x _ _ (runner j s ok c t k) (step-met j s ok c t k (Lforks r d a e) q) (step-met j s ok c t k (Lforks r d a e) q).1 refl;
    forks = λ c t k r d a e q n ns x xs f.
        fork-placed Queued t r d a e n x _ _ (runner j s ok c t k) (step-met j s ok c t k (Forks r d a e) q) (step-met j s ok c t k (Forks r d a e) q).1 refl;
    joins = λ c t k e. good_placed j _ (good-replaced j s.threads all t (joined_at (turn_at j s c t).next (thread_at s t)) (λ h. let g = all t h in
        record { routine = g.routine; position = step-met j s ok c t k Joins e; pending = omega arith; result = g.result; join = λ q. let z = running c t k in absurd (omega arith) }));
    suspends = λ c t k e. good_placed j _ (good-done-leaves c t Suspended k (step-met j s ok c t k Suspends e) (omega arith) (λ z. omega arith));
    yields = λ c t k e. good_placed j _ (good-done-leaves c t Ready k (step-met j s ok c t k Yields e) (omega arith) (λ z. omega arith));
    returns = λ c t k v e. return-placed c t v k;
    shares = λ c t k x e. good_placed j _ (good-replaced j s.threads all t (shared_at (turn_at j s c t).next x (thread_at s t)) (λ h. let g = all t h in
        record { routine = g.routine; position = (step-met j s ok c t k (Shares x) e).1; pending = g.pending; result = g.result; join = λ q. let z = running c t k in absurd (omega arith) }));
    takes = λ c t ts k. status-placed t Running _ (taken-used j s ok c t ts k) (λ z. omega arith) refl;
    steals = λ c t k r d a e q n ns x xs f. let m = seed-met j s ok c t k r d a e q in fork-placed Stolen t r d a e n x _ _ (lent-used j s ok c t k) m m.1 refl;
    enables = λ t k. status-placed t Ready _ (let z = k.suspended in omega arith) (λ z. omega arith) refl;
  }

  -- every entry keeps threads at their places
  pub keep-placed : (e : Entry) → Positioned j (entry_of j s e).state
  keep-placed = entry-by (Positioned j) j s placed-kept
