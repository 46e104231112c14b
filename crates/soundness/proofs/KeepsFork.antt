-- A fork that has a thread number and a place keeps the threads, cores and queues sound: an lfork, a fork, and either as a seed by a
-- steal. Assumes nothing.
use mathlib.Core.Bool.{false}
use mathlib.Core.List.{List, ◌∷◌}
use mathlib.Core.Logic.{◌⊎◌, inl, inr, ⊎_elim}
use mathlib.Core.Path.{◌≡◌, refl, sym, ◌∙◌, ap, subst}
use Prim.Native.Nat.{ℕ, ◌<◌, ◌≤◌}
use native.Mathlib.Omega.{arith}
use lib.ListN.{length, set, length-set}
use Rattle.queue.specs.Contents.{appended, capacity}
use Rattle.window.specs.declared.Window.{Window}
use Rattle.window.specs.Rights.{child_of, rest_of}
use Rattle.stacklets.specs.Tops.{base_on}
use Rattle.thread.specs.declared.Thread.{Thread}
use Rattle.thread.specs.Thread.{origin_of, new_thread, behind_fork, is_pending, status_number, none}
use Rattle.rules.specs.declared.ForkKind.{ForkKind}
use Rattle.rules.specs.declared.ForkKind.TheVariants.{Called, Queued, Stolen}
use Rattle.rules.specs.State.{Job, State, thread_at, on_core}
use Rattle.rules.specs.Turn.{turn_at}
use Rattle.rules.specs.Fork.{asked, child_status, parent_status, is_connected, born, handed}
use Rattle.rules.specs.Sound.{status_at, Used, Seats, Links}
use Rattle.soundness.proofs.Changes.{standing, connected_at, pending_at, two-changed, used_low, used-below}
use Rattle.soundness.proofs.CoreSeats.{Same, same_refl, neither, Seat, came, went, sits, seats-move, seats-same}
use Rattle.soundness.proofs.LentThreads.{Bound, bound-refl, untied, not-both, links-same, Made, fresh, lends, remains, links-made}
use Rattle.soundness.proofs.LineNumbers.{Lined, lined-same, lined-took, lined-gave, lined-turns, turns-lined, lined-free, free-lined}
use Rattle.soundness.proofs.ForkTree.{Unfinished, Stays, stays-refl, tree-born}
use Rattle.soundness.proofs.Pending.{pending-set, pending-stays}
use Rattle.soundness.proofs.ResultSlots.{Pends, results-born}
use Rattle.soundness.proofs.Held.{Held, same-free}

-- a parent runs or is lent, a child runs or is ready
parent-active : (kind : ForkKind) → (status_number (parent_status kind) ≡ 1) ⊎ (status_number (parent_status kind) ≡ 5)
parent-active Called = inr refl
parent-active Queued = inl refl
parent-active Stolen = inr refl

child-active : (kind : ForkKind) → (status_number (child_status kind) ≡ 1) ⊎ (status_number (child_status kind) ≡ 2)
child-active Called = inl refl
child-active Queued = inr refl
child-active Stolen = inl refl

-- thread t forks child n, by any kind of fork: its record and the child's, and the free-thread queue's head is gone
pub record Birth (s s' : State) (kind : ForkKind) (t n d : ℕ) : Type 0 where
  pub left : List ℕ
  pub next : ℕ
  pub routine : ℕ
  pub base : ℕ
  pub rest : Window
  pub part : Window
  pub used : Used s t
  pub head : s.queues.free_threads ≡ n ∷ left
  pub clear : is_pending (pending_at s t) d ≡ false
  pub free : s'.queues.free_threads ≡ left
  pub count : s'.count ≡ s.count
  pub over : Unfinished s
  pub over' : Unfinished s'
  pub threads : s'.threads ≡ set (set s.threads t (behind_fork (parent_status kind) next d rest (thread_at s t))) n
      (new_thread (origin_of routine t d base) (child_status kind) (is_connected kind) part)

module _ (s s' : State) (ok : Held s) (kind : ForkKind) (t n d : ℕ) (b : Birth s s' kind t n d) where
  -- the parent's record and the child's
  abbrev parent_now : Thread
  parent_now = behind_fork (parent_status kind) b.next d b.rest (thread_at s t)

  abbrev child_now : Thread
  child_now = new_thread (origin_of b.routine t d b.base) (child_status kind) (is_connected kind) b.part

  lined : Lined 0 s (n ∷ b.left)
  lined = subst (λ xs. Lined 0 s xs) b.head (free-lined s ok.free_threads)

  low : n < 32
  low = lined.only.0.0

  was_free : status_at s n ≡ 0
  was_free = lined.only.0.1

  apart : ¬ (t ≡ n)
  apart e = let z = was_free in let y = ap (status_at s) e in let x = b.used in omega arith

  n-below : n < length s.threads
  n-below = let m = ok.many in let z = low in omega arith

  -- a relation shown at the parent, at the child and of the rest
  changed : (Q : ℕ → Thread → Thread → Type 0) → ((u : ℕ) → ¬ (u ≡ t) → ¬ (u ≡ n) → Q u (thread_at s u) (thread_at s u))
      → Q t (thread_at s t) parent_now → Q n (thread_at s n) child_now → (u : ℕ) → Q u (thread_at s u) (thread_at s' u)
  changed Q = two-changed s s' Q t _ n _ (used-below s t b.used) n-below apart b.threads

  parent-record : thread_at s' t ≡ parent_now
  parent-record = changed (λ u h h'. u ≡ t → h' ≡ parent_now) (λ u x y e. absurd (x e)) (λ e. refl) (λ e. absurd (apart (sym e))) t refl

  child-record : thread_at s' n ≡ child_now
  child-record = changed (λ u h h'. u ≡ n → h' ≡ child_now) (λ u x y e. absurd (y e)) (λ e. absurd (apart e)) (λ e. refl) n refl

  child-standing : status_at s' n ≡ status_number (child_status kind)
  child-standing = ap standing child-record

  old-stays : (u : ℕ) → ¬ (u ≡ n) → Stays (thread_at s u) (thread_at s' u)
  old-stays = changed (λ u h h'. ¬ (u ≡ n) → Stays h h') (λ u x y m. stays-refl s ok.tree u) (λ m. own) (λ m. absurd (m refl))
    where
      own : Stays (thread_at s t) parent_now
      own = record {
        parent = refl;
        result = refl;
        to = λ h. ⊎_elim (λ e. omega arith) (λ e. omega arith) (parent-active kind);
        from = λ h. b.used;
        waits = λ e. omega arith;
      }

  many-now : length s'.threads ≡ 32
  many-now = rw (b.threads, length-set, length-set) ok.many

  -- seats, links and the ready queue are left to each kind
  held-forked : Seats s' → Links s' → s'.count ≤ length s'.cores → (ready : List ℕ) → s'.queues.ready ≡ ready → Lined 2 s' ready → Held s'
  held-forked seats links wide ready line turns = record {
    many = many-now;
    wide = wide;
    seats = seats;
    links = links;
    turns = lined-turns s' many-now ready line turns;
    tree = tree-born s s' ok.tree t n b.used was_free low b.over b.over' old-stays (ap (λ h. h.family.children) parent-record)
        (changed (λ u h h'. ¬ (u ≡ t) → ¬ (u ≡ n) → h'.family.children ≡ h.family.children) (λ u x y k m. refl) (λ x. absurd (x refl)) (λ x y. absurd (y refl)))
        (child-used (child-active kind)) (ap (λ h. h.origin.parent) child-record) (ap (λ h. h.family.children) child-record)
        (child-awake (child-active kind));
    results = results-born s s' ok.many ok.tree ok.results t n d b.used was_free b.clear old-stays
        (changed (λ u h h'. ¬ (u ≡ n) → Pends h h') (λ u x y m k e. e) (λ m k e. pending-stays (pending_at s t) d k e) (λ m. absurd (m refl)))
        (ap (λ h. h.origin.parent) child-record) (ap (λ h. h.origin.result) child-record)
        (ap (λ h. is_pending h.family.pending d) parent-record ∙ pending-set (pending_at s t) d);
    free_threads = lined-free s' b.left b.free (lined-took 0 s s' n b.left lined
        (λ e. let z = child-used (child-active kind) in omega arith)
        (λ u m. same-free (thread_at s u) (thread_at s' u) (old-stays u m)));
  }
    where
      child-used : (status_number (child_status kind) ≡ 1) ⊎ (status_number (child_status kind) ≡ 2) → Used s' n
      child-used = ⊎_elim (λ e. let z = child-standing in omega arith) (λ e. let z = child-standing in omega arith)

      child-awake : (status_number (child_status kind) ≡ 1) ⊎ (status_number (child_status kind) ≡ 2) → ¬ (status_at s' n ≡ 4)
      child-awake = ⊎_elim (λ e f. let z = child-standing in omega arith) (λ e f. let z = child-standing in omega arith)

  -- where the ready queue stays
  still-lined : ¬ (status_at s t ≡ 2) → ¬ (status_number (parent_status kind) ≡ 2) → ¬ (status_number (child_status kind) ≡ 2) → Lined 2 s' s.queues.ready
  still-lined x y z = lined-same 2 s s' s.queues.ready (turns-lined s ok.many ok.turns)
      (changed (λ u h h'. Same 2 h h') (λ u k m. same_refl 2 (thread_at s u)) (neither 2 (thread_at s t) _ x y)
      (let k = was_free in neither 2 (thread_at s n) _ (λ e. omega arith) z))

  -- where the child is independent and the parent stays what it was
  loose-links : status_number (parent_status kind) ≡ status_at s t → is_connected kind ≡ false → ¬ (status_number (child_status kind) ≡ 5) → Links s'
  loose-links same loose y = links-same s s' ok.links (changed (λ u h h'. Bound h h') (λ u k m. bound-refl s ok.links u) parent child)
    where
      parent : Bound (thread_at s t) parent_now
      parent = record {
        tied = refl;
        parent = λ e. refl;
        lent = record { to = λ e. same ∙ e; from = λ e. sym same ∙ e };
        active = λ e. ⊎_elim (λ z. inl (same ∙ z)) (λ z. inr (same ∙ z)) (ok.links.linked t e).0;
      }

      untied-n : connected_at s n ≡ false
      untied-n = let z = was_free in untied s ok.links n (λ e. omega arith) (λ e. omega arith)

      child : Bound (thread_at s n) child_now
      child = record {
        tied = loose ∙ sym untied-n;
        parent = λ e. absurd (not-both _ e untied-n);
        lent = (let z = was_free in neither 5 (thread_at s n) _ (λ e. omega arith) y);
        active = λ e. absurd (not-both _ e untied-n);
      }

-- AN LFORK by a step: "the child runs on this core, connected; the parent is lent"
held-called : (s s' : State) → Held s → (c t n d : ℕ) → Birth s s' Called t n d → c < s.count → on_core s c ≡ t → status_at s t ≡ 1
    → s'.cores ≡ set s.cores c n → s'.queues.ready ≡ s.queues.ready → Held s'
held-called s s' ok c t n d b l seat running cores ready = held-forked s s' ok Called t n d b
    (seats-move s s' ok.seats ok.wide c n l cores b.count
    (every (λ u h h'. Seat (on_core s c) n u h h') (λ u x y. sits (λ e f. x (f ∙ seat)) (same_refl 1 (thread_at s u)))
    (went (sym seat) (λ e. omega arith)) (came refl))
    (λ m. child-standing s s' ok Called t n d b) (λ m e. let z = was_free s s' ok Called t n d b in omega arith))
    (links-made s s' ok.links t n running (was_free s s' ok Called t n d b)
    (every (λ u h h'. Made t n u h h') (λ u x y. remains y x (bound-refl s ok.links u)) (lends refl refl refl refl)
    (fresh refl refl refl refl)))
    (rw (b.count, cores, length-set) ok.wide) s.queues.ready ready
    (still-lined s s' ok Called t n d b (λ e. omega arith) (λ e. omega arith) (λ e. omega arith))
  where
    every : (Q : ℕ → Thread → Thread → Type 0) → ((u : ℕ) → ¬ (u ≡ t) → ¬ (u ≡ n) → Q u (thread_at s u) (thread_at s u))
        → Q t (thread_at s t) (parent_now s s' ok Called t n d b) → Q n (thread_at s n) (child_now s s' ok Called t n d b)
        → (u : ℕ) → Q u (thread_at s u) (thread_at s' u)
    every = changed s s' ok Called t n d b

-- A STEAL: "its child independent and running on idle core c, .. t staying lent"
held-stolen : (s s' : State) → Held s → (c t n d : ℕ) → Birth s s' Stolen t n d → c < s.count → none ≤ on_core s c → status_at s t ≡ 5
    → s'.cores ≡ set s.cores c n → s'.queues.ready ≡ s.queues.ready → Held s'
held-stolen s s' ok c t n d b l idle lent cores ready = held-forked s s' ok Stolen t n d b
    (seats-move s s' ok.seats ok.wide c n l cores b.count
    (changed s s' ok Stolen t n d b (λ u h h'. Seat (on_core s c) n u h h') (λ u x y. sits (not-idle u) (same_refl 1 (thread_at s u)))
    (sits (λ e. absurd (omega arith)) (neither 1 (thread_at s t) _ (λ e. omega arith) (λ e. omega arith))) (came refl))
    (λ m. child-standing s s' ok Stolen t n d b) (λ m e. let z = was_free s s' ok Stolen t n d b in omega arith))
    (loose-links s s' ok Stolen t n d b (sym lent) refl (λ e. omega arith))
    (rw (b.count, cores, length-set) ok.wide) s.queues.ready ready
    (still-lined s s' ok Stolen t n d b (λ e. omega arith) (λ e. omega arith) (λ e. omega arith))
  where
    not-idle : (u : ℕ) → status_at s u ≡ 1 → ¬ (u ≡ on_core s c)
    not-idle u e f = let z = used_low s ok.many u (omega arith) in omega arith

-- A FORK by a step: "the child is independent, joins the ready line's tail; the parent runs on"
held-queued : (s s' : State) → Held s → (t n d : ℕ) → Birth s s' Queued t n d → status_at s t ≡ 1
    → s'.cores ≡ s.cores → s'.queues.ready ≡ appended capacity s.queues.ready n → Held s'
held-queued s s' ok t n d b running cores ready = held-forked s s' ok Queued t n d b
    (seats-same s s' ok.seats cores b.count
    (changed s s' ok Queued t n d b (λ u h h'. Same 1 h h') (λ u x y. same_refl 1 (thread_at s u)) (record { to = λ e. refl; from = λ e. running })
    (neither 1 (thread_at s n) _ (λ e. let z = n-free in omega arith) (λ e. omega arith))))
    (loose-links s s' ok Queued t n d b (sym running) refl (λ e. omega arith))
    (rw (b.count, cores) ok.wide) (appended capacity s.queues.ready n) ready
    (lined-gave 2 s s' n s.queues.ready (turns-lined s ok.many ok.turns) (low s s' ok Queued t n d b)
    (λ e. let z = n-free in omega arith) (child-standing s s' ok Queued t n d b)
    (changed s s' ok Queued t n d b (λ u h h'. ¬ (u ≡ n) → Same 2 h h') (λ u x y m. same_refl 2 (thread_at s u))
    (λ m. neither 2 (thread_at s t) _ (λ e. omega arith) (λ e. omega arith)) (λ m. absurd (m refl))))
  where
    n-free : status_at s n ≡ 0
    n-free = was_free s s' ok Queued t n d b

-- THE RULES
module _ (j : Job) (s : State) (ok : Held s) (c t r d a e n : ℕ) (ns : List ℕ) (x : ℕ) (xs : List ℕ) (over : Unfinished s)
    (head : s.queues.free_threads ≡ n ∷ ns) (clear : is_pending (pending_at s t) d ≡ false) where
  -- what a fork of any kind does
  birth : (kind : ForkKind) → Used s t → Birth s (born j s kind (turn_at j s c t) (asked r d a e) (handed n ns x xs)) kind t n d
  unfolding born
  birth kind used = go kind
    where
      whole : (k : ForkKind) (s' : State) → s'.queues.free_threads ≡ ns → s'.count ≡ s.count → s'.outcome ≡ s.outcome
          → s'.threads ≡ set (set s.threads t (behind_fork (parent_status k) (turn_at j s c t).next d (rest_of (thread_at s t).family.window e)
          (thread_at s t))) n
          (new_thread (origin_of r t d (base_on s.store.tops x)) (child_status k) (is_connected k) (child_of (thread_at s t).family.window e))
          → Birth s s' k t n d
      whole k s' free count outcome threads = record {
        left = ns;
        next = (turn_at j s c t).next;
        routine = r;
        base = base_on s.store.tops x;
        rest = rest_of (thread_at s t).family.window e;
        part = child_of (thread_at s t).family.window e;
        used = used;
        head = head;
        clear = clear;
        free = free;
        count = count;
        over = over;
        over' = λ v q. over v (sym outcome ∙ q);
        threads = threads;
      }

      go : (k : ForkKind) → Birth s (born j s k (turn_at j s c t) (asked r d a e) (handed n ns x xs)) k t n d
      go Called = whole Called _ refl refl refl refl
      go Queued = whole Queued _ refl refl refl refl
      go Stolen = whole Stolen _ refl refl refl refl

  pub held-lforks : c < s.count → on_core s c ≡ t → status_at s t ≡ 1 → Held (born j s Called (turn_at j s c t) (asked r d a e) (handed n ns x xs))
  unfolding born
  held-lforks l seat running = held-called s _ ok c t n d (birth Called (omega arith)) l seat running refl refl

  pub held-steals : c < s.count → none ≤ on_core s c → status_at s t ≡ 5 → Held (born j s Stolen (turn_at j s c t) (asked r d a e) (handed n ns x xs))
  unfolding born
  held-steals l idle lent = held-stolen s _ ok c t n d (birth Stolen (omega arith)) l idle lent refl refl

  pub held-forks : status_at s t ≡ 1 → Held (born j s Queued (turn_at j s c t) (asked r d a e) (handed n ns x xs))
  unfolding born
  held-forks running = held-queued s _ ok t n d (birth Queued (omega arith)) running refl refl
