-- A return keeps the threads, cores and queues sound: a connected child's, an unconnected child's (whose parent may wake), and the
-- root's, after which no thread is left. Assumes nothing.
use mathlib.Core.Bool.{Bool, true, false, cond, ◌&&◌, not}
use mathlib.Core.List.{List}
use mathlib.Core.Logic.{◌⊎◌, inl, inr, ⊎_elim}
use mathlib.Core.Path.{◌≡◌, refl, sym, ◌∙◌, ap}
use Prim.Native.Nat.{ℕ, ◌<◌, ◌≤◌}
use native.Mathlib.Omega.{arith}
use lib.Dec.{eqb, leb}
use lib.ListN.{length, set, length-set}
use borrow.Author.Tests.{eqb-true, eqb-false, eq-eqb, le-leb, lt-leb}
use Rattle.command.proofs.Bools.{both}
use Rattle.queue.specs.Contents.{appended, capacity}
use Rattle.thread.specs.declared.Status.{Status}
use Rattle.thread.specs.declared.Status.TheVariants.{Running, Ready, Waiting}
use Rattle.thread.specs.declared.Thread.{Thread}
use Rattle.thread.specs.Thread.{blank_thread, without_child, status_number, none, ◌is◌}
use Rattle.rules.specs.State.{Job, State, finished, thread_at, on_core}
use Rattle.rules.specs.Update.{set_thread, set_core, set_ready, set_slot}
use Rattle.rules.specs.Turn.{turn_at}
use Rattle.rules.specs.Return.{freed, wakes, status_after, ready_after, return_to_parent, return_of}
use Rattle.rules.specs.Sound.{status_at, Used, Seats, Links, parent_at}
use Rattle.soundness.proofs.Changes.{standing, connected_at, children_at, one-changed, two-changed, used_low, used-below}
use Rattle.soundness.proofs.CoreSeats.{Same, same_refl, neither, Seat, came, went, sits, seats-move}
use Rattle.soundness.proofs.LentThreads.{Bound, bound-refl, not-both, links-same, Cut, off, again, stays, links-cut}
use Rattle.soundness.proofs.LineNumbers.{Lined, lined-same, lined-gave, lined-turns, turns-lined, lined-free, free-lined}
use Rattle.soundness.proofs.ForkTree.{Unfinished, Childless, Stays, stays-refl, parent-counts, tree-gone, tree-end, all-free}
use Rattle.soundness.proofs.ResultSlots.{Pends, results-living}
use Rattle.soundness.proofs.Held.{Held, same-free}

-- TO A PARENT. Thread t, on core c, ends; its parent p has one child less and a status
module _ (s s' : State) (ok : Held s) (c t p : ℕ) (status : Status) (l : c < s.count) (seat : on_core s c ≡ t) (low : t < 32)
    (parent : parent_at s t ≡ p) (used-p : Used s p)
    (childless : Childless s t) (over : Unfinished s) (over' : Unfinished s') (count : s'.count ≡ s.count)
    (free : s'.queues.free_threads ≡ appended capacity s.queues.free_threads t)
    (threads : s'.threads ≡ set (set s.threads t blank_thread) p (without_child status (thread_at s p)))
    (active : 0 < status_number status) (wait : status_number status ≡ 4 → 1 < children_at s p) where
  was-running : status_at s t ≡ 1
  was-running = rw seat at (ok.seats.runs c l (rw seat low))

  used-t : Used s t
  used-t = let z = was-running in omega arith

  apart : ¬ (t ≡ p)
  apart e = childless t used-t (parent ∙ sym e)

  t-below : t < length s.threads
  t-below = used-below s t used-t

  p-below : p < length s.threads
  p-below = used-below s p used-p

  changed : (Q : ℕ → Thread → Thread → Type 0) → ((u : ℕ) → ¬ (u ≡ t) → ¬ (u ≡ p) → Q u (thread_at s u) (thread_at s u))
      → Q t (thread_at s t) blank_thread → Q p (thread_at s p) (without_child status (thread_at s p)) → (u : ℕ) → Q u (thread_at s u) (thread_at s' u)
  changed Q = two-changed s s' Q t _ p _ t-below p-below apart threads

  gone : status_at s' t ≡ 0
  gone = changed (λ u h h'. u ≡ t → standing h' ≡ 0) (λ u a b e. absurd (a e)) (λ e. refl) (λ e. absurd (apart (sym e))) t refl

  parent-record : thread_at s' p ≡ without_child status (thread_at s p)
  parent-record = changed (λ u h h'. u ≡ p → h' ≡ without_child status (thread_at s p)) (λ u a b e. absurd (b e)) (λ e. absurd (apart e))
      (λ e. refl) p refl

  some : 0 < children_at s p
  some = rw parent at (parent-counts s ok.many ok.tree t used-t (rw parent used-p))

  old-stays : (u : ℕ) → ¬ (u ≡ t) → Stays (thread_at s u) (thread_at s' u)
  old-stays = changed (λ u h h'. ¬ (u ≡ t) → Stays h h') (λ u a b m. stays-refl s ok.tree u) (λ m. absurd (m refl))
      (λ m. record { parent = refl; result = refl; to = λ h. active; from = λ h. used-p; waits = λ e. let z = wait e in omega arith })

  pub held-ends : Seats s' → Links s' → s'.count ≤ length s'.cores → (ready : List ℕ) → s'.queues.ready ≡ ready → Lined 2 s' ready → Held s'
  held-ends seats links wide ready line turns = record {
    many = rw (threads, length-set, length-set) ok.many;
    wide = wide;
    seats = seats;
    links = links;
    turns = lined-turns s' (rw (threads, length-set, length-set) ok.many) ready line turns;
    tree = tree-gone s s' ok.many ok.tree t p used-t used-p parent childless over over' old-stays
        (let z = ap (λ h. h.family.children) parent-record in let y = some in omega arith)
        (changed (λ u h h'. ¬ (u ≡ t) → ¬ (u ≡ p) → h'.family.children ≡ h.family.children) (λ u a b x y. refl) (λ x. absurd (x refl)) (λ x y. absurd (y refl)))
        gone;
    results = results-living s s' ok.results (λ u h. old-stays u (λ e. let z = ap (status_at s') e in let y = gone in omega arith))
        (changed (λ u h h'. Childless s u ⊎ Pends h h') (λ u a b. inr (λ k e. e)) (inl childless) (inr (λ k e. e)));
    free_threads = lined-free s' (appended capacity s.queues.free_threads t) free
        (lined-gave 0 s s' t s.queues.free_threads (free-lined s ok.free_threads) low (λ e. let z = was-running in omega arith) gone
        (λ u m. same-free (thread_at s u) (thread_at s' u) (old-stays u m)));
  }

  -- the ready queue, where the parent was not ready and is not now
  still-lined : ¬ (status_at s p ≡ 2) → ¬ (status_number status ≡ 2) → Lined 2 s' s.queues.ready
  still-lined a b = lined-same 2 s s' s.queues.ready (turns-lined s ok.many ok.turns)
      (changed (λ u h h'. Same 2 h h') (λ u x y. same_refl 2 (thread_at s u))
      (let z = was-running in neither 2 (thread_at s t) _ (λ e. omega arith) (λ e. omega arith)) (neither 2 (thread_at s p) _ a b))

  -- "A connected child's parent runs on"
  pub held_back : connected_at s t ≡ true → status_number status ≡ 1 → s'.cores ≡ set s.cores c p → s'.queues.ready ≡ s.queues.ready → Held s'
  held_back tied runs cores ready = held-ends
      (seats-move s s' ok.seats ok.wide c p l cores count
      (changed (λ u h h'. Seat (on_core s c) p u h h') (λ u a b. sits (λ e f. a (f ∙ seat)) (same_refl 1 (thread_at s u)))
      (went (sym seat) (λ e. omega arith)) (came refl))
      (λ m. ap standing parent-record ∙ runs) (λ m e. let z = p-lent in omega arith))
      (links-cut s s' ok.links t p was-running tied parent
      (changed (λ u h h'. Cut t p u h h') (λ u a b. stays a b (bound-refl s ok.links u)) (off refl refl (λ e. omega arith))
      (again refl runs refl refl)))
      (rw (count, cores, length-set) ok.wide) s.queues.ready ready
      (still-lined (λ e. let z = p-lent in omega arith) (λ e. omega arith))
    where
      p-lent : status_at s p ≡ 5
      p-lent = rw parent at (ok.links.linked t tied).1

  -- "otherwise the core is idle"
  module _ (loose : connected_at s t ≡ false) (cores : s'.cores ≡ set s.cores c none)
      (same1 : Same 1 (thread_at s p) (without_child status (thread_at s p)))
      (same5 : Same 5 (thread_at s p) (without_child status (thread_at s p))) where
    idle-seats : Seats s'
    idle-seats = seats-move s s' ok.seats ok.wide c none l cores count
        (changed (λ u h h'. Seat (on_core s c) none u h h') (λ u a b. sits (λ e f. a (f ∙ seat)) (same_refl 1 (thread_at s u)))
        (went (sym seat) (λ e. omega arith))
        (sits (λ e f. apart (sym (f ∙ seat))) same1))
        (λ m. absurd (omega arith)) (λ m. absurd (omega arith))

    idle-links : Links s'
    idle-links = links-same s s' ok.links (changed (λ u h h'. Bound h h') (λ u a b. bound-refl s ok.links u)
        (let z = was-running in record {
          tied = sym loose;
          parent = λ e. absurd (not-both _ e loose);
          lent = neither 5 (thread_at s t) _ (λ e. omega arith) (λ e. omega arith);
          active = λ e. absurd (not-both _ e loose);
        })
        (record {
          tied = refl;
          parent = λ e. refl;
          lent = same5;
          active = λ e. ⊎_elim (λ z. inl (same1.to z)) (λ z. inr (same5.to z)) (ok.links.linked p e).0;
        }))

    -- the parent keeps its status
    pub held-ended : status_number status ≡ status_at s p → s'.queues.ready ≡ s.queues.ready → Held s'
    held-ended same ready = held-ends idle-seats idle-links (rw (count, cores, length-set) ok.wide) s.queues.ready ready
        (lined-same 2 s s' s.queues.ready (turns-lined s ok.many ok.turns)
        (changed (λ u h h'. Same 2 h h') (λ u x y. same_refl 2 (thread_at s u))
        (let z = was-running in neither 2 (thread_at s t) _ (λ e. omega arith) (λ e. omega arith))
        (record { to = λ e. same ∙ e; from = λ e. sym same ∙ e })))

    -- "a waiting parent whose children have all ended joins the ready line and is ready"
    pub held-woken : status_at s p ≡ 4 → status_number status ≡ 2 → s'.queues.ready ≡ appended capacity s.queues.ready p → Held s'
    held-woken waited woken ready = held-ends idle-seats idle-links (rw (count, cores, length-set) ok.wide)
        (appended capacity s.queues.ready p) ready
        (lined-gave 2 s s' p s.queues.ready (turns-lined s ok.many ok.turns) (used_low s ok.many p used-p) (λ e. omega arith)
        (ap standing parent-record ∙ woken)
        (changed (λ u h h'. ¬ (u ≡ p) → Same 2 h h') (λ u x y m. same_refl 2 (thread_at s u))
        (λ m. let z = was-running in neither 2 (thread_at s t) _ (λ e. omega arith) (λ e. omega arith))
        (λ m. absurd (m refl))))

-- THE ROOT'S: "gives the result and finishes the machine"
module _ (s s' : State) (ok : Held s) (c v : ℕ) (l : c < s.count) (seat : on_core s c ≡ 0) (childless : Childless s 0)
    (over' : s'.outcome ≡ finished v) (count : s'.count ≡ s.count)
    (free : s'.queues.free_threads ≡ appended capacity s.queues.free_threads 0) (threads : s'.threads ≡ set s.threads 0 blank_thread)
    (cores : s'.cores ≡ set s.cores c none)
    (ready : s'.queues.ready ≡ s.queues.ready) where
  root-running : status_at s 0 ≡ 1
  root-running = rw seat at (ok.seats.runs c l (rw seat (omega arith)))

  root_below : 0 < length s.threads
  root_below = let m = ok.many in omega arith

  root-gone : status_at s' 0 ≡ 0
  root-gone = one-changed s s' (λ u h h'. u ≡ 0 → standing h' ≡ 0) 0 _ root_below threads (λ u n e. absurd (n e)) (λ e. refl) 0 refl

  others : (u : ℕ) → ¬ (u ≡ 0) → status_at s' u ≡ status_at s u
  others = one-changed s s' (λ u h h'. ¬ (u ≡ 0) → standing h' ≡ standing h) 0 _ root_below threads (λ u n m. refl) (λ m. absurd (m refl))

  nothing_left : (u : ℕ) → status_at s' u ≡ 0
  nothing_left = all-free s s' ok.tree v over' childless root-gone others

  pub held-finished : Held s'
  held-finished = record {
    many = rw (threads, length-set) ok.many;
    wide = rw (count, cores, length-set) ok.wide;
    seats = seats-move s s' ok.seats ok.wide c none l cores count
        (one-changed s s' (λ u h h'. Seat (on_core s c) none u h h') 0 _ root_below threads
        (λ u n. sits (λ e f. n (f ∙ seat)) (same_refl 1 (thread_at s u))) (went (sym seat) (λ e. omega arith)))
        (λ m. absurd (omega arith)) (λ m. absurd (omega arith));
    links = record {
      lent = λ p e. absurd (let z = nothing_left p in omega arith);
      linked = λ u e. absurd (no_tie u e);
      only = λ u w e. absurd (no_tie u e);
    };
    turns = lined-turns s' (rw (threads, length-set) ok.many) s.queues.ready ready
        (lined-same 2 s s' s.queues.ready (turns-lined s ok.many ok.turns)
        (one-changed s s' (λ u h h'. Same 2 h h') 0 _ root_below threads (λ u n. same_refl 2 (thread_at s u))
        (let z = root-running in neither 2 (thread_at s 0) _ (λ e. omega arith) (λ e. omega arith))));
    tree = tree-end s s' ok.tree v over' childless root-gone others;
    results = record {
      pending = λ u h. absurd (let z = nothing_left u in omega arith);
      distinct = λ u w h. absurd (let z = nothing_left u in omega arith);
    };
    free_threads = lined-free s' (appended capacity s.queues.free_threads 0) free
        (lined-gave 0 s s' 0 s.queues.free_threads (free-lined s ok.free_threads) (omega arith) (λ e. let z = root-running in omega arith) root-gone
        (one-changed s s' (λ u h h'. ¬ (u ≡ 0) → Same 0 h h') 0 _ root_below threads (λ u n m. same_refl 0 (thread_at s u)) (λ m. absurd (m refl))));
  }
    where
      -- a connected thread would be in use
      tied-before : (u : ℕ) → connected_at s' u ≡ true → (connected_at s u ≡ true) × (¬ (u ≡ 0))
      tied-before = one-changed s s' (λ u h h'. h'.connected ≡ true → (h.connected ≡ true) × (¬ (u ≡ 0))) 0 _ root_below threads
          (λ u n e. (e, n)) (λ e. absurd (not-both _ e refl))

      no_tie : (u : ℕ) → connected_at s' u ≡ true → ⊥
      no_tie u e =
          let (f, n) = tied-before u e in
          let x = nothing_left u in
          let y = others u n in
          ⊎_elim (λ z. omega arith) (λ z. omega arith) (ok.links.linked u f).0

-- THE RULE
pub held-returns : (j : Job) (s : State) → Held s → (c t v : ℕ) → c < s.count → on_core s c ≡ t → t < 32 → Unfinished s → Childless s t
    → Held (return_of j s (turn_at j s c t) v)
unfolding return_of return_to_parent status_after ready_after wakes
held-returns j s ok c t v l seat low over childless = ⊎_elim at-root inside (ok.tree.tree t used-t)
  where
    used-t : Used s t
    used-t = let z : status_at s t ≡ 1 = rw seat at (ok.seats.runs c l (rw seat low)) in omega arith

    at-root : (t ≡ 0) × (parent_at s t ≡ none) → Held (return_of j s (turn_at j s c t) v)
    at-root z =
        let g : leb none (parent_at s t) ≡ true = le-leb none (parent_at s t) (let y = z.1 in omega arith) in
        held-finished s _ ok c v l (seat ∙ z.0) (λ u h e. childless u h (e ∙ sym z.0)) (rw g) (rw g) (rw (g, z.0)) (rw (g, z.0)) (rw g) (rw g)

    inside : (¬ (t ≡ 0)) × Used s (parent_at s t) × (ok.tree.rank (parent_at s t) < ok.tree.rank t) → Held (return_of j s (turn_at j s c t) v)
    inside z = rw outside (go (connected_at s t) refl (woken (thread_at s (parent_at s t))) refl)
      where
        outside : leb none (parent_at s t) ≡ false
        outside = lt-leb none (parent_at s t) (used_low s ok.many (parent_at s t) z.1)

        woken : Thread → Bool
        woken q = q.status is Waiting && eqb q.family.children 1

        some-child : 0 < children_at s (parent_at s t)
        some-child = parent-counts s ok.many ok.tree t used-t z.1

        go : (b : Bool) → connected_at s t ≡ b → (w : Bool) →
            ((thread_at s (parent_at s t)).status is Waiting && eqb (children_at s (parent_at s t)) 1) ≡ w
            → Held (set_core c (cond b (parent_at s t) none) (set_ready (cond (not b && w) (appended capacity s.queues.ready (parent_at s t)) s.queues.ready)
            (set_thread (parent_at s t) (without_child (cond b Running (cond (not b && w) Ready (thread_at s (parent_at s t)).status))
            (thread_at s (parent_at s t)))
            (set_slot (thread_at s (parent_at s t)) (thread_at s t).origin.result v (freed j (turn_at j s c t) s)))))
        go true e w f = held_back s _ ok c t (parent_at s t) Running l seat low refl z.1 childless over over refl refl refl (omega arith)
            (λ x. absurd (omega arith)) e refl refl refl
        go false e true f =
            let (a, b) = both ((thread_at s (parent_at s t)).status is Waiting) (eqb (children_at s (parent_at s t)) 1) f in
            let x = eqb-true (status_at s (parent_at s t)) 4 a in
            held-woken s _ ok c t (parent_at s t) Ready l seat low refl z.1 childless over over refl refl refl (omega arith)
            (λ y. absurd (omega arith)) e refl
            (neither 1 (thread_at s (parent_at s t)) _ (λ y. omega arith) (λ y. omega arith))
            (neither 5 (thread_at s (parent_at s t)) _ (λ y. omega arith) (λ y. omega arith)) x refl refl
        go false e false f =
            held-ended s _ ok c t (parent_at s t) (thread_at s (parent_at s t)).status l seat low refl z.1 childless over over refl refl refl
            z.1 (more-children f) e refl
            (record { to = λ y. y; from = λ y. y }) (record { to = λ y. y; from = λ y. y }) refl refl
          where
            more-children : ((thread_at s (parent_at s t)).status is Waiting && eqb (children_at s (parent_at s t)) 1) ≡ false
                → status_at s (parent_at s t) ≡ 4 → 1 < children_at s (parent_at s t)
            more-children f x =
                let n = eqb-false (children_at s (parent_at s t)) 1 (rw (eq-eqb (status_at s (parent_at s t)) 4 x) at f) in
                let k = some-child in
                omega arith
