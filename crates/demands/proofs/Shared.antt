-- T-04's promise holds at every state of a run (`shared-reading`). What one thread may store and another may load is the fork-join theory's: the
-- windows of two threads are apart. The rest is soundness and the changes that an entry can make. Assumes nothing.
use mathlib.Core.Bool.{Bool, true, false, cond, true≢false}
use mathlib.Core.List.{List}
use mathlib.Core.Logic.{◌⊎◌, inl, inr}
use mathlib.Core.Path.{◌≡◌, refl, sym, ◌∙◌, ap}
use Prim.Native.Nat.{ℕ, zero, suc, ◌+◌, ◌-◌, ◌≤◌, ◌<◌}
use native.Mathlib.Decide.{ℕ_discrete}
use native.Mathlib.Omega.{arith}
use lib.ListN.{get_or, set}
use lib.Seq.{get_or-set_other}
use Rattle.schedule.specs.declared.Entry.{Entry}
use Rattle.window.specs.declared.Window.{Window}
use Rattle.window.specs.Rights.{may_load, may_store}
use Rattle.window.proofs.Laws.{store-means, load-own, load_given}
use Rattle.window.proofs.Instance.{rights}
use Rattle.forkjoin.proofs.ScheduleIndependence.{machine-facts}
use Rattle.forkjoin.proofs.Arrays.{words-from}
use Rattle.thread.specs.declared.Effect.TheVariants.{Stores}
use Rattle.thread.specs.declared.Status.{Status}
use Rattle.thread.specs.Thread.{disconnected, is_root, none}
use Rattle.thread.proofs.MarkedWindows.{load-allowed, store-allowed}
use Rattle.rules.specs.State.{Job, State, thread_at, finished}
use Rattle.rules.specs.Update.{set_thread, set_core, set_outcome}
use Rattle.rules.specs.Turn.{Turn, turn_at, effect_at, goes_on}
use Rattle.rules.specs.Leave.{leaves, runs}
use Rattle.rules.specs.declared.ForkKind.{ForkKind}
use Rattle.rules.specs.declared.ForkKind.TheVariants.{Called, Queued, Stolen}
use Rattle.rules.specs.Fork.{Asked, asked, born, handed}
use Rattle.rules.specs.Return.{freed, return_of, return_to_parent}
use Rattle.rules.specs.Rules.{entry_of}
use Rattle.rules.specs.Runs.{run_from}
use Rattle.rules.specs.Sound.{GoodJob, Sound, Used, parent_at, window_held, GivenBy}
use Rattle.soundness.proofs.Entries.{Stepped, Kept, entry-by}
use Rattle.soundness.proofs.ForkTree.{Childless}
use Rattle.soundness.proofs.FrameChanges.{Turned, kept, rejoins, shares, Change, steady, birth, ending, elder-stays, not-newborn}
use Rattle.soundness.proofs.EntryChanges.{entry-change}
use Rattle.soundness.proofs.ThreadsMet.{runner, parent_of}
use Rattle.simulation.proofs.StatePool.{pool_of, link_of, thread_of, cell-used}
use Rattle.simulation.proofs.OwnSteps.{effect-tested}
use Rattle.simulation.proofs.EntriesRun.{theory_job, Reaches, Reached, still_open, has-finished, has-faulted, reached}
use Rattle.demands.proofs.Passing.{good}
use Rattle.demands.proofs.Demands.{sound-after}
use Rattle.demands.specs.Input.{Input, job_in, start_in}
use Rattle.demands.specs.Demands.{Takes}
use Rattle.demands.specs.Shared.{Shares, Reads, Ancestor, parent, further, SharedReading}

-- WINDOWS APART. Of two threads in a pool that a run reached
module _ (j : Job) (good : GoodJob j) (arguments memory : List ℕ) (s : State) (ok : Sound j s) where
  both : Reaches j good arguments memory (pool_of j s) → (t u a : ℕ) → Used s t → Used s u → (t ≡ u → ⊥)
      → rights (window_held s t) a + rights (window_held s u) a ≤ 2
  both run t u a h k n =
      (machine-facts (theory_job j good arguments memory) j.allowance (words-from 32 memory) (pool_of j s) run).apart t u
      (thread_of j s.store.words (thread_at s t)) (thread_of j s.store.words (thread_at s u)) (link_of (thread_at s t)) (link_of (thread_at s u))
      (cell-used j s.store.words (thread_at s t) h) (cell-used j s.store.words (thread_at s u) k) n a

  two-rights : Reached j good arguments memory s → (t u a : ℕ) → Used s t → Used s u → (t ≡ u → ⊥)
      → rights (window_held s t) a + rights (window_held s u) a ≤ 2
  two-rights (still_open e run) t u a h k n = both run t u a h k n
  two-rights (has-finished f) t u a h k n = absurd (let z = ok.tree.over f.result f.over t in omega arith)
  two-rights (has-faulted f) t u a h k n = both f.run t u a h k n

  stored-apart : Reached j good arguments memory s → (t u a : ℕ) → Used s t → Used s u → (t ≡ u → ⊥)
      → may_store (window_held s t) a ≡ true → may_load (window_held s u) a ≡ false
  stored-apart r t u a h k n st = go (may_load (window_held s u) a) refl
    where
      go : (b : Bool) → may_load (window_held s u) a ≡ b → may_load (window_held s u) a ≡ false
      go false e = e
      go true e = absurd (
          let x = two-rights r t u a h k n in
          let y = store-allowed (window_held s t) a st in
          let z = load-allowed (window_held s u) a (store-means (window_held s t) a st).0 e in
          omega arith)

-- THE WORD STAYS. An entry's memory word, if it is none that a running thread may store
leaves-memory : (c t : ℕ) (status : Status) (s : State) → (leaves c t status s).store.memory ≡ s.store.memory
unfolding leaves
leaves-memory c t status s = go (thread_at s t).connected
  where
    go : (b : Bool) → (cond b (runs c (thread_at s t).origin.parent (set_thread t (disconnected status (thread_at s t)) s)) (set_core c none (set_thread t (disconnected status (thread_at s t)) s))).store.memory ≡ s.store.memory
    go true = refl
    go false = refl

born-memory : (j : Job) (s : State) (kind : ForkKind) (o : Turn) (f : Asked) (n : ℕ) (ns : List ℕ) (x : ℕ) (xs : List ℕ) → (born j s kind o f (handed n ns x xs)).store.memory ≡ s.store.memory
unfolding born
born-memory j s Called o f n ns x xs = refl
born-memory j s Queued o f n ns x xs = refl
born-memory j s Stolen o f n ns x xs = refl

return-memory : (j : Job) (s : State) (o : Turn) (v : ℕ) → (return_of j s o v).store.memory ≡ s.store.memory
unfolding return_of return_to_parent
return-memory j s o v = go (is_root o.thread)
  where
    go : (b : Bool) → (cond b (set_outcome (finished v) (set_core o.core none (freed j o s))) (return_to_parent j s o o.thread.origin.parent (thread_at s o.thread.origin.parent) v)).store.memory ≡ s.store.memory
    go true = refl
    go false = refl

module _ (j : Job) (good : GoodJob j) (s : State) (ok : Sound j s) (a : ℕ) (high : 32 ≤ a)
    (none-stores : (u : ℕ) → Used s u → may_store (window_held s u) a ≡ false) where
  Holds : State → Type 0
  Holds s' = get_or s'.store.memory (a - 32) 0 ≡ get_or s.store.memory (a - 32) 0

  stored-elsewhere : (c t : ℕ) → Stepped j s c t → (b v : ℕ) → effect_at j s (thread_at s t) ≡ Stores b v
      → get_or (set s.store.memory (b - 32) v) (a - 32) 0 ≡ get_or s.store.memory (a - 32) 0
  stored-elsewhere c t k b v e = get_or-set_other s.store.memory (b - 32) (a - 32) v 0 (λ z. same z)
    where
      u : Used s t
      u = runner j s ok c t k

      may : may_store (window_held s t) b ≡ true
      may = effect-tested j good s ok c t u (Stores b v) e

      same : a - 32 ≡ b - 32 → ⊥
      same z =
          let m = store-means (window_held s t) b may in
          let q : a ≡ b = omega (arith, m.0) in
          true≢false (sym may ∙ ap (may_store (window_held s t)) (sym q) ∙ none-stores t u)

  holds : Kept Holds j s
  unfolding Holds
  holds = record {
    unchanged = refl;
    fault = λ t n o l e. refl;
    waiting = λ c t k. ap (λ m. get_or m (a - 32) 0) (leaves-memory c t _ s);
    sets = λ c t k d v e. refl;
    loads = λ c t k d b e. refl;
    stores = stored-elsewhere;
    goes = λ c t k p e. refl;
    continues = λ c t k e. refl;
    lforks = λ c t k r d b e q n ns x xs f. ap (λ m. get_or m (a - 32) 0) (born-memory j s Called (turn_at j s c t) (asked r d b e) n ns x xs);
    forks = λ c t k r d b e q n ns x xs f. ap (λ m. get_or m (a - 32) 0) (born-memory j s Queued (turn_at j s c t) (asked r d b e) n ns x xs);
    joins = λ c t k e. refl;
    suspends = λ c t k e. ap (λ m. get_or m (a - 32) 0) (leaves-memory c t _ (goes_on (turn_at j s c t) s));
    yields = λ c t k e. ap (λ m. get_or m (a - 32) 0) (leaves-memory c t _ (goes_on (turn_at j s c t) s));
    returns = λ c t k v e. ap (λ m. get_or m (a - 32) 0) (return-memory j s (turn_at j s c t) v);
    shares = λ c t k x e. refl;
    takes = λ c t ts k. refl;
    steals = λ c t k r d b e q n ns x xs f. ap (λ m. get_or m (a - 32) 0) (born-memory j s Stolen (turn_at j s c t) (asked r d b e) n ns x xs);
    enables = λ t k. refl;
  }

  pub word-stays : (e : Entry) → get_or (entry_of j s e).state.store.memory (a - 32) 0 ≡ get_or s.store.memory (a - 32) 0
  unfolding Holds
  word-stays = entry-by Holds j s holds

-- IT STAYS SHARED while the sharer has a child
module _ (j : Job) (s : State) (ok : Sound j s) (t u a : ℕ) (sharing : Shares s t a) (child-used : Used s u) (not_root : u ≡ 0 → ⊥) (is-child : parent_at s u ≡ t) where
  turned : {w w' : Window} → Turned w w' (Childless s t) → w.ceiling ≤ a → a < w.hi → (w'.ceiling ≤ a) × (a < w'.hi)
  turned (kept e) l h = rw e (l, h)
  turned (rejoins e c) l h = absurd (c u child-used is-child)
  turned (shares x p q e) l h = rw e (omega arith, h)

  lasts-in : (s' : State) → Change j s s' → Shares s' t a
  lasts-in s' (steady f) = let w = turned (f.window t) sharing.from sharing.to in record { used = (f.stays t).still sharing.used; from = w.0; to = w.1 }
  lasts-in s' (birth p n r d x cut b) = record { used = (elder-stays b t sharing.used).still sharing.used; from = held.0; to = held.1 }
    where
      held : ((window_held s' t).ceiling ≤ a) × (a < (window_held s' t).hi)
      held = go (ℕ_discrete t p)
        where
          go : Dec (t ≡ p) → ((window_held s' t).ceiling ≤ a) × (a < (window_held s' t).hi)
          go (yes e) = rw (window_held, e, b.rest) (rw e at sharing.from, rw e at sharing.to)
          go (no m) = rw (window_held, b.others t m (not-newborn b t sharing.used)) (sharing.from, sharing.to)
  lasts-in s' (ending p f) = let w = f.others t (λ e. f.childless u child-used (is-child ∙ e)) in
      record { used = w.stays.still sharing.used; from = rw w.window sharing.from; to = rw w.window sharing.to }

-- WHAT IS GIVEN is shared by an ancestor: going up, each thread's span is its parent's share, or its parent's span
module _ (j : Job) (s : State) (ok : Sound j s) (a : ℕ) where
  not-the-root : (t : ℕ) → Reads s t a → t ≡ 0 → ⊥
  not-the-root t r e =
      let f = ok.windows.fits t r.used in
      let w = (ok.windows.root (rw e at r.used)).1 in
      let h : (window_held s t).hi ≡ 1024 = ap (λ k. (window_held s k).hi) e ∙ w in
      omega (arith, r.from, r.to, f.above, f.within)

  climb : (n t : ℕ) → ok.tree.rank t < n → Reads s t a → (p : ℕ) × Ancestor s p t × Shares s p a
  climb zero t l r = absurd (omega arith)
  climb (suc n) t l r = go (λ m up. climb n (parent_at s t) m up) (ok.windows.given t r.used (not-the-root t r) (omega (arith, r.from, r.to)))
    where
      up : Used s (parent_at s t)
      up = parent_of j s ok t r.used (not-the-root t r)

      lower : ok.tree.rank (parent_at s t) < ok.tree.rank t
      lower = rank (ok.tree.tree t r.used)
        where
          rank : ((t ≡ 0) × (parent_at s t ≡ none)) ⊎ ((t ≡ 0 → ⊥) × Used s (parent_at s t) × (ok.tree.rank (parent_at s t) < ok.tree.rank t))
              → ok.tree.rank (parent_at s t) < ok.tree.rank t
          rank (inl z) = absurd (not-the-root t r z.0)
          rank (inr z) = z.2

      go : (ok.tree.rank (parent_at s t) < n → Reads s (parent_at s t) a → (p : ℕ) × Ancestor s p (parent_at s t) × Shares s p a)
          → GivenBy s (parent_at s t) t → (p : ℕ) × Ancestor s p t × Shares s p a
      go again (inl (x, y)) = (
        parent_at s t,
        parent t (not-the-root t r) refl,
        record { used = up; from = omega (arith, r.from); to = omega (arith, r.to) },
      )
      go again (inr (x, y)) =
          let (p, above, sharing) = again (omega (arith, lower)) (record { used = up; from = omega (arith, r.from); to = omega (arith, r.to) }) in
          (p, further t (not-the-root t r) above, sharing)

-- AT EVERY STATE of a run
module _ (i : Input) (k : Takes i) (es : List Entry) where
  abbrev end : State
  end = run_from (job_in i) (start_in i) es

  sound : Sound (job_in i) end
  sound = sound-after i k es

  there : Reached (job_in i) (good i k) i.arguments i.memory end
  there = reached (job_in i) (good i k) i.arguments i.memory i.cores k.some k.most k.arguments k.memory es

  unstored : (t u a : ℕ) → Shares end t a → Used end u → may_store (window_held end u) a ≡ false
  unstored t u a sharing used = go (may_store (window_held end u) a) refl (ℕ_discrete t u)
    where
      f : (window_held end t).mark ≤ a
      f = omega (arith, (sound.windows.fits t sharing.used).before, sharing.from)

      go : (b : Bool) → may_store (window_held end u) a ≡ b → Dec (t ≡ u) → may_store (window_held end u) a ≡ false
      go false e _ = e
      go true e (yes q) = absurd (
          let m : may_store (window_held end t) a ≡ true = rw q e in
          omega (arith, (store-means (window_held end t) a m).2, sharing.from))
      go true e (no q) = absurd (true≢false (sym (load-own (window_held end t) a f sharing.to)
          ∙ stored-apart (job_in i) (good i k) i.arguments i.memory end sound there u t a used sharing.used (λ z. q (sym z)) e))

  in_memory : (t a : ℕ) → Shares end t a → 32 ≤ a
  in_memory t a sharing = let f = sound.windows.fits t sharing.used in omega (arith, f.memory, f.behind, f.before, sharing.from)

  at-end : SharedReading i end
  at-end = record {
    apart = stored-apart (job_in i) (good i k) i.arguments i.memory end sound there;
    unstored = unstored;
    steady = λ t a sharing. word-stays (job_in i) (good i k) end sound a (in_memory t a sharing) (λ u used. unstored t u a sharing used);
    lasting = λ t u a sharing used n q e. lasts-in (job_in i) end sound t u a sharing used n q (entry_of (job_in i) end e).state (entry-change (job_in i) end sound e);
    loaded = λ t a r. load_given (window_held end t) a r.from r.to;
    given = λ t a r. climb (job_in i) end sound a sound.tree.deep t (sound.tree.low t) r;
  }

pub shared-reading : (i : Input) → Takes i → (es : List Entry) → SharedReading i (run_from (job_in i) (start_in i) es)
shared-reading i k es = at-end i k es
