-- A pool followed on the tree, where some run of the tree finishes. No limit on thread numbers is needed: a fork from the depth's limit on is
-- a halt, and where a run finishes no run comes to a halt. So each step of the pool is a step of the tree (`follow`), none halts (`no-halt`),
-- a thread that forks is less deep than the limit (`shallow`) and none is deeper (`deep-most`), and no pool has made more steps or has more
-- units than the run that finishes (`steps-most`, `units-most`, `paid_for`, `steps-ahead`, `last_step`). Assumes a run of the tree that finishes.
use mathlib.Core.Path.{◌∙◌, ◌≡◌, ap, subst, sym}
use mathlib.Core.List.{[], ◌∷◌}
use Prim.Native.Nat.{◌+◌, ◌<◌, ◌≤◌, suc, ℕ}
use native.Mathlib.Decide.{dec_lt}
use native.Mathlib.Omega.{arith}
use lib.ListN.{length}
use Rattle.forkjoin.proofs.Confluence.{Steps, glue, stop, then, ahead, never, unique}
use Rattle.forkjoin.proofs.TaskName.{TaskName}
use Rattle.forkjoin.proofs.Language.{Act, fork, halt, ret}
use Rattle.forkjoin.proofs.TaskTree.{State, Step, Finished, live}
use Rattle.forkjoin.proofs.AfterStep.{Origin, old, mine, born, origin}
use Rattle.forkjoin.proofs.Invariant.{Invariant}
use Rattle.forkjoin.proofs.Preservation.{kept}
use Rattle.forkjoin.proofs.TreeConfluence.{laws}
use Rattle.forkjoin.proofs.Units.{prefix-units, live-units}
use Rattle.forkjoin.proofs.LiveSteps.{live-steps}
use Rattle.forkjoin.proofs.TreeStart.{begin, begin-inv}
use Rattle.forkjoin.proofs.Carried.{Carried, SameAct, advances, forks, halts, joins, loads, returns, same-join, same-ret, stores}
use Rattle.forkjoin.proofs.ThreadPool.{Link, OwnAct, Pool, PoolStep, child, root, step-fork, step-join, step-own, step-return, used}
use Rattle.forkjoin.proofs.Represents.{Represents}
use Rattle.forkjoin.proofs.Simulation.{simulates, faults, finishes}
use Rattle.forkjoin.proofs.DepthBound.{deepen-by, not-fork}
use Rattle.forkjoin.proofs.PoolStart.{start, start-represents}
use Rattle.forkjoin.proofs.ScheduleIndependence.{Job}

module _ (J : Job) (m : ℕ → ℕ) where
  open J use {language, carried, limit, bounded, root-thread, bare, valid, own}
  open language use {Local, act, cost}
  open carried use {Concrete, abstraction, does}

  abbrev pub beginning : State Local
  beginning = begin language (abstraction root-thread) m

  -- a run of the tree that finishes
  pub record Ends : Type 0 where
    pub count : ℕ
    pub end : State Local
    pub run : Steps (Step language) count beginning end
    pub over : Finished language end

  -- the pool stands where n steps of the tree lead
  pub record Follows (n : ℕ) (M : Pool Concrete) : Type 0 where
    pub name : ℕ → TaskName
    pub state : State Local
    pub steps : Steps (Step language) n beginning state
    pub represents : Represents language carried name M state
    pub sound : Invariant language state
    -- no task is deeper than the limit
    pub short : (x : TaskName) (l : Local) → state.at x ≡ live l → length x ≤ limit

  begin-sound : Invariant language beginning
  begin-sound = begin-inv language (abstraction root-thread) m valid own

  pub follows-start : Follows 0 (start language carried root-thread m)
  unfolding begin
  follows-start = record {
    name = λ _. [];
    state = beginning;
    steps = stop;
    represents = start-represents language carried root-thread m bare;
    sound = begin-sound;
    short = only-root;
  }
    where
      only-root : (x : TaskName) (l : Local) → beginning.at x ≡ live l → length x ≤ limit
      only-root [] l e = omega arith
      only-root (_ ∷ _) l e = let z : ◌≡◌ {A = ℕ} 0 1 = cc in absurd (omega arith)

  -- a command that touches no other thread is no fork of the tree
  own-no-fork : {r : Concrete} {a : Act Concrete} {b : Act Local} (ws : ℕ → ℕ) (q : Concrete)
      → SameAct language Concrete abstraction (Carried.held carried) r a b → OwnAct language carried a ws q → (d : ℕ) (c p : Local) → b ≡ fork d c p → ⊥
  own-no-fork ws q halts o d c p e = o
  own-no-fork ws q (advances _) o d c p e = let y : ◌≡◌ {A = ℕ} 0 1 = cc in omega arith
  own-no-fork ws q (loads _) o d c p e = let y : ◌≡◌ {A = ℕ} 0 1 = cc in omega arith
  own-no-fork ws q (stores _) o d c p e = let y : ◌≡◌ {A = ℕ} 0 1 = cc in omega arith
  own-no-fork ws q (forks _ _ _) o d c p e = o
  own-no-fork ws q (joins _ _) o d c p e = o
  own-no-fork ws q returns o d c p e = o

  -- the thread that a name's node shows
  is-thread : (n : ℕ) (M : Pool Concrete) (f : Follows n M) (t : ℕ) (r : Concrete) (l : Link) → M.cell t ≡ used r l → (who : Local)
      → f.state.at (f.name t) ≡ live who → abstraction r ≡ who
  is-thread n M f t r l ct who there = let alive = f.represents.alive t r l ct in cc

  module _ (E : Ends) where
    pub no-halt : (n : ℕ) (M : Pool Concrete) → Follows n M → (t x : ℕ) (r : Concrete) (l : Link) → M.cell t ≡ used r l → does 0 r ≡ halt x → ⊥
    no-halt n M f t x r l ct e =
        never (laws language) begin-sound E.over E.run f.steps
        (faults language carried f.name M f.state f.represents t x r l ct
        (bounded.other (length (f.name t)) r (λ d c y z. let y : ◌≡◌ {A = ℕ} 0 1 = cc in omega arith) ∙ e))

    -- a thread that forks is less deep than the limit
    pub shallow : (n : ℕ) (M : Pool Concrete) (f : Follows n M) (t d : ℕ) (r c q : Concrete) (l : Link) → M.cell t ≡ used r l
        → does 0 r ≡ fork d c q → length (f.name t) < limit
    shallow n M f t d r c q l ct e = go (dec_lt (length (f.name t)) limit)
      where
        go : Dec (length (f.name t) < limit) → length (f.name t) < limit
        go (yes h) = h
        go (no h) =
            let (x, z) = bounded.beyond r c q d e in
            absurd (never (laws language) begin-sound E.over E.run f.steps
            (faults language carried f.name M f.state f.represents t x r l ct (z (length (f.name t)) (omega arith))))

    -- a thread whose step forks on the tree is less deep than the limit
    fork-low : (n t : ℕ) (M M' : Pool Concrete) (f : Follows n M) → PoolStep language carried 0 t M M' → (who : Local)
        → f.state.at (f.name t) ≡ live who → (d : ℕ) (c p : Local) → act (length (f.name t)) who ≡ fork d c p → length (f.name t) < limit
    fork-low n t M M' f (step-fork r x q l k z ct e' cz) who there d c p e = shallow n M f t k r x q l ct e'
    fork-low n t M M' f (step-own r q l ct o) who there d c p e =
        let still = bounded.other (length (f.name t)) r (λ d c x. not-fork language carried limit (does 0 r) M.words q o d c x) in
        absurd (own-no-fork M.words q (Carried.same carried (length (f.name t)) r) (subst (λ a. OwnAct language carried a M.words q) (sym still) o)
        d c p (ap (act (length (f.name t))) (is-thread n M f t r l ct who there) ∙ e))
    fork-low n t M M' f (step-join r q l ct e' alone) who there d c p e =
        let still = bounded.other (length (f.name t)) r (λ d c x h. let y : ◌≡◌ {A = ℕ} 0 1 = cc in omega arith) in
        let (_, joins', _, _) = same-join language Concrete abstraction (Carried.held carried) (Carried.same carried (length (f.name t)) r) (still ∙ e') in
        let clash = sym joins' ∙ ap (act (length (f.name t))) (is-thread n M f t r l ct who there) ∙ e in
        let y : ◌≡◌ {A = ℕ} 0 1 = cc in absurd (omega arith)
    fork-low n t M M' f (step-return r r₀ k₀ q k v ct e' cq) who there d c p e =
        let still = bounded.other (length (f.name t)) r (λ d c x h. let y : ◌≡◌ {A = ℕ} 0 1 = cc in omega arith) in
        let returns' = same-ret language Concrete abstraction (Carried.held carried) (Carried.same carried (length (f.name t)) r) (still ∙ e') in
        let clash = sym returns' ∙ ap (act (length (f.name t))) (is-thread n M f t r (child q k) ct who there) ∙ e in
        let y : ◌≡◌ {A = ℕ} 0 1 = cc in absurd (omega arith)

    pub follow : (n t : ℕ) (M M' : Pool Concrete) → Follows n M → PoolStep language carried 0 t M M' → Follows (suc n) M'
    follow n t M M' f g =
        let (name', s', m', R') = simulates language carried f.name M M' f.state f.represents f.sound t
        (deepen-by language carried limit bounded (length (f.name t)) t M M' (λ r c q l d z ct e _ _. shallow n M f t d r c q l ct e) g) in
        record {
          name = name';
          state = s';
          steps = subst (λ z. Steps (Step language) z beginning s') (omega arith) (glue (laws language) f.steps (then m' stop));
          represents = R';
          sound = kept language (f.name t) f.state s' f.sound m';
          short = λ x l e. short-after s' m' x l e;
        }
      where
        short-after : (s' : State Local) → Step language (f.name t) f.state s' → (x : TaskName) (l : Local) → s'.at x ≡ live l → length x ≤ limit
        short-after s' m' x l e = by (origin (f.name t) (act (length (f.name t)) m'.who) f.state x l (sym (ap (λ z. z.at x) m'.result) ∙ e))
          where
            by : Origin (f.name t) (act (length (f.name t)) m'.who) f.state x l → length x ≤ limit
            by (old _ h) = f.short x l h
            by (mine h _) = let z = f.short (f.name t) m'.who m'.there in let y = ap length h in omega arith
            by (born d p h a) = let z = fork-low n t M M' f g m'.who m'.there d l p a in let y = ap length h in omega arith

    pub deep-most : (n : ℕ) (M : Pool Concrete) (f : Follows n M) (t : ℕ) (r : Concrete) (l : Link) → M.cell t ≡ used r l → length (f.name t) ≤ limit
    deep-most n M f t r l ct = f.short (f.name t) (abstraction r) (f.represents.alive t r l ct)

    -- no pool has made more steps, or has more units
    pub steps-most : (n : ℕ) (M : Pool Concrete) → Follows n M → n ≤ E.count
    steps-most n M f = let (x, e, _) = ahead (laws language) begin-sound E.over E.run f.steps in omega arith

    pub units-most : (n : ℕ) (M : Pool Concrete) → Follows n M → M.units ≤ E.end.units
    units-most n M f =
        let most = prefix-units language begin-sound E.over E.run f.steps in
        let same = f.represents.same_units in
        omega arith

    -- not even with the next command of a thread
    pub paid_for : (n : ℕ) (M : Pool Concrete) → Follows n M → (t : ℕ) (r : Concrete) (l : Link) → M.cell t ≡ used r l
        → M.units + cost (abstraction r) ≤ E.end.units
    paid_for n M f t r l ct =
        let (_, _, left) = ahead (laws language) begin-sound E.over E.run f.steps in
        let most = live-units language f.sound E.over left (f.name t) (abstraction r) (f.represents.alive t r l ct) in
        let same = f.represents.same_units in
        omega arith

    -- each of m different threads in use has a step ahead of it
    pub steps-ahead : (n : ℕ) (M : Pool Concrete) → Follows n M → (m : ℕ) (thread : ℕ → ℕ)
        → ((i : ℕ) → i < m → (r : Concrete) × (l : Link) × (M.cell (thread i) ≡ used r l))
        → ((i k : ℕ) → i < m → k < m → thread i ≡ thread k → i ≡ k) → n + m ≤ E.count
    steps-ahead n M f m thread in_use apart =
        let (x, e, left) = ahead (laws language) begin-sound E.over E.run f.steps in
        let enough = live-steps language f.sound E.over left m (λ i. f.name (thread i)) alive-at named-apart in
        omega arith
      where
        alive-at : (i : ℕ) → i < m → (l : Local) × (f.state.at (f.name (thread i)) ≡ live l)
        alive-at i h = let (r, l, ct) = in_use i h in (abstraction r, f.represents.alive (thread i) r l ct)

        named-apart : (i k : ℕ) → i < m → k < m → f.name (thread i) ≡ f.name (thread k) → i ≡ k
        named-apart i k h h' e =
            let (r, l, ct) = in_use i h in
            let (r', l', ct') = in_use k h' in
            apart i k h h' (f.represents.distinct (thread i) (thread k) r r' l l' ct ct' e)

    -- and the root's return is the last of the steps
    pub last_step : (n : ℕ) (M : Pool Concrete) → Follows n M → (t v : ℕ) (q : Concrete) → M.cell t ≡ used q root → does 0 q ≡ ret v
        → (suc n ≡ E.count) × (M.units + cost (abstraction q) ≤ E.end.units)
    last_step n M f t v q ct e =
        let (s₁, last, top, ws, us) = finishes language carried f.name M f.state f.represents f.sound t v q ct
        (bounded.other (length (f.name t)) q (λ d c y z. let y : ◌≡◌ {A = ℕ} 0 1 = cc in omega arith) ∙ e) in
        let (x, _) = unique (laws language) begin-sound E.over (record { result = v; root = top }) E.run (glue (laws language) f.steps (then last stop)) in
        let most = prefix-units language begin-sound E.over E.run (glue (laws language) f.steps (then last stop)) in
        (omega arith, omega arith)
