-- The same job begun k levels down, so that k levels fewer are left to it before a fork halts: a bound on the depth that is tighter than the
-- job's own, without a second limit. Its serial run is the job's from depth k on (`serial-deeper`), and a pool's step is a step of both
-- (`deeper-step`), but for a fork at the limit. Assumes that k is at most the limit.
use mathlib.Core.Path.{◌≡◌, refl, sym, ◌∙◌, ap, fun_ext, subst}
use mathlib.Core.Bool.{cond}
use Prim.Native.Nat.{ℕ, zero, suc, ◌+◌, ◌-◌, ◌<◌, ◌≤◌}
use native.Mathlib.Decide.{dec_lt}
use native.Mathlib.Omega.{arith}
use lib.Dec.{leb}
use Rattle.forkjoin.proofs.Update.{update}
use Rattle.forkjoin.proofs.Language.{Act, Language, advance, fork, halt, join, load, ret, store}
use Rattle.forkjoin.proofs.TaskTree.{word_after}
use Rattle.forkjoin.proofs.Carried.{Carried, SameAct, advances, forks, halts, joins, loads, returns, stores}
use Rattle.forkjoin.proofs.ThreadPool.{Link, OwnAct, Pool, PoolStep, step-fork, step-join, step-own, step-return, used}
use Rattle.forkjoin.proofs.SerialRun.{Outcome, and-then, serial-act, serial-call, stopped, zeros}
use Rattle.forkjoin.proofs.DepthBound.{Bounded, not-fork}
use Rattle.forkjoin.proofs.ScheduleIndependence.{Job}

module _ (k : ℕ) (𝓛 : Language) where
  abbrev pub deeper : Language
  deeper = record {
    Local = Language.Local 𝓛;
    act = λ n l. Language.act 𝓛 (n + k) l;
    cost = Language.cost 𝓛;
    pending = Language.pending 𝓛;
    window = Language.window 𝓛;
    whole = Language.whole 𝓛;
    Valid = Language.Valid 𝓛;
    lawful = λ n l o. Language.lawful 𝓛 (n + k) l o;
  }

  module _ (𝓒 : Carried 𝓛) where
    open 𝓒 use {Concrete, abstraction, held, deliver, does, same}

    pub same-act : {r : Concrete} {a : Act Concrete} {b : Act (Language.Local 𝓛)} → SameAct 𝓛 Concrete abstraction held r a b
        → SameAct deeper Concrete abstraction held r a b
    same-act halts = halts
    same-act (advances h) = advances h
    same-act (loads h) = loads h
    same-act (stores h) = stores h
    same-act (forks x y z) = forks x y z
    same-act (joins x y) = joins x y
    same-act returns = returns

    abbrev pub deeper-carried : Carried deeper
    deeper-carried = record {
      Concrete = Concrete;
      abstraction = abstraction;
      held = held;
      deliver = deliver;
      does = λ n r. does (n + k) r;
      same = λ n r. same-act (same (n + k) r);
      deliver-abstraction = Carried.deliver-abstraction 𝓒;
      deliver-held = Carried.deliver-held 𝓒;
      deliver-other = Carried.deliver-other 𝓒;
    }

  module _ (allowance : ℕ) where
    open 𝓛 use {Local, act, cost}

    abbrev call : ℕ → ℕ → Local → (ℕ → ℕ) → (ℕ → ℕ) → ℕ → Outcome
    call f n l vs m u = serial-call 𝓛 allowance f n l vs m u

    abbrev call' : ℕ → ℕ → Local → (ℕ → ℕ) → (ℕ → ℕ) → ℕ → Outcome
    call' f n l vs m u = serial-call deeper allowance f n l vs m u

    next-depth : (n : ℕ) → suc n + k ≡ suc (n + k)
    next-depth n = omega arith

    Same : ℕ → Type 0
    Same f = (n : ℕ) (l : Local) (vs m : ℕ → ℕ) (u : ℕ) → call' f n l vs m u ≡ call f (n + k) l vs m u

    act-same : (f : ℕ) → Same f → (n : ℕ) (a : Act Local) (vs m : ℕ → ℕ) (u w : ℕ)
        → serial-act deeper allowance (call' f) n a vs m u w ≡ serial-act 𝓛 allowance (call f) (n + k) a vs m u w
    unfolding serial-act Same
    act-same f ih n (halt x) vs m u w = refl
    act-same f ih n (advance l) vs m u w = ih n l vs m (u + w)
    act-same f ih n (load a g) vs m u w = ih n (g (m a)) vs m (u + w)
    act-same f ih n (store a v l) vs m u w = ih n l vs (update m a v) (u + w)
    act-same f ih n (fork d c l) vs m u w =
        ap (λ o. and-then o (λ v m' u'. call' f n l (update vs d v) m' u'))
        (ih (suc n) c zeros m (u + w) ∙ ap (λ z. call f z c zeros m (u + w)) (next-depth n))
        ∙ ap (and-then (call f (suc (n + k)) c zeros m (u + w))) (fun_ext (λ v. fun_ext (λ m'. fun_ext (λ u'. ih n l (update vs d v) m' u'))))
    act-same f ih n (join g) vs m u w = ih n (g vs) zeros m (u + w)
    act-same f ih n (ret v) vs m u w = refl

    same-call : (f : ℕ) → Same f
    unfolding serial-call Same
    same-call zero n l vs m u = refl
    same-call (suc f) n l vs m u = ap (λ z. cond (leb (u + cost l) allowance) z (stopped 22 m u))
        (act-same f (same-call f) n (act (n + k) l) vs m u (cost l))

    -- a serial run k levels down
    pub serial-deeper : (f : ℕ) (n : ℕ) (l : Local) (vs m : ℕ → ℕ) (u : ℕ)
        → serial-call deeper allowance f n l vs m u ≡ serial-call 𝓛 allowance f (n + k) l vs m u
    unfolding Same
    serial-deeper f = same-call f

-- an act is a fork or it is none
data Forks {A : Type 0} (a : Act A) : Type 0 where
  a-fork : (d : ℕ) (c q : A) → a ≡ fork d c q → Forks a
  no-fork : ((d : ℕ) (c q : A) → a ≡ fork d c q → ⊥) → Forks a

forks? : {A : Type 0} (a : Act A) → Forks a
forks? (halt x) = no-fork (λ d c q e. let y : ◌≡◌ {A = ℕ} 0 1 = cc in omega arith)
forks? (advance l) = no-fork (λ d c q e. let y : ◌≡◌ {A = ℕ} 0 1 = cc in omega arith)
forks? (load a f) = no-fork (λ d c q e. let y : ◌≡◌ {A = ℕ} 0 1 = cc in omega arith)
forks? (store a v l) = no-fork (λ d c q e. let y : ◌≡◌ {A = ℕ} 0 1 = cc in omega arith)
forks? (fork d c q) = a-fork d c q refl
forks? (join f) = no-fork (λ d c q e. let y : ◌≡◌ {A = ℕ} 0 1 = cc in omega arith)
forks? (ret v) = no-fork (λ d c q e. let y : ◌≡◌ {A = ℕ} 0 1 = cc in omega arith)

module _ (k : ℕ) (J : Job) (low : k ≤ Job.limit J) where
  open J use {language, carried, limit, bounded}
  open language use {cost}
  open carried use {Concrete, abstraction, does}

  -- k levels down a command does what it does at the root, but for a fork at the limit
  pub does-other : (r : Concrete) → ((d : ℕ) (c q : Concrete) → does 0 r ≡ fork d c q → ⊥) → does (0 + k) r ≡ does 0 r
  does-other r h = bounded.other (0 + k) r h

  pub does-below : k < limit → (r : Concrete) → does (0 + k) r ≡ does 0 r
  does-below l r = bounded.below (0 + k) r (omega arith)

  -- which halts
  pub does-beyond : limit ≤ k → (r c q : Concrete) (d : ℕ) → does 0 r ≡ fork d c q → (x : ℕ) × (does (0 + k) r ≡ halt x)
  does-beyond l r c q d e = let (x, h) = bounded.beyond r c q d e in (x, h (0 + k) (omega arith))

  other : (n : ℕ) (r : Concrete) → ((d : ℕ) (c q : Concrete) → does (0 + k) r ≡ fork d c q → ⊥) → does (n + k) r ≡ does (0 + k) r
  other n r h = by (forks? (does 0 r)) (dec_lt k limit)
    where
      by : Forks (does 0 r) → Dec (k < limit) → does (n + k) r ≡ does (0 + k) r
      by (no-fork f) _ = bounded.other (n + k) r f ∙ sym (does-other r f)
      by (a-fork d c q e) (yes l) = absurd (h d c q (does-below l r ∙ e))
      by (a-fork d c q e) (no l) = let (x, z) = bounded.beyond r c q d e in z (n + k) (omega arith) ∙ sym (z (0 + k) (omega arith))

  beyond : (r c q : Concrete) (d : ℕ) → does (0 + k) r ≡ fork d c q → (x : ℕ) × ((n : ℕ) → limit - k ≤ n → does (n + k) r ≡ halt x)
  beyond r c q d e = by (forks? (does 0 r))
    where
      by : Forks (does 0 r) → (x : ℕ) × ((n : ℕ) → limit - k ≤ n → does (n + k) r ≡ halt x)
      by (no-fork f) = absurd (f d c q (sym (does-other r f) ∙ e))
      by (a-fork d' c' q' e') = let (x, z) = bounded.beyond r c' q' d' e' in (x, λ n l. z (n + k) (omega arith))

  pub deeper-bounded : Bounded (deeper k language) (deeper-carried k language carried) (limit - k)
  deeper-bounded = record {
    below = λ n r h. bounded.below (n + k) r (omega arith) ∙ sym (does-below (omega arith) r);
    other = other;
    beyond = beyond;
  }

  abbrev pub deeper-job : Job
  deeper-job = record {
    language = deeper k language;
    carried = deeper-carried k language carried;
    limit = limit - k;
    bounded = deeper-bounded;
    costs = Job.costs J;
    root-thread = Job.root-thread J;
    bare = Job.bare J;
    valid = Job.valid J;
    own = Job.own J;
  }

  own-act : (a : Act Concrete) (m : ℕ → ℕ) (p : Concrete) → OwnAct language carried a m p
      → OwnAct (deeper k language) (deeper-carried k language carried) a m p
  own-act (halt x) m p o = o
  own-act (advance _) m p o = o
  own-act (load _ _) m p o = o
  own-act (store _ _ _) m p o = o
  own-act (fork _ _ _) m p o = o
  own-act (join _) m p o = o
  own-act (ret _) m p o = o

  -- a step of the pool is a step of the deeper job's, unless it forks at the limit
  pub deeper-step : (t : ℕ) (M M' : Pool Concrete)
      → ((r c q : Concrete) (l : Link) (d : ℕ) → M.cell t ≡ used r l → does 0 r ≡ fork d c q → k < limit)
      → PoolStep language carried 0 t M M' → PoolStep (deeper k language) (deeper-carried k language carried) 0 t M M'
  deeper-step t M M' h (step-own r q l ct o) =
      let e = does-other r (λ d c x. not-fork language carried limit (does 0 r) M.words q o d c x) in
      subst (λ a. PoolStep (deeper k language) (deeper-carried k language carried) 0 t M
      (record { cell = update M.cell t (used q l); words = λ x. word_after a x (M.words x); units = M.units + cost (abstraction r) })) e
      (step-own r q l ct (subst (λ a. OwnAct (deeper k language) (deeper-carried k language carried) a M.words q) (sym e)
      (own-act (does 0 r) M.words q o)))
  deeper-step t M M' h (step-fork r c q l d z ct e cz) = step-fork r c q l d z ct (does-below (h r c q l d ct e) r ∙ e) cz
  deeper-step t M M' h (step-join r q l ct e alone) =
      step-join r q l ct (does-other r (λ d c x f. let y : ◌≡◌ {A = ℕ} 0 1 = cc in omega arith) ∙ e) alone
  deeper-step t M M' h (step-return r r₀ k₀ q d v ct e cq) =
      step-return r r₀ k₀ q d v ct (does-other r (λ d c x f. let y : ◌≡◌ {A = ℕ} 0 1 = cc in omega arith) ∙ e) cq
