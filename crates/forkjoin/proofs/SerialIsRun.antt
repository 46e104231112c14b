-- The serial run is one of the runs of the task tree: where it returns, steps of the tree lead to the same words and units, and
-- where it stops, steps lead to a thread that is halted or cannot pay (`is-run`). Confluence then speaks of it.
use mathlib.Core.Path.{◌∙◌, ◌≡◌, ap, fun_ext, refl, subst, subst₂, sym}
use mathlib.Core.List.{◌∷◌}
use mathlib.Core.Logic.{◌⊎◌, inl, inr, ite}
use mathlib.Core.Bool.{Bool, cond}
use Prim.Native.Nat.{◌+◌, ◌<◌, suc, zero, ℕ}
use native.Mathlib.Decide.{ℕ_discrete}
use native.Mathlib.Omega.{arith}
use lib.ListN.{length}
use Rattle.forkjoin.proofs.Confluence.{Steps, glue, kept-steps, stop, then}
use Rattle.forkjoin.proofs.TaskName.{TaskName, ◌⊑◌, head-eq, not-under-self, ⊑-child, ⊑-parent}
use Rattle.forkjoin.proofs.Update.{update}
use Rattle.forkjoin.proofs.Compare.{Compared, at_most, compared, past}
use Rattle.forkjoin.proofs.Language.{Act, Language, LawfulAct, advance, fork, halt, join, load, ret, store}
use Rattle.forkjoin.proofs.TaskTree.{Enabled, Node, NotLive, Present, State, Step, after, child-after, children-of, ended, live, none, own-after, value}
use Rattle.forkjoin.proofs.AfterStep.{child-node, grandchild-node, node-outside, own-node}
use Rattle.forkjoin.proofs.Invariant.{Invariant}
use Rattle.forkjoin.proofs.Preservation.{kept}
use Rattle.forkjoin.proofs.TreeConfluence.{laws}
use Rattle.forkjoin.proofs.SerialRun.{Outcome, and-then, done, out-of-fuel, serial-act, serial-call, stopped, zeros}

module _ (𝓛 : Language) (allowance : ℕ) where
  open 𝓛 use {Local, act, cost, lawful}

  -- the tree stands at the open routine p: it is live, its children have ended, with these values
  pub record AtRoutine (p : TaskName) (l : Local) (vs : ℕ → ℕ) (s : State Local) : Type 0 where
    pub sound : Invariant 𝓛 s
    pub there : s.at p ≡ live l
    pub vals : (d : ℕ) → value (s.at (d ∷ p)) ≡ vs d
    pub quiet : (d : ℕ) → NotLive (s.at (d ∷ p))

  -- steps of the tree lead to the return of task p, with these words and units, and touch nothing outside p
  pub record Returned (p : TaskName) (s : State Local) (v : ℕ) (m : ℕ → ℕ) (u : ℕ) : Type 0 where
    pub count : ℕ
    pub end : State Local
    pub steps : Steps (Step 𝓛) count s end
    pub node : end.at p ≡ ended v
    pub same-words : end.memory ≡ m
    pub same_units : end.units ≡ u
    pub frame : (x : TaskName) → ¬ (p ⊑ x) → end.at x ≡ s.at x

  -- steps of the tree lead to a thread that is halted by x, or that has not units enough left
  pub record StoppedRun (s : State Local) (x : ℕ) (m : ℕ → ℕ) (u : ℕ) : Type 0 where
    pub count : ℕ
    pub end : State Local
    pub steps : Steps (Step 𝓛) count s end
    pub same-words : end.memory ≡ m
    pub same_units : end.units ≡ u
    pub who : TaskName
    pub state : Local
    pub there : end.at who ≡ live state
    pub quiet : (d : ℕ) → NotLive (end.at (d ∷ who))
    pub why : (act (length who) state ≡ halt x) ⊎ ((x ≡ 22) × (allowance < end.units + cost state))

  -- the tree comes to where the serial run does
  abbrev pub RunsTo : TaskName → State Local → Outcome → Type 0
  RunsTo p s (done v m u) = Returned p s v m u
  RunsTo p s (stopped x m u) = StoppedRun s x m u
  RunsTo p s out-of-fuel = Unit {0}

  -- steps first, then what the rest of the run gives
  steps_first : (p : TaskName) (s t : State Local) (n : ℕ) → Steps (Step 𝓛) n s t → ((x : TaskName) → ¬ (p ⊑ x) → t.at x ≡ s.at x)
      → (o : Outcome) → RunsTo p t o → RunsTo p s o
  steps_first p s t n m f (done v ms u) r = record {
    count = n + r.count;
    end = r.end;
    steps = glue (laws 𝓛) m r.steps;
    node = r.node;
    same-words = r.same-words;
    same_units = r.same_units;
    frame = λ x k. r.frame x k ∙ f x k;
  }
  steps_first p s t n m f (stopped x ms u) r = record {
    count = n + r.count;
    end = r.end;
    steps = glue (laws 𝓛) m r.steps;
    same-words = r.same-words;
    same_units = r.same_units;
    who = r.who;
    state = r.state;
    there = r.there;
    quiet = r.quiet;
    why = r.why;
  }
  steps_first p s t n m f out-of-fuel r = tt

  is_none : (n : Node Local) → (Present n → ⊥) → n ≡ none
  is_none none h = refl
  is_none (live _) h = absurd (h tt)
  is_none (ended _) h = absurd (h tt)

  quiet-not-live : (n : Node Local) (l : Local) → n ≡ live l → NotLive n → ⊥
  quiet-not-live n l e q = subst NotLive e q

  module _ (f : ℕ) (ih : (p : TaskName) (l : Local) (vs : ℕ → ℕ) (s : State Local) → AtRoutine p l vs s
      → RunsTo p s (serial-call 𝓛 allowance f (length p) l vs s.memory s.units))
      (p : TaskName) (l : Local) (vs : ℕ → ℕ) (s : State Local) (h : AtRoutine p l vs s) where
    -- a command that is not a halt can be carried out
    module _ (a : Act Local) (e : act (length p) l ≡ a) (r : Enabled a (children-of s p)) where
      t : State Local
      t = after p (cost l) a s

      g : LawfulAct 𝓛 l a
      g = subst (λ z. LawfulAct 𝓛 l z) e (lawful (length p) l (h.sound.valid p l h.there))

      moves : Step 𝓛 p s t
      unfolding t
      moves = record {
        who = l;
        there = h.there;
        enabled = subst (λ z. Enabled z (children-of s p)) (sym e) r;
        result = ap (λ z. after p (cost l) z s) (sym e);
      }

      inv-t : Invariant 𝓛 t
      inv-t = kept 𝓛 p s t h.sound moves

      own-now : t.at p ≡ own-after a s.memory (children-of s p)
      unfolding t
      own-now = own-node p a s

      child-now : (k : ℕ) → t.at (k ∷ p) ≡ child-after a k (s.at (k ∷ p))
      unfolding t
      child-now k = child-node p a s k

      stays : (x : TaskName) → ¬ (p ⊑ x) → t.at x ≡ s.at x
      unfolding t
      stays x n = node-outside p a s x n

      -- a command that leaves the children alone
      here_on : (m : Local) → own-after a s.memory (children-of s p) ≡ live m → ((k : ℕ) (n : Node Local) → child-after a k n ≡ n)
          → AtRoutine p m vs t
      here_on m c b = record {
        sound = inv-t;
        there = own-now ∙ c;
        vals = λ d. ap value (child-now d ∙ b d (s.at (d ∷ p))) ∙ h.vals d;
        quiet = λ d. subst NotLive (sym (child-now d ∙ b d (s.at (d ∷ p)))) (h.quiet d);
      }

      run_on : (m : Local) → own-after a s.memory (children-of s p) ≡ live m → ((k : ℕ) (n : Node Local) → child-after a k n ≡ n)
          → RunsTo p s (serial-call 𝓛 allowance f (length p) m vs t.memory t.units)
      run_on m c b = steps_first p s t 1 (then moves stop) stays (serial-call 𝓛 allowance f (length p) m vs t.memory t.units)
          (ih p m vs t (here_on m c b))

    by-join : (k : (ℕ → ℕ) → Local) → act (length p) l ≡ join k
        → RunsTo p s (serial-call 𝓛 allowance f (length p) (k vs) zeros s.memory (s.units + cost l))
    unfolding t
    by-join k e = steps_first p s u 1 (then (moves a e r) stop) (stays a e r)
        (serial-call 𝓛 allowance f (length p) (k vs) zeros s.memory (s.units + cost l)) (ih p (k vs) zeros u here-join)
      where
        a : Act Local
        a = join k

        r : Enabled (join k) (children-of s p)
        r = h.quiet

        u : State Local
        u = t a e r

        here-join : AtRoutine p (k vs) zeros u
        here-join = record {
          sound = inv-t a e r;
          there = own-now a e r ∙ ap (λ z. live (k z)) (fun_ext h.vals);
          vals = λ d. ap value (child-now a e r d);
          quiet = λ d. subst NotLive (sym (child-now a e r d)) tt;
        }

    by-fork : (d : ℕ) (c m : Local) → act (length p) l ≡ fork d c m
        → RunsTo p s (and-then (serial-call 𝓛 allowance f (suc (length p)) c zeros s.memory (s.units + cost l))
        (λ v ms u. serial-call 𝓛 allowance f (length p) m (update vs d v) ms u))
    unfolding t
    by-fork d c m e = on-child (serial-call 𝓛 allowance f (suc (length p)) c zeros s.memory (s.units + cost l)) (ih (d ∷ p) c zeros u here-child)
      where
        a : Act Local
        a = fork d c m

        u : State Local
        u = t a e tt

        nothing-below : (k : ℕ) → u.at (k ∷ d ∷ p) ≡ none
        nothing-below k = grandchild-node p a s k d
            ∙ is_none (s.at (k ∷ d ∷ p)) (λ x. let (o, y, _) = h.sound.tree k (d ∷ p) x in quiet-not-live (s.at (d ∷ p)) o y (h.quiet d))

        at-d : (n : Node Local) (o : Dec (d ≡ d)) → ite o (live c) n ≡ live c
        at-d n (yes _) = refl
        at-d n (no x) = absurd (x refl)

        at_other : (k : ℕ) → ¬ (k ≡ d) → (n : Node Local) (o : Dec (k ≡ d)) → ite o (live c) n ≡ n
        at_other k x n (yes y) = absurd (x y)
        at_other k x n (no _) = refl

        here-child : AtRoutine (d ∷ p) c zeros u
        here-child = record {
          sound = inv-t a e tt;
          there = child-now a e tt d ∙ at-d (s.at (d ∷ p)) (ℕ_discrete d d);
          vals = λ k. ap value (nothing-below k);
          quiet = λ k. subst NotLive (sym (nothing-below k)) tt;
        }

        not-sibling : (k : ℕ) → ¬ (k ≡ d) → ¬ ((d ∷ p) ⊑ (k ∷ p))
        not-sibling k x y = elim (⊑-child y) [ inl z ↦ x (sym (head-eq z)) | inr z ↦ not-under-self z ]

        on-child : (o : Outcome) → RunsTo (d ∷ p) u o
            → RunsTo p s (and-then o (λ v ms w. serial-call 𝓛 allowance f (length p) m (update vs d v) ms w))
        on-child (stopped x ms w) r = steps_first p s u 1 (then (moves a e tt) stop) (stays a e tt) (stopped x ms w) r
        on-child out-of-fuel r = tt
        on-child (done v ms w) r = steps_first p s z (suc r.count) (then (moves a e tt) r.steps) frame
            (serial-call 𝓛 allowance f (length p) m (update vs d v) ms w)
            (subst₂ (λ x y. RunsTo p z (serial-call 𝓛 allowance f (length p) m (update vs d v) x y)) r.same-words r.same_units
            (ih p m (update vs d v) z here-again))
          where
            z : State Local
            z = r.end

            frame : (x : TaskName) → ¬ (p ⊑ x) → z.at x ≡ s.at x
            frame x n = r.frame x (λ y. n (⊑-parent y)) ∙ stays a e tt x n

            child-z : (k : ℕ) → ¬ (k ≡ d) → z.at (k ∷ p) ≡ s.at (k ∷ p)
            child-z k x = r.frame (k ∷ p) (not-sibling k x) ∙ child-now a e tt k ∙ at_other k x (s.at (k ∷ p)) (ℕ_discrete k d)

            val-z : (k : ℕ) (o : Dec (k ≡ d)) → value (z.at (k ∷ p)) ≡ ite o v (vs k)
            val-z k (yes x) = ap (λ y. value (z.at (y ∷ p))) x ∙ ap value r.node
            val-z k (no x) = ap value (child-z k x) ∙ h.vals k

            quiet-z : (k : ℕ) → Dec (k ≡ d) → NotLive (z.at (k ∷ p))
            quiet-z k (yes x) = subst NotLive (sym (ap (λ y. z.at (y ∷ p)) x ∙ r.node)) tt
            quiet-z k (no x) = subst NotLive (sym (child-z k x)) (h.quiet k)

            here-again : AtRoutine p m (update vs d v) z
            here-again = record {
              sound = kept-steps (laws 𝓛) (inv-t a e tt) r.steps;
              there = r.frame p (λ y. not-under-self y) ∙ own-now a e tt;
              vals = λ k. val-z k (ℕ_discrete k d);
              quiet = λ k. quiet-z k (ℕ_discrete k d);
            }

    by-act : (a : Act Local) → act (length p) l ≡ a
        → RunsTo p s (serial-act 𝓛 allowance (λ n l vs m u. serial-call 𝓛 allowance f n l vs m u) (length p) a vs s.memory s.units (cost l))
    unfolding serial-act t
    by-act (halt x) e = record {
      count = 0;
      end = s;
      steps = stop;
      same-words = refl;
      same_units = refl;
      who = p;
      state = l;
      there = h.there;
      quiet = h.quiet;
      why = inl e;
    }
    by-act (advance m) e = run_on (advance m) e tt m refl (λ k n. refl)
    by-act (load a k) e = run_on (load a k) e tt (k (s.memory a)) refl (λ k n. refl)
    by-act (store a v m) e = run_on (store a v m) e tt m refl (λ k n. refl)
    by-act (fork d c m) e = by-fork d c m e
    by-act (join k) e = by-join k e
    by-act (ret v) e = record {
      count = 1;
      end = t (ret v) e tt;
      steps = then (moves (ret v) e tt) stop;
      node = own-now (ret v) e tt;
      same-words = refl;
      same_units = refl;
      frame = stays (ret v) e tt;
    }

    by_call : RunsTo p s (serial-call 𝓛 allowance (suc f) (length p) l vs s.memory s.units)
    unfolding serial-call
    by_call = go (compared (s.units + cost l) allowance)
      where
        go : {o : Bool} → Compared (s.units + cost l) allowance o
            → RunsTo p s (cond o (serial-act 𝓛 allowance (λ n l vs m u. serial-call 𝓛 allowance f n l vs m u) (length p) (act (length p) l) vs
            s.memory s.units (cost l)) (stopped 22 s.memory s.units))
        go (at_most _) = by-act (act (length p) l) refl
        go (past x) = record {
          count = 0;
          end = s;
          steps = stop;
          same-words = refl;
          same_units = refl;
          who = p;
          state = l;
          there = h.there;
          quiet = h.quiet;
          why = inr (refl, omega arith);
        }

  -- the serial run is a run of the tree
  pub is-run : (f : ℕ) (p : TaskName) (l : Local) (vs : ℕ → ℕ) (s : State Local) → AtRoutine p l vs s
      → RunsTo p s (serial-call 𝓛 allowance f (length p) l vs s.memory s.units)
  unfolding serial-call
  is-run zero p l vs s h = tt
  is-run (suc f) p l vs s h = by_call f (λ p l vs s h. is-run f p l vs s h) p l vs s h
