-- The serial run's equation with no number of commands to count (`unrolled`): for a good job more than enough changes nothing, since each
-- command weighs 1 at least. And its units never fall nor pass the allowance, and its memory words stay as many (`between`). Assumes nothing.
use mathlib.Core.Bool.{Bool, true, false, cond}
use mathlib.Core.List.{List}
use mathlib.Core.Path.{◌≡◌, refl, ◌∙◌, ap, subst}
use Prim.Native.Nat.{ℕ, zero, suc, ◌+◌, ◌-◌, ◌≤◌, ◌<◌}
use native.Mathlib.Omega.{arith}
use borrow.Author.Tests.{ltb-false, lt-ltb}
use lib.Dec.{ltb, leb}
use lib.ListN.{set, length, length-set}
use Rattle.window.specs.Rights.{child_of}
use Rattle.thread.specs.declared.Effect.{Effect}
use Rattle.thread.specs.declared.Effect.TheVariants.{Faults, Sets, Loads, Stores, Goes, Continues, Lforks, Forks, Joins, Suspends, Yields, Returns, Shares}
use Rattle.thread.specs.Job.{Job, GoodJob, word_at}
use Rattle.thread.specs.Effect.{asked}
use Rattle.serial.specs.declared.Routine.{Routine}
use Rattle.serial.specs.Serial.{Ended, done, stopped, and_then, Call, jumped_to, assigned, advanced, joined, shared, forked, started_on, arguments_from, weight_at, next_effect, fork_called, carried, call_within, call_from}
use Rattle.serial.specs.Steps.{GoodRoutine}
use Rattle.serial.proofs.CommandMet.{Next, next-met, weighs}

-- a call that returns has at least u units and at most a; however it ends, there are k memory words
pub data Between (u a k : ℕ) : Ended → Type 0 where
  returned : {v : ℕ} {m : List ℕ} {u' : ℕ} → u ≤ u' → u' ≤ a → length m ≡ k → Between u a k (done v m u')
  ended : {x : ℕ} {m : List ℕ} {u' : ℕ} → length m ≡ k → Between u a k (stopped x m u')

pub between_done : {u a k v u' : ℕ} {m : List ℕ} → Between u a k (done v m u') → (u ≤ u') × (u' ≤ a) × (length m ≡ k)
between_done (returned x y z) = (x, y, z)

weaken : {x y a k : ℕ} {o : Ended} → x ≤ y → Between y a k o → Between x a k o
weaken {x} h (returned {u' = u'} p q z) = let e : x ≤ u' = omega arith in returned e q z
weaken h (ended z) = ended z

then-between : {x y a k : ℕ} {o : Ended} (f : ℕ → List ℕ → ℕ → Ended) → Between y a k o
    → ((v : ℕ) (m : List ℕ) (u : ℕ) → y ≤ u → u ≤ a → length m ≡ k → Between x a k (f v m u)) → Between x a k (and_then o f)
then-between f (returned p q z) g = g _ _ _ p q z
then-between f (ended z) g = ended z

then-alike : {y a k : ℕ} {o : Ended} (f f' : ℕ → List ℕ → ℕ → Ended) → Between y a k o
    → ((v : ℕ) (m : List ℕ) (u : ℕ) → y ≤ u → f v m u ≡ f' v m u) → and_then o f ≡ and_then o f'
then-alike f f' (returned p q z) g = g _ _ _ p
then-alike f f' (ended z) g = refl

module _ (j : Job) where
  -- at most f commands in a row
  abbrev within : ℕ → Call
  within f n l m u = call_within j f n l m u

  Bounded : ℕ → Type 0
  Bounded f = (n : ℕ) (l : Routine) (m : List ℕ) (u : ℕ) → u ≤ j.allowance → Between u j.allowance (length m) (call_within j f n l m u)

  fork-between : (f : ℕ) → Bounded f → (n : ℕ) (l : Routine) (r d a e : ℕ) (m : List ℕ) (u : ℕ) → u + weight_at j l ≤ j.allowance
      → Between u j.allowance (length m) (fork_called j (within f) n l (asked r d a e) m u)
  unfolding Bounded
  fork-between f ih n l r d a e m u h = go (leb 32 n)
    where
      go : (b : Bool) → Between u j.allowance (length m) (cond b (stopped 26 m u)
          (and_then (within f (suc n) (started_on r (arguments_from j l r a) (child_of l.window e)) m (u + weight_at j l))
          (λ v m' u'. within f n (assigned d v (advanced j (forked d e l))) m' u')))
      go true = ended refl
      go false = then-between _ (ih (suc n) (started_on r (arguments_from j l r a) (child_of l.window e)) m (u + weight_at j l) h)
          (λ v m' u' p q z. subst (λ k. Between u j.allowance k (within f n (assigned d v (advanced j (forked d e l))) m' u')) z
          (weaken (omega arith) (ih n (assigned d v (advanced j (forked d e l))) m' u' q)))

  carried-between : (f : ℕ) → Bounded f → (n : ℕ) (l : Routine) (m : List ℕ) (u : ℕ) → u + weight_at j l ≤ j.allowance → (e : Effect)
      → Between u j.allowance (length m) (carried j (within f) n l m u e)
  unfolding carried Bounded
  carried-between f ih n l m u h (Faults x) = ended refl
  carried-between f ih n l m u h (Sets d v) = weaken (omega arith) (ih n (advanced j (assigned d v l)) m (u + weight_at j l) h)
  carried-between f ih n l m u h (Loads d a) = weaken (omega arith) (ih n (advanced j (assigned d (word_at j m a) l)) m (u + weight_at j l) h)
  carried-between f ih n l m u h (Stores a v) =
      subst (λ k. Between u j.allowance k (within f n (advanced j l) (set m (a - 32) v) (u + weight_at j l))) (length-set m (a - 32) v)
      (weaken (omega arith) (ih n (advanced j l) (set m (a - 32) v) (u + weight_at j l) h))
  carried-between f ih n l m u h (Goes t) = weaken (omega arith) (ih n (jumped_to t l) m (u + weight_at j l) h)
  carried-between f ih n l m u h Continues = weaken (omega arith) (ih n (advanced j l) m (u + weight_at j l) h)
  carried-between f ih n l m u h (Lforks r d a e) = fork-between f ih n l r d a e m u h
  carried-between f ih n l m u h (Forks r d a e) = fork-between f ih n l r d a e m u h
  carried-between f ih n l m u h Joins = weaken (omega arith) (ih n (advanced j (joined l)) m (u + weight_at j l) h)
  carried-between f ih n l m u h Suspends = weaken (omega arith) (ih n (advanced j l) m (u + weight_at j l) h)
  carried-between f ih n l m u h Yields = weaken (omega arith) (ih n (advanced j l) m (u + weight_at j l) h)
  carried-between f ih n l m u h (Returns v) = let e : u ≤ u + weight_at j l = omega arith in returned e h refl
  carried-between f ih n l m u h (Shares x) = weaken (omega arith) (ih n (advanced j (shared x l)) m (u + weight_at j l) h)

  test-between : (f : ℕ) → Bounded f → (n : ℕ) (l : Routine) (m : List ℕ) (u : ℕ) → u ≤ j.allowance → (b : Bool)
      → ltb (j.allowance - u) (weight_at j l) ≡ b
      → Between u j.allowance (length m) (cond b (stopped 22 m u) (carried j (within f) n l m u (next_effect j l)))
  test-between f ih n l m u h true e = ended refl
  test-between f ih n l m u h false e =
      carried-between f ih n l m u (omega (arith, ltb-false (j.allowance - u) (weight_at j l) e)) (next_effect j l)

  bounded : (f : ℕ) → Bounded f
  unfolding call_within Bounded
  bounded zero n l m u h = ended refl
  bounded (suc f) n l m u h = test-between f (λ n l m u h. bounded f n l m u h) n l m u h (ltb (j.allowance - u) (weight_at j l)) refl

  -- units do not fall, and do not pass the allowance
  pub between : (n : ℕ) (l : Routine) (m : List ℕ) (u : ℕ) → u ≤ j.allowance → Between u j.allowance (length m) (call_from j n l m u)
  unfolding call_from Bounded
  between n l m u h = bounded (suc j.allowance) n l m u h

  module _ (good : GoodJob j) where
    -- one command more changes nothing
    Stable : ℕ → Type 0
    Stable f = (n : ℕ) (l : Routine) (m : List ℕ) (u : ℕ) → GoodRoutine j l → j.allowance < u + f
        → call_within j f n l m u ≡ call_within j (suc f) n l m u

    fork-stable : (f : ℕ) → Stable f → (n : ℕ) (l : Routine) (r d a e : ℕ) (m : List ℕ) (u : ℕ) → 1 ≤ weight_at j l → u + weight_at j l ≤ j.allowance
        → j.allowance < u + suc f → GoodRoutine j (started_on r (arguments_from j l r a) (child_of l.window e))
        → ((v : ℕ) → GoodRoutine j (assigned d v (advanced j (forked d e l))))
        → fork_called j (within f) n l (asked r d a e) m u ≡ fork_called j (within (suc f)) n l (asked r d a e) m u
    unfolding Stable Bounded
    fork-stable f ih n l r d a e m u w h k child parent = ap (cond (leb 32 n) (stopped 26 m u))
        (then-alike (λ v m' u'. within f n (assigned d v (advanced j (forked d e l))) m' u')
        (λ v m' u'. within (suc f) n (assigned d v (advanced j (forked d e l))) m' u')
        (bounded f (suc n) (started_on r (arguments_from j l r a) (child_of l.window e)) m (u + weight_at j l) h)
        (λ v m' u' p. ih n (assigned d v (advanced j (forked d e l))) m' u' (parent v) (omega arith))
        ∙ ap (λ o. and_then o (λ v m' u'. within (suc f) n (assigned d v (advanced j (forked d e l))) m' u'))
        (ih (suc n) (started_on r (arguments_from j l r a) (child_of l.window e)) m (u + weight_at j l) child (omega arith)))

    carried-stable : (f : ℕ) → Stable f → (n : ℕ) (l : Routine) (m : List ℕ) (u : ℕ) → 1 ≤ weight_at j l → u + weight_at j l ≤ j.allowance
        → j.allowance < u + suc f → (e : Effect) → Next j l e → carried j (within f) n l m u e ≡ carried j (within (suc f)) n l m u e
    unfolding carried Stable
    carried-stable f ih n l m u w h k (Faults x) g = refl
    carried-stable f ih n l m u w h k (Sets d v) g = ih n (advanced j (assigned d v l)) m (u + weight_at j l) g (omega arith)
    carried-stable f ih n l m u w h k (Loads d a) g = ih n (advanced j (assigned d (word_at j m a) l)) m (u + weight_at j l) (g (word_at j m a)) (omega arith)
    carried-stable f ih n l m u w h k (Stores a v) g = ih n (advanced j l) (set m (a - 32) v) (u + weight_at j l) g (omega arith)
    carried-stable f ih n l m u w h k (Goes t) g = ih n (jumped_to t l) m (u + weight_at j l) g (omega arith)
    carried-stable f ih n l m u w h k Continues g = ih n (advanced j l) m (u + weight_at j l) g (omega arith)
    carried-stable f ih n l m u w h k (Lforks r d a e) g = fork-stable f ih n l r d a e m u w h k g.0 g.1
    carried-stable f ih n l m u w h k (Forks r d a e) g = fork-stable f ih n l r d a e m u w h k g.0 g.1
    carried-stable f ih n l m u w h k Joins g = ih n (advanced j (joined l)) m (u + weight_at j l) g (omega arith)
    carried-stable f ih n l m u w h k Suspends g = ih n (advanced j l) m (u + weight_at j l) g (omega arith)
    carried-stable f ih n l m u w h k Yields g = ih n (advanced j l) m (u + weight_at j l) g (omega arith)
    carried-stable f ih n l m u w h k (Returns v) g = refl
    carried-stable f ih n l m u w h k (Shares x) g = ih n (advanced j (shared x l)) m (u + weight_at j l) g (omega arith)

    by-test : (f : ℕ) → Stable f → (n : ℕ) (l : Routine) (m : List ℕ) (u : ℕ) → GoodRoutine j l → j.allowance < u + suc f → (b : Bool)
        → ltb (j.allowance - u) (weight_at j l) ≡ b
        → cond b (stopped 22 m u) (carried j (within f) n l m u (next_effect j l))
        ≡ cond b (stopped 22 m u) (carried j (within (suc f)) n l m u (next_effect j l))
    by-test f ih n l m u g k true e = refl
    by-test f ih n l m u g k false e =
        let x = ltb-false (j.allowance - u) (weight_at j l) e in
        let w = weighs j good l g in
        carried-stable f ih n l m u w (omega arith) k (next_effect j l) (next-met j good l g)

    stable : (f : ℕ) → Stable f
    unfolding call_within Stable
    stable zero n l m u g k = let w = weighs j good l g in rw (lt-ltb (j.allowance - u) (weight_at j l) (omega arith))
    stable (suc f) n l m u g k =
        by-test f (λ n l m u g k. stable f n l m u g k) n l m u g k (ltb (j.allowance - u) (weight_at j l)) refl

    -- "The first test met ends it before that command": 22 first; then the command by its effect, and the run goes on
    pub unrolled : (n : ℕ) (l : Routine) (m : List ℕ) (u : ℕ) → GoodRoutine j l
        → call_from j n l m u
        ≡ cond (ltb (j.allowance - u) (weight_at j l)) (stopped 22 m u) (carried j (call_from j) n l m u (next_effect j l))
    unfolding call_from call_within
    unrolled n l m u g = by-test j.allowance (stable j.allowance) n l m u g (omega arith) (ltb (j.allowance - u) (weight_at j l)) refl
