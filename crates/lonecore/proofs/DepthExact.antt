-- How deep the plain run goes, told in another way. Begun k levels down, so that k levels fewer are left before a fork meets 26, it ends as it does
-- from the first level where its depth is at most 32 - k, and where it finishes there its depth is at most that (`depth-exact`). So a plain run
-- that finishes does so with k levels fewer exactly where its depth is at most 32 - k. Assumes nothing.
use mathlib.Core.Bool.{Bool, true, false, cond}
use mathlib.Core.List.{List}
use mathlib.Core.Path.{◌≡◌, refl, ◌∙◌, ap, subst}
use Prim.Native.Nat.{ℕ, zero, suc, ◌+◌, ◌-◌, ◌≤◌, ◌<◌, max}
use native.Mathlib.Decide.{dec_lt}
use native.Mathlib.Omega.{arith}
use borrow.Author.Tests.{lt-leb, le-leb}
use lib.Dec.{ltb}
use lib.ListN.{set}
use Rattle.window.specs.Rights.{child_of}
use Rattle.thread.specs.declared.Effect.{Effect}
use Rattle.thread.specs.Effect.{number_of_fault}
use Rattle.thread.specs.declared.Effect.TheVariants.{Faults, Sets, Loads, Stores, Goes, Continues, Lforks, Forks, Joins, Suspends, Yields, Returns, Shares}
use Rattle.thread.specs.Effect.{Asked, asked}
use Rattle.thread.specs.Job.{Job, word_at}
use Rattle.serial.specs.declared.Routine.{Routine}
use Rattle.serial.specs.Serial.{Ended, done, stopped, Call, and_then, jumped_to, weight_at, advanced, assigned, joined, shared, forked, started_on, arguments_from, next_effect, fork_called, carried, call_within}
use Rattle.lonecore.specs.Depth.{Depth, behind_child, fork_depth, carried_depth, depth_within}

abbrev pub Finishes : Ended → Type 0
Finishes (done v m u) = Unit {0}
Finishes (stopped n m u) = ⊥

-- a run of this depth, begun k levels down and as it is
pub record Exact (k depth : ℕ) (down up : Ended) : Type 0 where
  pub same : depth + k ≤ 32 → down ≡ up
  pub fits : Finishes down → depth + k ≤ 32

exact-stopped : (k depth x : ℕ) (m : List ℕ) (u : ℕ) → Exact k depth (stopped x m u) (stopped x m u)
exact-stopped k depth x m u = record { same = λ _. refl; fits = λ z. absurd z }

-- a child, and what follows it
module _ (n k d : ℕ) (f g : ℕ → List ℕ → ℕ → Ended) (depth : ℕ → List ℕ → ℕ → ℕ)
    (rest : (v : ℕ) (m : List ℕ) (u : ℕ) → Exact k (depth v m u) (f v m u) (g v m u)) where
  rest-same : (y : Ended) → behind_child n y depth + k ≤ 32 → and_then y f ≡ and_then y g
  rest-same (done v m u) h = (rest v m u).same h
  rest-same (stopped x m u) h = refl

  rest-fits : (x y : Ended) → Exact k d x y → Finishes (and_then x f) → (d + k ≤ 32) × (behind_child n y depth + k ≤ 32)
  rest-fits (done v m u) y child z =
      let fit = child.fits tt in
      (fit, subst (λ o. behind_child n o depth + k ≤ 32) (child.same fit) ((rest v m u).fits z))
  rest-fits (stopped x m u) y child z = absurd z

  then-exact : (x y : Ended) → Exact k d x y → Exact k (max d (behind_child n y depth)) (and_then x f) (and_then y g)
  then-exact x y child = record {
    same = λ h. ap (λ o. and_then o f) (child.same (omega arith)) ∙ rest-same y (omega arith);
    fits = λ z. let (a, b) = rest-fits x y child z in omega arith;
  }

module _ (j : Job) where
  abbrev call : ℕ → Call
  call f n l m u = call_within j f n l m u

  abbrev depth : ℕ → Depth
  depth f n l m u = depth_within j f n l m u

  -- runs of at most f commands in a row
  AllExact : ℕ → Type 0
  AllExact f = (k n : ℕ) (l : Routine) (m : List ℕ) (u : ℕ) → n + k ≤ 32
      → Exact k (depth f n l m u) (call f (n + k) l m u) (call f n l m u) × (n ≤ depth f n l m u)

  fork-exact : (f : ℕ) → AllExact f → (k n : ℕ) (l : Routine) (q : Asked) (m : List ℕ) (u : ℕ) → n + k ≤ 32
      → Exact k (fork_depth j (call f) (depth f) n l q m u) (fork_called j (call f) (n + k) l q m u) (fork_called j (call f) n l q m u)
      × (n ≤ fork_depth j (call f) (depth f) n l q m u)
  unfolding AllExact
  fork-exact f ih k n l q m u most = go (dec_lt n 32) (dec_lt (n + k) 32)
    where
      child : Routine
      child = started_on q.routine (arguments_from j l q.routine q.first) (child_of l.window q.cut)

      behind : ℕ → Routine
      behind v = assigned q.result v (advanced j (forked q.result q.cut l))

      deep : ℕ
      deep = depth f (suc n) child m (u + weight_at j l)

      child-exact : n + k < 32 → Exact k deep (call f (suc (n + k)) child m (u + weight_at j l)) (call f (suc n) child m (u + weight_at j l))
      child-exact h =
          let down : suc n + k ≡ suc (n + k) = omega arith in
          subst (λ z. Exact k (depth f (suc n) child m (u + weight_at j l)) (call f z child m (u + weight_at j l)) (call f (suc n) child m (u + weight_at j l))) down
          (ih k (suc n) child m (u + weight_at j l) (omega arith)).0

      child-deep : n < 32 → suc n ≤ deep
      child-deep h = (ih 0 (suc n) child m (u + weight_at j l) (omega arith)).1

      go : Dec (n < 32) → Dec (n + k < 32)
          → Exact k (fork_depth j (call f) (depth f) n l q m u) (fork_called j (call f) (n + k) l q m u) (fork_called j (call f) n l q m u)
          × (n ≤ fork_depth j (call f) (depth f) n l q m u)
      go (yes a) (yes b) =
          let low = child-deep a in
          rw (lt-leb 32 n a, lt-leb 32 (n + k) b) (
            then-exact n k deep (λ v m' u'. call f (n + k) (behind v) m' u') (λ v m' u'. call f n (behind v) m' u') (λ v m' u'. depth f n (behind v) m' u')
                (λ v m' u'. (ih k n (behind v) m' u' most).0) (call f (suc (n + k)) child m (u + weight_at j l)) (call f (suc n) child m (u + weight_at j l)) (child-exact b),
            omega arith,
          )
      go (yes a) (no b) =
          let low = child-deep a in
          rw (lt-leb 32 n a, le-leb 32 (n + k) (omega arith)) (record { same = λ h. absurd (omega arith); fits = λ z. absurd z }, omega arith)
      go (no a) _ = rw (le-leb 32 n (omega arith), le-leb 32 (n + k) (omega arith)) (exact-stopped k n 26 m u, omega arith)

  carried-exact : (f : ℕ) → AllExact f → (k n : ℕ) (l : Routine) (m : List ℕ) (u : ℕ) → n + k ≤ 32 → (e : Effect)
      → Exact k (carried_depth j (call f) (depth f) n l m u e) (carried j (call f) (n + k) l m u e) (carried j (call f) n l m u e)
      × (n ≤ carried_depth j (call f) (depth f) n l m u e)
  unfolding carried_depth carried AllExact
  carried-exact f ih k n l m u h (Faults x) = (exact-stopped k n (number_of_fault x) m u, omega arith)
  carried-exact f ih k n l m u h (Sets d v) = ih k n (advanced j (assigned d v l)) m (u + weight_at j l) h
  carried-exact f ih k n l m u h (Loads d a) = ih k n (advanced j (assigned d (word_at j m a) l)) m (u + weight_at j l) h
  carried-exact f ih k n l m u h (Stores a v) = ih k n (advanced j l) (set m (a - 32) v) (u + weight_at j l) h
  carried-exact f ih k n l m u h (Goes p) = ih k n (jumped_to p l) m (u + weight_at j l) h
  carried-exact f ih k n l m u h Continues = ih k n (advanced j l) m (u + weight_at j l) h
  carried-exact f ih k n l m u h (Lforks r d a e) = fork-exact f ih k n l (asked r d a e) m u h
  carried-exact f ih k n l m u h (Forks r d a e) = fork-exact f ih k n l (asked r d a e) m u h
  carried-exact f ih k n l m u h Joins = ih k n (advanced j (joined l)) m (u + weight_at j l) h
  carried-exact f ih k n l m u h Suspends = ih k n (advanced j l) m (u + weight_at j l) h
  carried-exact f ih k n l m u h Yields = ih k n (advanced j l) m (u + weight_at j l) h
  carried-exact f ih k n l m u h (Shares x) = ih k n (advanced j (shared x l)) m (u + weight_at j l) h
  carried-exact f ih k n l m u h (Returns v) = (record { same = λ _. refl; fits = λ _. h }, omega arith)

  all-exact : (f : ℕ) → AllExact f
  unfolding call_within depth_within AllExact
  all-exact zero k n l m u h = (exact-stopped k n 22 m u, omega arith)
  all-exact (suc f) k n l m u h = go (ltb (j.allowance - u) (weight_at j l)) (carried-exact f (all-exact f) k n l m u h (next_effect j l))
    where
      go : (b : Bool)
          → Exact k (carried_depth j (call f) (depth f) n l m u (next_effect j l)) (carried j (call f) (n + k) l m u (next_effect j l)) (carried j (call f) n l m u (next_effect j l))
          × (n ≤ carried_depth j (call f) (depth f) n l m u (next_effect j l))
          → Exact k (cond b n (carried_depth j (call f) (depth f) n l m u (next_effect j l)))
          (cond b (stopped 22 m u) (carried j (call f) (n + k) l m u (next_effect j l))) (cond b (stopped 22 m u) (carried j (call f) n l m u (next_effect j l)))
          × (n ≤ cond b n (carried_depth j (call f) (depth f) n l m u (next_effect j l)))
      go true z = (exact-stopped k n 22 m u, omega arith)
      go false z = z

  pub depth-exact : (f k n : ℕ) (l : Routine) (m : List ℕ) (u : ℕ) → n + k ≤ 32
      → Exact k (depth_within j f n l m u) (call_within j f (n + k) l m u) (call_within j f n l m u)
  unfolding AllExact
  depth-exact f k n l m u h = (all-exact f k n l m u h).0

  -- a run is as deep as its routine
  pub depth-least : (f n : ℕ) (l : Routine) (m : List ℕ) (u : ℕ) → n ≤ 32 → n ≤ depth_within j f n l m u
  unfolding AllExact
  depth-least f n l m u h = (all-exact f 0 n l m u (omega arith)).1
