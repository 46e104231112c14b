-- Every thread in use is at work (`working`: it runs or is ready) or an ancestor of such a thread (`leads`): a waiting or lent thread has a
-- child in use, and none is suspended. Assumes a sound state that is `Few`, and a bounded depth that grows by one from parent to child.
use mathlib.Core.Bool.{true}
use mathlib.Core.Logic.{◌⊎◌, inl, inr, ⊎_elim}
use mathlib.Core.Path.{◌≡◌, sym, ◌∙◌, ap}
use Prim.Native.Nat.{ℕ, zero, suc, ◌+◌, ◌≤◌, ◌<◌}
use native.Mathlib.Decide.{ℕ_discrete}
use native.Mathlib.Omega.{arith}
use lib.ListN.{get_or, length}
use Rattle.rules.specs.State.{Job, State, thread_at}
use Rattle.rules.specs.Lists.{Member}
use Rattle.rules.specs.Sound.{Sound, Used, status_at, parent_at}
use Rattle.soundness.proofs.Changes.{status-most, connected_at, used_low}
use Rattle.soundness.proofs.ForkTree.{child-some, among-some}
use Rattle.soundness.proofs.ThreadsMet.{child-not-root}
use Rattle.lonecore.proofs.Depths.{Depths}
use Rattle.lonecore.proofs.FewRunning.{Few}
use Rattle.lonecore.proofs.Working.{working, running-works, ready-works, member-index}

-- n generations above thread a
abbrev pub ancestor : State → ℕ → ℕ → ℕ
ancestor s zero a = a
ancestor s (suc n) a = parent_at s (ancestor s n a)

-- thread u is 0 or more generations above a thread at work
pub record Leads (s : State) (depth : ℕ → ℕ) (u : ℕ) : Type 0 where
  pub index : ℕ
  pub low : index < length (working s)
  pub generations : ℕ
  pub above : u ≡ ancestor s generations (get_or (working s) index 0)
  pub depths : depth u + generations ≡ depth (get_or (working s) index 0)

module _ (j : Job) (s : State) (ok : Sound j s) (few : Few s) (depth : ℕ → ℕ) (deep : Depths s depth) (levels : ℕ)
    (within : (u : ℕ) → Used s u → depth u < levels) where
  number : (u : ℕ) → Used s u → u < 32
  number = used_low s ok.sized.threads

  -- a child is one deeper
  deeper : (u v : ℕ) → Used s u → Used s v → parent_at s v ≡ u → depth v ≡ suc (depth u)
  deeper u v h k e = deep.child v k (child-not-root j s ok u v (number u h) k e) ∙ ap (λ t. suc (depth t)) e

  -- a thread at work leads to itself
  works : (u : ℕ) → Member u (working s) → Leads s depth u
  works u m = let z = member-index u (working s) m in record {
    index = z.0;
    low = z.1;
    generations = 0;
    above = sym z.2;
    depths = let e = ap depth z.2 in omega arith;
  }

  -- another where its child does
  over : (u v : ℕ) → Used s u → Used s v → parent_at s v ≡ u → Leads s depth v → Leads s depth u
  over u v h k e z = record {
    index = z.index;
    low = z.low;
    generations = suc z.generations;
    above = sym e ∙ ap (parent_at s) z.above;
    depths = let x = deeper u v h k e in let w = z.depths in omega arith;
  }

  -- a thread in use is at work or has a child in use
  next : (u : ℕ) → Used s u → Member u (working s) ⊎ ((v : ℕ) × Used s v × (parent_at s v ≡ u))
  next u h = go (ℕ_discrete (status_at s u) 1) (ℕ_discrete (status_at s u) 2) (ℕ_discrete (status_at s u) 4) (ℕ_discrete (status_at s u) 5)
    where
      used : (v : ℕ) → connected_at s v ≡ true → Used s v
      used v e = ⊎_elim (λ z. omega arith) (λ z. omega arith) (ok.links.linked v e).0

      go : Dec (status_at s u ≡ 1) → Dec (status_at s u ≡ 2) → Dec (status_at s u ≡ 4) → Dec (status_at s u ≡ 5)
          → Member u (working s) ⊎ ((v : ℕ) × Used s v × (parent_at s v ≡ u))
      go (yes e) _ _ _ = let (c, l, f) = ok.seats.seated u e in inl (rw f at (running-works s c l (rw f (number u h))))
      go (no _) (yes e) _ _ = inl (ready-works s u (ok.turns.stands u e))
      go (no _) (no _) (yes e) _ =
          let z = among-some s u 32 (rw (ok.tree.counted u h) at (ok.tree.waits u e)) in
          let m = child-some s u z.0 z.2 in
          inr (z.0, m.0, m.1)
      go (no _) (no _) (no _) (yes e) = let z = ok.links.lent u e in inr (z.0, used z.0 z.1, z.2)
      go (no a) (no b) (no c) (no d) = let w = few.awake u in let v = status-most (thread_at s u).status in absurd (omega arith)

  -- n bounds how much deeper it may still go
  leads-by : (n u : ℕ) → Used s u → levels ≤ n + depth u → Leads s depth u
  leads-by zero u h l = absurd (let z = within u h in omega arith)
  leads-by (suc n) u h l = ⊎_elim (λ m. works u m)
      (λ z. over u z.0 h z.1 z.2 (leads-by n z.0 z.1 (let x = deeper u z.0 h z.1 z.2 in omega arith))) (next u h)

  pub leads : (u : ℕ) → Used s u → Leads s depth u
  leads u h = leads-by levels u h (omega arith)
