-- A place for each thread in use, below count * (levels - 1) + 1: the root's is 0, and another's tells which thread at work it leads to and
-- how deep it is. Different threads have different places (`place-once`), so there are at most so many in use. Assumes what `Leaves` does.
use mathlib.Core.Path.{◌≡◌, refl, sym, ◌∙◌, ap}
use Prim.Native.Nat.{ℕ, ◌+◌, ◌-◌, ◌*◌, ◌≤◌, ◌<◌}
use native.Mathlib.Decide.{ℕ_discrete, dec_lt}
use native.Mathlib.Nat.{mul-le-mul_right}
use native.Mathlib.Omega.{arith}
use lib.ListN.{get_or, length}
use Rattle.rules.specs.State.{Job, State}
use Rattle.rules.specs.Sound.{Sound, Used, status_at}
use Rattle.lonecore.proofs.FewRunning.{Few}
use Rattle.lonecore.proofs.Working.{working, working-length}
use Rattle.lonecore.proofs.Depths.{Depths}
use Rattle.lonecore.proofs.Leaves.{ancestor, Leads, leads}

-- NUMBERS. Of the form k * m + r, with r from 1 to m: below n * m + 1 where k is below n
pub spread-low : (m k r n : ℕ) → k < n → r ≤ m → k * m + r < n * m + 1
spread-low m k r n l h = omega (arith, mul-le-mul_right m l)

-- such a number has one k and one r
pub spread-once : (m k l r q : ℕ) → 1 ≤ r → r ≤ m → 1 ≤ q → q ≤ m → k * m + r ≡ l * m + q → (k ≡ l) × (r ≡ q)
spread-once m k l r q a b c d e = go (dec_lt k l) (dec_lt l k)
  where
    go : Dec (k < l) → Dec (l < k) → (k ≡ l) × (r ≡ q)
    go (yes x) _ = absurd (omega (arith, mul-le-mul_right m x))
    go (no x) (yes y) = absurd (omega (arith, mul-le-mul_right m y))
    go (no x) (no y) = let z : k ≡ l = omega arith in (z, let w : k * m ≡ l * m = ap (λ i. i * m) z in omega arith)

module _ (j : Job) (s : State) (ok : Sound j s) (few : Few s) (depth : ℕ → ℕ) (deep : Depths s depth) (levels : ℕ)
    (within : (u : ℕ) → Used s u → depth u < levels) where
  leads-of : (u : ℕ) → Used s u → Leads s depth u
  leads-of = leads j s ok few depth deep levels within

  -- of a thread that is in use or not, the root or not
  unfoldable place_by : (u : ℕ) → Dec (Used s u) → Dec (u ≡ 0) → ℕ
  place_by u _ (yes e) = 0
  place_by u (yes h) (no n) = (leads-of u h).index * (levels - 1) + depth u
  place_by u (no _) (no n) = 0

  pub place : ℕ → ℕ
  place u = place_by u (dec_lt 0 (status_at s u)) (ℕ_discrete u 0)

  -- the place of a thread in use
  pub data Place (u : ℕ) : Type 0 where
    first : u ≡ 0 → place u ≡ 0 → Place u
    other : (z : Leads s depth u) → 1 ≤ depth u → depth u ≤ levels - 1 → place u ≡ z.index * (levels - 1) + depth u → Place u

  pub place_of : (u : ℕ) → Used s u → Place u
  unfolding place place_by
  place_of u h = go (dec_lt 0 (status_at s u)) refl (ℕ_discrete u 0) refl
    where
      go : (a : Dec (Used s u)) → dec_lt 0 (status_at s u) ≡ a → (b : Dec (u ≡ 0)) → ℕ_discrete u 0 ≡ b → Place u
      go a p (yes e) q = first e (ap (place_by u (dec_lt 0 (status_at s u))) q)
      go (no a) p (no n) q = absurd (a h)
      go (yes g) p (no n) q =
          let x = deep.child u g n in
          let y = within u g in
          other (leads-of u g) (omega arith) (omega arith) (ap (λ b. place_by u (dec_lt 0 (status_at s u)) b) q ∙ ap (λ a. place_by u a (no n)) p)

  pub working-most : length (working s) ≤ s.count
  working-most = let x = working-length s in let y = few.room in omega arith

  pub place-low : (u : ℕ) → Used s u → place u < s.count * (levels - 1) + 1
  place-low u h = go (place_of u h)
    where
      go : Place u → place u < s.count * (levels - 1) + 1
      go (first e f) = omega arith
      go (other z a b f) =
          let x = z.low in
          let y = working-most in
          let w = spread-low (levels - 1) z.index (depth u) s.count (omega arith) b in
          omega arith

  -- threads that lead to one thread from one depth are one
  same-lead : (u v : ℕ) (z : Leads s depth u) (w : Leads s depth v) → z.index ≡ w.index → depth u ≡ depth v → u ≡ v
  same-lead u v z w e f = z.above ∙ ap (λ n. ancestor s n (leaf z.index)) same ∙ ap (λ i. ancestor s w.generations (leaf i)) e ∙ sym w.above
    where
      leaf : ℕ → ℕ
      leaf i = get_or (working s) i 0

      same : z.generations ≡ w.generations
      same = let x = z.depths in let y = w.depths in let k = ap (λ i. depth (get_or (working s) i 0)) e in omega arith

  -- different threads have different places
  pub place-once : (u v : ℕ) → Used s u → Used s v → place u ≡ place v → u ≡ v
  place-once u v h k e = go (place_of u h) (place_of v k)
    where
      go : Place u → Place v → u ≡ v
      go (first x f) (first y g) = x ∙ sym y
      go (first x f) (other w a b g) = absurd (omega arith)
      go (other z a b f) (first y g) = absurd (omega arith)
      go (other z a b f) (other w c d g) =
          let q = spread-once (levels - 1) z.index w.index (depth u) (depth v) a b c d (sym f ∙ e ∙ g) in
          same-lead u v z w q.0 q.1
