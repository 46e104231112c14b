-- Few threads are in use: at most count * (levels - 1) + 1 (`few-used`), where levels is how many routines deep they go. Where that is at
-- most 16 and a child is to be born that goes no deeper, of a running thread (`room-step`) or of a seed for an idle core with the ready
-- queue empty (`room-steal`), a thread number and a stacklet are free. Assumes a sound state that is `Few`, and depths (`Depths`).
use mathlib.Core.List.{[]}
use mathlib.Core.Path.{◌≡◌, sym, ◌∙◌, ap}
use Prim.Native.Nat.{ℕ, suc, ◌+◌, ◌-◌, ◌*◌, ◌≤◌, ◌<◌}
use native.Mathlib.Decide.{ℕ_discrete}
use native.Mathlib.Omega.{arith}
use lib.ListN.{get_or, length}
use Rattle.forkjoin.proofs.Pigeonhole.{pigeonhole}
use Rattle.thread.specs.Thread.{none}
use Rattle.rules.specs.State.{Job, State, on_core}
use Rattle.rules.specs.Sound.{Sound, Used}
use Rattle.lonecore.proofs.FewRunning.{Few, idle-fewer}
use Rattle.lonecore.proofs.Working.{working, working-length, running-works, member-index}
use Rattle.lonecore.proofs.Depths.{Depths}
use Rattle.lonecore.proofs.Places.{spread-low, spread-once, place, Place, first, other, place_of, working-most, place-low, place-once}
use Rattle.lonecore.proofs.Exhausted.{Many, no_threads, no-stacklets}

-- n different numbers below m that leave one out are fewer than m
pigeonhole-more : (m n q : ℕ) (f : ℕ → ℕ) → q < m → ((i : ℕ) → i < n → f i < m) → ((i : ℕ) → i < n → ¬ (f i ≡ q))
    → ((i k : ℕ) → i < n → k < n → f i ≡ f k → i ≡ k) → suc n ≤ m
pigeonhole-more m n q f l low new once =
    pigeonhole m (suc n) g (λ i h. g-low i h (ℕ_discrete i n)) (λ i k h o. g-once i k h o (ℕ_discrete i n) (ℕ_discrete k n))
  where
    pick : (i : ℕ) → Dec (i ≡ n) → ℕ
    pick i (yes e) = q
    pick i (no d) = f i

    g : ℕ → ℕ
    g i = pick i (ℕ_discrete i n)

    g-low : (i : ℕ) → i < suc n → (o : Dec (i ≡ n)) → pick i o < m
    g-low i h (yes e) = l
    g-low i h (no d) = low i (omega arith)

    g-once : (i k : ℕ) → i < suc n → k < suc n → (o : Dec (i ≡ n)) (p : Dec (k ≡ n)) → pick i o ≡ pick k p → i ≡ k
    g-once i k h o (yes e) (yes x) y = e ∙ sym x
    g-once i k h o (yes e) (no x) y = absurd (new k (omega arith) (sym y))
    g-once i k h o (no d) (yes x) y = absurd (new i (omega arith) y)
    g-once i k h o (no d) (no x) y = once i k (omega arith) (omega arith) y

module _ (j : Job) (s : State) (ok : Sound j s) (few : Few s) (depth : ℕ → ℕ) (deep : Depths s depth) (levels : ℕ)
    (within : (u : ℕ) → Used s u → depth u < levels) where
  abbrev most : ℕ
  most = s.count * (levels - 1) + 1

  abbrev stands : ℕ → ℕ
  stands = place j s ok few depth deep levels within

  low : (u : ℕ) → Used s u → stands u < most
  low = place-low j s ok few depth deep levels within

  once : (u v : ℕ) → Used s u → Used s v → stands u ≡ stands v → u ≡ v
  once = place-once j s ok few depth deep levels within

  -- any n different threads in use are at most so many
  pub few-used : (n : ℕ) (f : ℕ → ℕ) → ((i : ℕ) → i < n → Used s (f i)) → ((i k : ℕ) → i < n → k < n → f i ≡ f k → i ≡ k)
      → n ≤ s.count * (levels - 1) + 1
  few-used n f used one = pigeonhole most n (λ i. stands (f i)) (λ i l. low (f i) (used i l))
      (λ i k l m e. one i k l m (once (f i) (f k) (used i l) (used k m) e))

  -- fewer where a place k * (levels - 1) + r is left out
  module _ (k r : ℕ) (k-low : k < s.count) (r-most : r ≤ levels - 1)
      (left_out : (u : ℕ) → Used s u → ¬ (stands u ≡ k * (levels - 1) + r)) (small : s.count * (levels - 1) + 1 ≤ 16) where
    not-many : Many s 16 → ⊥
    not-many many =
        let z = pigeonhole-more most 16 (k * (levels - 1) + r) (λ i. stands (many.thread i)) (spread-low (levels - 1) k r s.count k-low r-most)
        (λ i l. low (many.thread i) (many.used i l)) (λ i l. left_out (many.thread i) (many.used i l))
        (λ i n l m e. many.once i n l m (once (many.thread i) (many.thread n) (many.used i l) (many.used n m) e)) in
        omega arith

    has_room : ¬ (s.queues.free_threads ≡ []) × ¬ (s.queues.free_stacklets ≡ [])
    has_room = ((λ e. not-many (no_threads j s ok e)), λ e. not-many (no-stacklets j s ok e))

  -- the thread on a core is about to fork: a thread that leads to it is no deeper than it
  pub room-step : (c : ℕ) → c < s.count → on_core s c < none → suc (depth (on_core s c)) < levels → s.count * (levels - 1) + 1 ≤ 16
      → ¬ (s.queues.free_threads ≡ []) × ¬ (s.queues.free_stacklets ≡ [])
  room-step c l b d small = has_room at.0 (suc (depth (on_core s c)))
      (let x = at.1 in let y = working-most j s ok few depth deep levels within in omega arith) (omega arith)
      (λ u h. left_out u (place_of j s ok few depth deep levels within u h)) small
    where
      at : (k : ℕ) × (k < length (working s)) × (get_or (working s) k 0 ≡ on_core s c)
      at = member-index (on_core s c) (working s) (running-works s c l b)

      left_out : (u : ℕ) → Place j s ok few depth deep levels within u → ¬ (stands u ≡ at.0 * (levels - 1) + suc (depth (on_core s c)))
      left_out u (first x f) e = omega arith
      left_out u (other z x y f) e =
          let q = spread-once (levels - 1) z.index at.0 (depth u) (suc (depth (on_core s c))) x y (omega arith) (omega arith) (sym f ∙ e) in
          let v = z.depths in
          let w = ap (λ i. depth (get_or (working s) i 0)) q.0 in
          let t = ap depth at.2 in
          let r = q.1 in
          omega arith

  -- a seed is stolen for an idle core: no thread leads to an index behind the last one
  pub room-steal : (c t : ℕ) → c < s.count → none ≤ on_core s c → s.queues.ready ≡ [] → suc (depth t) < levels
      → s.count * (levels - 1) + 1 ≤ 16 → ¬ (s.queues.free_threads ≡ []) × ¬ (s.queues.free_stacklets ≡ [])
  room-steal c t l i e d small = has_room (length (working s)) (suc (depth t)) spare (omega arith)
      (λ u h. left_out u (place_of j s ok few depth deep levels within u h)) small
    where
      spare : length (working s) < s.count
      spare = let x = working-length s in let y = idle-fewer s c s.count l i in let z = ap length e in omega arith

      left_out : (u : ℕ) → Place j s ok few depth deep levels within u → ¬ (stands u ≡ length (working s) * (levels - 1) + suc (depth t))
      left_out u (first x f) q = omega arith
      left_out u (other z x y f) q =
          let w = spread-once (levels - 1) z.index (length (working s)) (depth u) (suc (depth t)) x y (omega arith) (omega arith) (sym f ∙ q) in
          let v = z.low in
          let r = w.0 in
          omega arith
