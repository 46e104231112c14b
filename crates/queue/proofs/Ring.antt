-- Laws of a ring of numbers, for any capacity and any length. Assumes nothing.
use mathlib.Core.Path.{◌≡◌, refl, ap, sym, ◌∙◌}
use mathlib.Core.List.{List, [], ◌∷◌, ◌++◌}
use mathlib.Core.Logic.{◌⊎◌, inl, inr, ⊎_elim}
use Prim.Native.Nat.{ℕ, zero, suc, ◌+◌, ◌-◌, ◌%◌, ◌≤◌, ◌<◌}
use native.Mathlib.Nat.{lt_of_lt_of_le, mod-lt, mod-mod, mod-add-mod, suc-mod, add-suc, add-zero, zero-add, suc-add, mod-eq_of_lt, mod-eq-sub-mod}
use native.Mathlib.Numerals.{add-one}
use native.Mathlib.Omega.{arith}
use lib.ListN.{length, get_or, set}
use lib.Seq.{get_or-set_same, get_or-set_other}
use Rattle.queue.proofs.Ascending.{get_or-ascending}
use Rattle.queue.specs.Contents.{ring, ascending_from}

-- a ring of n numbers has n numbers
pub length-ring : (cap : ℕ) (xs : List ℕ) (h n : ℕ) → length (ring cap xs h n) ≡ n
unfolding ring
length-ring cap xs h zero = refl
length-ring cap xs h (suc n) = ap suc (length-ring cap xs (suc h) n)

-- the head counts by its remainder alone
pub ring-mod : (cap : ℕ) (xs : List ℕ) (g h n : ℕ) → g % cap ≡ h % cap → ring cap xs g n ≡ ring cap xs h n
unfolding ring
ring-mod cap xs g h zero e = refl
ring-mod cap xs g h (suc n) e = rw (e, ring-mod cap xs (suc g) (suc h) n (suc-mod g cap ∙ ap (λ (k : ℕ). suc k % cap) e ∙ sym (suc-mod h cap)))

-- one number more stands at the tail
pub ring-snoc : (cap : ℕ) (xs : List ℕ) (h n : ℕ) → ring cap xs h (suc n) ≡ ring cap xs h n ++ (get_or xs ((h + n) % cap) 0 ∷ [])
unfolding ring
ring-snoc cap xs h zero = rw add-zero
ring-snoc cap xs h (suc n) = rw (ring-snoc cap xs (suc h) n, add-suc, suc-add)

lt-or-le : (x c : ℕ) → (x < c) ⊎ (c ≤ x)
lt-or-le x zero = inr (omega arith)
lt-or-le zero (suc c) = inl (omega arith)
lt-or-le (suc x) (suc c) = ⊎_elim (λ h. inl (omega arith)) (λ h. inr (omega arith)) (lt-or-le x c)

-- below twice cap a remainder takes cap off once at most
wraps : (cap x : ℕ) → x < cap + cap → ((x < cap) × (x % cap ≡ x)) ⊎ ((cap ≤ x) × (x % cap + cap ≡ x))
wraps cap x l =
    ⊎_elim (λ h. inl (h, mod-eq_of_lt h))
    (λ h. let e : x % cap ≡ x - cap = mod-eq-sub-mod h ∙ mod-eq_of_lt (omega arith) in inr (h, omega arith))
    (lt-or-le x cap)

-- two of fewer than cap places in a row have different remainders
pub apart : (cap h i n : ℕ) → i < n → n < cap → (h + i) % cap ≡ (h + n) % cap → ⊥
apart cap h i n l m e =
    let b : h % cap < cap = mod-lt h (omega arith) in
    let f : (h % cap + i) % cap ≡ (h % cap + n) % cap = mod-add-mod h cap i ∙ e ∙ sym (mod-add-mod h cap n) in
    ⊎_elim (λ u. ⊎_elim (λ v. omega arith) (λ v. omega arith) (wraps cap (h % cap + n) (omega arith)))
    (λ u. ⊎_elim (λ v. omega arith) (λ v. omega arith) (wraps cap (h % cap + n) (omega arith)))
    (wraps cap (h % cap + i) (omega arith))

-- a store past the numbers changes none of them
pub ring-set : (cap : ℕ) (xs : List ℕ) (p v h n : ℕ) → ((i : ℕ) → i < n → (h + i) % cap ≡ p → ⊥) → ring cap (set xs p v) h n ≡ ring cap xs h n
unfolding ring
ring-set cap xs p v h zero f = refl
ring-set cap xs p v h (suc n) f =
    rw (get_or-set_other xs p (h % cap) v 0 (λ e. f 0 (omega arith) (rw add-zero e)), ring-set cap xs p v (suc h) n (λ i l e. f (suc i) (omega arith) (rw (add-suc, ← suc-add) e)))

-- a store at the tail of fewer than cap numbers puts one number there
pub ring-append : (cap : ℕ) (xs : List ℕ) (v h n : ℕ) → n < cap → cap ≤ length xs → ring cap (set xs ((h + n) % cap) v) h (suc n) ≡ ring cap xs h n ++ (v ∷ [])
ring-append cap xs v h n l m =
    rw (ring-snoc, get_or-set_same xs ((h + n) % cap) v 0 (lt_of_lt_of_le (mod-lt (h + n) (omega arith)) m), ring-set cap xs ((h + n) % cap) v h n (λ i k. apart cap h i n k l))

-- the numbers after the first, with the head counted on
pub ring-rest : (cap : ℕ) (xs : List ℕ) (h n : ℕ) → ring cap xs (suc h) n ≡ ring cap xs ((h % cap + 1) % cap) n
ring-rest cap xs h n = ring-mod cap xs (suc h) ((h % cap + 1) % cap) n (suc-mod h cap ∙ rw (mod-mod, add-one))

-- a ring whose places hold their own numbers holds ascending numbers
pub ring-ascending : (cap h n : ℕ) → h + n ≤ cap → ring cap (ascending_from 0 cap) h n ≡ ascending_from h n
unfolding ring
ring-ascending cap h zero l = refl
ring-ascending cap h (suc n) l =
    let s : h % cap ≡ h = mod-eq_of_lt (omega arith) in
    let g : get_or (ascending_from 0 cap) h 0 ≡ h = get_or-ascending 0 cap h (omega arith) ∙ zero-add h in
    rw (s, g, ring-ascending cap (suc h) n (omega arith))

-- a bound of the places' numbers bounds the ring's
pub ring-below : (b cap : ℕ) (places : List ℕ) (h n : ℕ) → 0 < b → ((i : ℕ) → get_or places i 0 < b) → (i : ℕ) → get_or (ring cap places h n) i 0 < b
unfolding ring
ring-below b cap places h zero z f i = z
ring-below b cap places h (suc n) z f zero = f (h % cap)
ring-below b cap places h (suc n) z f (suc i) = ring-below b cap places (suc h) n z f i
