-- Arrays as the functions that the theory speaks of: slots and thread tables by index, lent words by address from a base on, and
-- a part of an array as a thread's slots. A machine's state is turned into a pool by these.
use mathlib.Core.Path.{◌∙◌, ◌≡◌, ap, fun_ext, refl, sym}
use mathlib.Core.List.{List}
use mathlib.Core.Logic.{ite}
use Prim.Native.Nat.{◌+◌, ◌-◌, ◌<◌, ◌≤◌, ℕ}
use native.Mathlib.Decide.{dec_le, dec_lt, ℕ_discrete}
use native.Mathlib.Omega.{arith}
use lib.ListN.{get_or, length, set}
use lib.Seq.{ext_get_or, get_or-set_other, get_or-set_same}
use Rattle.forkjoin.proofs.Update.{update}

-- an array as a function
abbrev pub listed : {A : Type 0} → List A → A → (ℕ → A)
listed l z k = get_or l k z

pub listed-set : {A : Type 0} (l : List A) (z : A) (i : ℕ) (v : A) → i < length l → listed (set l i v) z ≡ update (listed l z) i v
listed-set l z i v h = fun_ext (λ k. go k (ℕ_discrete k i))
  where
    go : (k : ℕ) (o : Dec (k ≡ i)) → get_or (set l i v) k z ≡ ite o v (get_or l k z)
    go k (yes e) = ap (λ x. get_or (set l i v) x z) e ∙ get_or-set_same l i v z h
    go k (no n) = get_or-set_other l i k v z n

-- an array of words that stands from an address on, as a function of addresses
abbrev pub words-from : ℕ → List ℕ → (ℕ → ℕ)
words-from base l a = ite (dec_le base a) (get_or l (a - base) 0) 0

pub words-set : (base : ℕ) (l : List ℕ) (a v : ℕ) → base ≤ a → a < base + length l
    → words-from base (set l (a - base) v) ≡ update (words-from base l) a v
words-set base l a v h k = fun_ext (λ b. go b (dec_le base b) (ℕ_discrete b a))
  where
    go : (b : ℕ) (o : Dec (base ≤ b)) (e : Dec (b ≡ a))
        → ite o (get_or (set l (a - base) v) (b - base) 0) 0 ≡ ite e v (ite o (get_or l (b - base) 0) 0)
    go b (yes x) (yes e) = ap (λ c. get_or (set l (a - base) v) (c - base) 0) e ∙ get_or-set_same l (a - base) v 0 (omega arith)
    go b (yes x) (no n) = get_or-set_other l (a - base) (b - base) v 0 (omega arith)
    go b (no x) (yes e) = absurd (omega arith)
    go b (no x) (no n) = refl

-- and back: equal functions are equal arrays
pub words-eq : (base : ℕ) (l m : List ℕ) → length l ≡ length m → words-from base l ≡ words-from base m → l ≡ m
words-eq base l m e h = ext_get_or 0 l m e (λ i _. at i (ap (λ f. f (i + base)) h))
  where
    clean : (x : List ℕ) (i : ℕ) (o : Dec (base ≤ i + base)) → ite o (get_or x (i + base - base) 0) 0 ≡ get_or x i 0
    clean x i (yes _) = ap (λ j. get_or x j 0) (omega arith)
    clean x i (no n) = absurd (n (omega arith))

    at : (i : ℕ) → words-from base l (i + base) ≡ words-from base m (i + base) → get_or l i 0 ≡ get_or m i 0
    at i q = sym (clean l i (dec_le base (i + base))) ∙ q ∙ clean m i (dec_le base (i + base))

-- n words of an array from b on, as a thread's slots
abbrev pub frame : List ℕ → ℕ → ℕ → (ℕ → ℕ)
frame st b n k = ite (dec_lt k n) (get_or st (b + k) 0) 0

pub frame-own : (st : List ℕ) (b n d v : ℕ) → d < n → b + n ≤ length st → frame (set st (b + d) v) b n ≡ update (frame st b n) d v
frame-own st b n d v h k = fun_ext (λ j. go j (dec_lt j n) (ℕ_discrete j d))
  where
    go : (j : ℕ) (o : Dec (j < n)) (e : Dec (j ≡ d)) → ite o (get_or (set st (b + d) v) (b + j) 0) 0 ≡ ite e v (ite o (get_or st (b + j) 0) 0)
    go j (yes x) (yes e) = ap (λ c. get_or (set st (b + d) v) (b + c) 0) e ∙ get_or-set_same st (b + d) v 0 (omega arith)
    go j (yes x) (no m) = get_or-set_other st (b + d) (b + j) v 0 (omega arith)
    go j (no x) (yes e) = absurd (omega arith)
    go j (no x) (no m) = refl

-- a store outside a frame leaves it
pub frame-other : (st : List ℕ) (i v b n : ℕ) → ((k : ℕ) → k < n → ¬ (b + k ≡ i)) → frame (set st i v) b n ≡ frame st b n
frame-other st i v b n h = fun_ext (λ j. go j (dec_lt j n))
  where
    go : (j : ℕ) (o : Dec (j < n)) → ite o (get_or (set st i v) (b + j) 0) 0 ≡ ite o (get_or st (b + j) 0) 0
    go j (yes x) = get_or-set_other st i (b + j) v 0 (h j x)
    go j (no x) = refl
