-- The turns of the loop that clears a frame's words; and a frame that was cleared: its words are 0, and every other word is as it was.
-- Assumes nothing.
use mathlib.Core.List.{List, []}
use mathlib.Core.Logic.{◌⊎◌, inl, inr}
use mathlib.Core.Path.{◌≡◌, sym, ◌∙◌, ap}
use Prim.Native.Nat.{ℕ, zero, suc, ◌+◌, ◌-◌, ◌≤◌, ◌<◌, min}
use native.Mathlib.Decide.{ℕ_discrete, dec_lt, dec_le}
use native.Mathlib.Omega.{arith}
use lib.ListN.{get_or, set, length, length-set, get_or-eq_default}
use lib.Seq.{set_out, get_or-set_same, get_or-set_other}
use Rattle.stacklets.specs.Frames.{framed, wiped}
use Rattle.stacklets.proofs.Words.{length-framed, framed-out}

-- no word is cleared at first
pub wiped-starts : (ws : List ℕ) (base : ℕ) → ws ≡ wiped ws base (base - base)
unfolding framed
wiped-starts ws base = let e : base - base ≡ 0 = omega arith in rw e

-- one word more
pub wiped-more : (ws₀ : List ℕ) (base i : ℕ) (ws : List ℕ) → base ≤ i → ws ≡ wiped ws₀ base (i - base) → set ws i 0 ≡ wiped ws₀ base (i + 1 - base)
unfolding framed
wiped-more ws₀ base i ws l e =
    let k : i + 1 - base ≡ suc (i - base) = omega arith in
    let a : i ≡ base + (i - base) = omega arith in
    ap (λ m. set ws m 0) a ∙ rw (k, e)

-- past the last word nothing is cleared
past : (ws : List ℕ) (base m k : ℕ) → length ws ≤ base + m → wiped ws base (k + m) ≡ wiped ws base m
unfolding framed
past ws base m zero l = let e : 0 + m ≡ m = omega arith in ap (wiped ws base) e
past ws base m (suc k) l =
    let e : suc k + m ≡ suc (k + m) = omega arith in
    rw e (set_out (wiped ws base (k + m)) (base + (k + m)) 0 (let z = length-framed ws base (k + m) [] in omega arith)) ∙ past ws base m k l

-- the loop ends at the frame's end, or at the last word, or did not begin
pub wiped-ends : (ws₀ : List ℕ) (base n end i : ℕ) (ws : List ℕ) → end ≡ min (base + n) (length ws₀) → base ≤ i → (base ≤ end → i ≤ end) → end ≤ i
    → ws ≡ wiped ws₀ base (i - base) → ws ≡ wiped ws₀ base n
wiped-ends ws₀ base n end i ws m l f h e = e ∙ go (dec_lt i (base + n)) (dec_le base end)
  where
    go : Dec (i < base + n) → Dec (base ≤ end) → wiped ws₀ base (i - base) ≡ wiped ws₀ base n
    go (yes a) _ =
        let k : n ≡ (base + n - i) + (i - base) = omega arith in
        sym (past ws₀ base (i - base) (base + n - i) (omega arith)) ∙ ap (wiped ws₀ base) (sym k)
    go (no a) (yes b) = let c = f b in ap (wiped ws₀ base) (omega arith)
    go (no a) (no b) =
        let k : i - base ≡ (i - base - n) + n = omega arith in
        ap (wiped ws₀ base) k ∙ past ws₀ base n (i - base - n) (omega arith)

-- a word that was cleared is 0, and past the last word there is no other
cleared : (ws : List ℕ) (i : ℕ) → get_or (set ws i 0) i 0 ≡ 0
cleared ws i = go (dec_lt i (length ws))
  where
    go : Dec (i < length ws) → get_or (set ws i 0) i 0 ≡ 0
    go (yes l) = get_or-set_same ws i 0 0 l
    go (no l) = get_or-eq_default (set ws i 0) 0 {n = i} (let z = length-set ws i 0 in omega arith)

-- a word of the frame is 0
pub wiped-in : (ws : List ℕ) (base n i : ℕ) → base ≤ i → i < base + n → get_or (wiped ws base n) i 0 ≡ 0
unfolding framed
wiped-in ws base zero i l m = absurd (omega arith)
wiped-in ws base (suc n) i l m = go (ℕ_discrete i (base + n)) (λ h. wiped-in ws base n i l h)
  where
    go : Dec (i ≡ base + n) → (i < base + n → get_or (wiped ws base n) i 0 ≡ 0) → get_or (set (wiped ws base n) (base + n) 0) i 0 ≡ 0
    go (yes e) rec = rw e (cleared (wiped ws base n) (base + n))
    go (no e) rec = get_or-set_other (wiped ws base n) (base + n) i 0 0 e ∙ rec (omega arith)

-- any other word is as it was
pub wiped-out : (ws : List ℕ) (base n i : ℕ) → (i < base) ⊎ (base + n ≤ i) → get_or (wiped ws base n) i 0 ≡ get_or ws i 0
wiped-out ws base n i h = framed-out ws base n [] i h
