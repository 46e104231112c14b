-- The turns of the loops that lay a frame: from its first word up, and from its last word down. Assumes nothing.
use mathlib.Core.List.{List}
use mathlib.Core.Logic.{inl, inr}
use mathlib.Core.Path.{◌≡◌, sym, ◌∙◌, ap}
use Prim.Native.Nat.{ℕ, zero, suc, ◌+◌, ◌-◌, ◌≤◌, ◌<◌}
use native.Mathlib.Numerals.{add-one, sub-one}
use native.Mathlib.Omega.{arith}
use lib.ListN.{get_or, set, drop}
use lib.Seq.{get_or-drop, drop-drop}
use Rattle.stacklets.specs.Frames.{arguments_at, framed}
use Rattle.stacklets.proofs.Words.{framed-out, framed-first, arguments-same}

-- upwards: one word more, and the whole frame
pub up_more : (ws₀ : List ℕ) (base : ℕ) (vs : List ℕ) (i : ℕ) (ws us : List ℕ) (v : ℕ) → ws ≡ framed ws₀ base i vs → v ≡ get_or vs i 0 → us ≡ set ws (base + i) v
    → us ≡ framed ws₀ base (i + 1) vs
unfolding framed
up_more ws₀ base vs i ws us v e f g = rw (g, f, e, add-one)

-- an argument at or above the base is not yet written over
pub up-reads : (ws₀ : List ℕ) (base : ℕ) (vs : List ℕ) (from given i : ℕ) (ws : List ℕ) → ws ≡ framed ws₀ base i vs → base ≤ from
    → get_or (arguments_at ws from given) i 0 ≡ get_or (arguments_at ws₀ from given) i 0
up-reads ws₀ base vs from given i ws e h = arguments-same ws₀ ws from given i (rw e (framed-out ws₀ base i vs (from + i) (inr (omega arith))))

-- downwards: the words from i on are laid
abbrev pub Above : List ℕ → ℕ → ℕ → List ℕ → ℕ → List ℕ → Type 0
Above ws₀ base n vs i ws = ws ≡ framed ws₀ (base + i) (n - i) (drop i vs)

pub down-starts : (ws₀ : List ℕ) (base n : ℕ) (vs : List ℕ) → Above ws₀ base n vs n ws₀
unfolding framed
down-starts ws₀ base n vs = let e : n - n ≡ 0 = omega arith in rw e

lower : (ws₀ : List ℕ) (base n : ℕ) (vs : List ℕ) (j : ℕ) (ws us : List ℕ) (v : ℕ) → suc j ≤ n → Above ws₀ base n vs (suc j) ws → v ≡ get_or vs j 0 → us ≡ set ws (base + j) v
    → Above ws₀ base n vs j us
lower ws₀ base n vs j ws us v l e f g =
    let b : base + suc j ≡ suc (base + j) = omega arith in
    let y : suc j ≡ j + 1 = omega arith in
    let d : drop (suc j) vs ≡ drop 1 (drop j vs) = ap (λ m. drop m vs) y ∙ sym (drop-drop 1 j vs) in
    let z : j ≡ j + 0 = omega arith in
    let x : get_or vs j 0 ≡ get_or (drop j vs) 0 0 = ap (λ m. get_or vs m 0) z ∙ sym (get_or-drop j vs 0 0) in
    let m : suc (n - suc j) ≡ n - j = omega arith in
    g ∙ rw (f, e, b, d, x) (framed-first ws₀ (base + j) (n - suc j) (drop j vs)) ∙ ap (λ k. framed ws₀ (base + j) k (drop j vs)) m

pub down-more : (ws₀ : List ℕ) (base n : ℕ) (vs : List ℕ) (i : ℕ) (ws us : List ℕ) (v : ℕ) → 0 < i → i ≤ n → Above ws₀ base n vs i ws → v ≡ get_or vs (i - 1) 0
    → us ≡ set ws (base + (i - 1)) v → Above ws₀ base n vs (i - 1) us
down-more ws₀ base n vs zero ws us v p l e f g = absurd (omega arith)
down-more ws₀ base n vs (suc j) ws us v p l e f g = rw sub-one (lower ws₀ base n vs j ws us v l e (rw sub-one at f) (rw sub-one at g))

-- an argument that starts below the base is not yet written over
pub down-reads : (ws₀ : List ℕ) (base n : ℕ) (vs : List ℕ) (from given i : ℕ) (ws : List ℕ) → Above ws₀ base n vs i ws → from < base → 0 < i
    → get_or (arguments_at ws from given) (i - 1) 0 ≡ get_or (arguments_at ws₀ from given) (i - 1) 0
down-reads ws₀ base n vs from given i ws e h p =
    arguments-same ws₀ ws from given (i - 1) (rw e (framed-out ws₀ (base + i) (n - i) (drop i vs) (from + (i - 1)) (inl (omega arith))))
