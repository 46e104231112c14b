-- Laws of the loop that writes a full record's data. Assumes nothing.
use Rattle.std.proofs.Common.{◌≡◌, ℕ, ◌+◌, ◌*◌, ◌/◌, ◌%◌, ◌<◌, ◌≤◌, Bool, true, false, cond, eqb, ltb, List, length, get_or, set, sym, refl, ap, ◌∙◌, arith, length-set, get_or-set_other, get_or-set_same, ltb-false, ltb-true, eqb-true}
use borrow.Author.Tests.{eqb-false}
use Rattle.hex_format.specs.Digits.{capital}
use Rattle.hex_format.specs.Text.{pairs_of}
use Rattle.intel_hex.specs.Found.{Doubled}
use Rattle.intel_hex.proofs.TextLaws.{pair-high, pair-low}
use Rattle.intel_hex.proofs.RoundTrip.{odd}

-- one byte more, twice
pub doubled-more : (bytes twice : List ℕ) (i : ℕ) → i < 16 → length twice ≡ 32 → Doubled bytes (2 * i) twice
    → Doubled bytes (2 * (i + 1)) (set (set twice (2 * i) (get_or bytes i 0)) (2 * i + 1) (get_or bytes i 0))
doubled-more bytes twice i h size d k l = one (ltb k (2 * i)) refl
  where
    two : (b : Bool) → 2 * i ≤ k → eqb k (2 * i) ≡ b → get_or (set (set twice (2 * i) (get_or bytes i 0)) (2 * i + 1) (get_or bytes i 0)) k 0 ≡ get_or bytes (k / 2) 0
    two true g e =
        let same : k ≡ 2 * i = eqb-true k (2 * i) e in
        let half : k / 2 ≡ i = omega arith in
        rw (half, same) (get_or-set_other (set twice (2 * i) (get_or bytes i 0)) (2 * i + 1) (2 * i) (get_or bytes i 0) 0 (λ z. omega arith) ∙ get_or-set_same twice (2 * i) (get_or bytes i 0) 0 (omega arith))
    two false g e =
        let same : k ≡ 2 * i + 1 = next k (2 * i) g (omega arith) (eqb-false k (2 * i) e) in
        let half : k / 2 ≡ i = omega arith in
        rw (half, same) (get_or-set_same (set twice (2 * i) (get_or bytes i 0)) (2 * i + 1) (get_or bytes i 0) 0 (omega (arith, length-set twice (2 * i) (get_or bytes i 0))))
      where
        next : (k n : ℕ) → n ≤ k → k < n + 2 → (k ≡ n → ⊥) → k ≡ n + 1
        next k n g l z = by (ltb k (n + 1)) refl
          where
            by : (b : Bool) → ltb k (n + 1) ≡ b → k ≡ n + 1
            by true e = absurd (z (omega (arith, ltb-true k (n + 1) e)))
            by false e = omega (arith, ltb-false k (n + 1) e)

    one : (b : Bool) → ltb k (2 * i) ≡ b → get_or (set (set twice (2 * i) (get_or bytes i 0)) (2 * i + 1) (get_or bytes i 0)) k 0 ≡ get_or bytes (k / 2) 0
    one true e =
        let b : k < 2 * i = ltb-true k (2 * i) e in
        get_or-set_other (set twice (2 * i) (get_or bytes i 0)) (2 * i + 1) k (get_or bytes i 0) 0 (λ z. omega arith) ∙ get_or-set_other twice (2 * i) k (get_or bytes i 0) 0 (λ z. omega arith) ∙ d k b
    one false e = two (eqb k (2 * i)) (ltb-false k (2 * i) e) refl

-- one character of the loop
pub character-at : (bytes : List ℕ) (i byte d : ℕ) → i < 2 * length bytes → byte ≡ get_or bytes (i / 2) 0 → d ≡ cond (eqb (i % 2) 0) (byte / 16) (byte % 16) → capital d ≡ get_or (pairs_of bytes) i 0
character-at bytes i byte d h is e = go (eqb (i % 2) 0) refl
  where
    go : (t : Bool) → eqb (i % 2) 0 ≡ t → capital d ≡ get_or (pairs_of bytes) i 0
    go true t =
        let n : 2 * (i / 2) ≡ i = omega (arith, eqb-true (i % 2) 0 t) in
        rw (e, t, is) (sym (pair-high bytes (i / 2) (omega arith)) ∙ ap (λ (k : ℕ). get_or (pairs_of bytes) k 0) n)
    go false t =
        let n : 2 * (i / 2) + 1 ≡ i = sym (odd i (eqb-false (i % 2) 0 t)) in
        rw (e, t, is) (sym (pair-low bytes (i / 2) (omega arith)) ∙ ap (λ (k : ℕ). get_or (pairs_of bytes) k 0) n)
