-- Laws of the loops over a full record's characters. Assumes nothing.
use Rattle.std.specs.Prelude.{min, max}
use Rattle.std.proofs.Common.{◌≡◌, ℕ, zero, suc, ◌+◌, ◌*◌, ◌/◌, ◌%◌, ◌<◌, ◌≤◌, Bool, true, false, cond, ◌||◌, eqb, ltb, leb, List, [], length, get_or, drop, set, sym, refl, ◌∙◌, true≢false, append-nil, zero-add, add-one, arith, drop_of_length-le, ltb-false, ltb-true, le-ltb, lt-ltb, eq-eqb, ne_eqb, eqb-true, leb-true}
use lib.Seq.{sets}
use Rattle.hex_format.specs.Digits.{is_digit, digit_value}
use Rattle.intel_hex.specs.Found.{digit_weight, Valued, Digits, pair_at, sum_at, pairs_at, Weighs}
use Rattle.intel_hex.proofs.DigitLaws.{every, each, value-most, weight-value}
use Rattle.intel_hex.proofs.TextLaws.{count_up, counted-length}
use Rattle.intel_hex.proofs.Standing.{pair-value, sum-most}
use Rattle.intel_hex.proofs.Storing.{sets-front}
use Rattle.intel_hex.proofs.Said.{pairs-size, one-more-byte}

-- what `value` computes
pub computed : ℕ → ℕ
computed c = min ((max ((c + 198) % 256) 6 + 10) % 256) (((c + 255) % 256 % 32 + 64 * ((c + 255) % 256 / 64) + 202) % 256)

-- it is right of each of 256 characters
right-value : ℕ → ℕ → Bool
right-value c x = cond (is_digit c) (eqb (computed c) (digit_value c)) (leb 16 (computed c))

tested-values : every right-value 0 (count_up 256 0) ≡ true
unfolding computed right-value count_up is_digit digit_value
tested-values = refl

pub right : (c : ℕ) → c < 256 → Valued c (computed c)
unfolding right-value
right c h =
    let e : right-value (0 + c) (get_or (count_up 256 0) c 0) ≡ true = each right-value (count_up 256 0) 0 c tested-values (rw (counted-length 256 0) h) in
    let t : cond (is_digit c) (eqb (computed c) (digit_value c)) (leb 16 (computed c)) ≡ true = rw (zero-add c) at e in
    record { digit = λ d. eqb-true (computed c) (digit_value c) (rw d at t); other = λ d. leb-true 16 (computed c) (rw d at t) }

pub value-told : (c m r : ℕ) → c < 256 → m ≡ max ((c + 198) % 256) 6 → r ≡ min ((m + 10) % 256) (((c + 255) % 256 % 32 + 64 * ((c + 255) % 256 / 64) + 202) % 256) → Valued c r
unfolding computed
value-told c m r h em er = let is : r ≡ computed c = er ∙ rw em in rw is (right c h)

-- what `plain` computes, likewise
pub computed-plain : ℕ → ℕ
computed-plain c = min ((c % 32 + 240) % 256) (c % 32 + 9)

right-plain : ℕ → ℕ → Bool
right-plain c x = cond (is_digit c) (eqb (computed-plain c) (digit_value c)) true

tested-plain : every right-plain 0 (count_up 256 0) ≡ true
unfolding computed-plain right-plain count_up is_digit digit_value
tested-plain = refl

pub plain-right : (c : ℕ) → c < 256 → is_digit c ≡ true → computed-plain c ≡ digit_value c
unfolding right-plain
plain-right c h d =
    let e : right-plain (0 + c) (get_or (count_up 256 0) c 0) ≡ true = each right-plain (count_up 256 0) 0 c tested-plain (rw (counted-length 256 0) h) in
    let t : cond (is_digit c) (eqb (computed-plain c) (digit_value c)) true ≡ true = rw (zero-add c) at e in
    eqb-true (computed-plain c) (digit_value c) (rw d at t)

pub plain-told : (c r : ℕ) → c < 256 → r ≡ min ((c % 32 + 240) % 256) (c % 32 + 9) → is_digit c ≡ true → r ≡ digit_value c
unfolding computed-plain
plain-told c r h e d = e ∙ plain-right c h d

-- the weight of a character by its place, the high digit of a pair first
unfoldable pub unit : ℕ → ℕ
unit i = cond (eqb (i % 2) 0) 16 1

unfoldable pub chars_at : List ℕ → ℕ → ℕ → ℕ
chars_at text at zero = 0
chars_at text at (suc i) = chars_at text at i + unit i * digit_weight (get_or text (at + i) 0)

pairs_of : (text : List ℕ) (at m : ℕ) → chars_at text at (2 * m) ≡ sum_at text at m
unfolding chars_at sum_at unit
pairs_of text at zero = refl
pairs_of text at (suc m) =
    let two : 2 * suc m ≡ suc (suc (2 * m)) = omega arith in
    let e : eqb (2 * m % 2) 0 ≡ true = eq-eqb (2 * m % 2) 0 (omega arith) in
    let o : eqb (suc (2 * m) % 2) 0 ≡ false = ne_eqb (suc (2 * m) % 2) 0 (λ z. omega arith) in
    let n : at + suc (2 * m) ≡ at + 2 * m + 1 = omega arith in
    rw (two, e, o, n) (omega (arith, pairs_of text at m))

-- what a digit adds
adds : (i v : ℕ) → cond (eqb (i % 2) 0) (16 * v) v ≡ unit i * v
unfolding unit
adds i v = go (eqb (i % 2) 0)
  where
    go : (t : Bool) → cond t (16 * v) v ≡ cond t 16 1 * v
    go true = refl
    go false = omega arith

pub record Tallied (text : List ℕ) (at i sum : ℕ) (bad : Bool) : Type 0 where
  pub digits : bad ≡ false → Digits text at i
  pub summed : bad ≡ false → sum ≡ chars_at text at i % 256
  pub heavy : bad ≡ true → 8192 ≤ chars_at text at i

pub none-tallied : (text : List ℕ) (at : ℕ) → Tallied text at 0 0 false
unfolding chars_at
none-tallied text at = record { digits = λ e j h. absurd (omega arith); summed = λ e. refl; heavy = λ e. absurd (true≢false (sym e)) }

more-digits : (text : List ℕ) (at i : ℕ) → Digits text at i → is_digit (get_or text (at + i) 0) ≡ true → Digits text at (i + 1)
more-digits text at i d h j l = go (ltb j i) refl
  where
    go : (t : Bool) → ltb j i ≡ t → is_digit (get_or text (at + j) 0) ≡ true
    go true e = d j (ltb-true j i e)
    go false e = let n : at + j ≡ at + i = omega (arith, ltb-false j i e) in rw n h

unit-some : (i : ℕ) → 1 ≤ unit i
unfolding unit
unit-some i = go (eqb (i % 2) 0)
  where
    go : (t : Bool) → 1 ≤ cond t 16 1
    go true = omega arith
    go false = omega arith

module _ (text : List ℕ) (at i : ℕ) (within : i < 32) where
  heavier : 8192 ≤ chars_at text at i → 8192 ≤ chars_at text at (i + 1)
  unfolding chars_at
  heavier h = rw (add-one i) (omega arith)

  no_digit : is_digit (get_or text (at + i) 0) ≡ false → 8192 ≤ chars_at text at (i + 1)
  unfolding chars_at digit_weight
  no_digit d = rw (add-one i, d) (omega (arith, unit-some i))

  a-digit : (sum v p : ℕ) → is_digit (get_or text (at + i) 0) ≡ true → v ≡ digit_value (get_or text (at + i) 0) → p ≡ cond (eqb (i % 2) 0) (16 * v) v → sum ≡ chars_at text at i % 256
      → (sum + p) % 256 ≡ chars_at text at (i + 1) % 256
  unfolding chars_at
  a-digit sum v p d e put s =
      let w : digit_weight (get_or text (at + i) 0) ≡ v = weight-value (get_or text (at + i) 0) d ∙ sym e in
      rw (add-one i, put, adds i v, s, w) (mod-left (chars_at text at i) (unit i * v))
    where
      mod-left : (a b : ℕ) → (a % 256 + b) % 256 ≡ (a + b) % 256
      mod-left a b = omega arith

  pub one-more-tallied : (sum v p : ℕ) (bad : Bool) (next : ℕ) (worse : Bool) → Tallied text at i sum bad → Valued (get_or text (at + i) 0) v → worse ≡ (bad || ltb 15 v)
      → (v ≤ 15 → p ≡ cond (eqb (i % 2) 0) (16 * v) v) → next ≡ (sum + p) % 256 → Tallied text at (i + 1) next worse
  one-more-tallied sum v p true next worse t val w put n =
      record { digits = λ e. absurd (true≢false (sym w ∙ e)); summed = λ e. absurd (true≢false (sym w ∙ e)); heavy = λ e. heavier (t.heavy refl) }
  one-more-tallied sum v p false next worse t val w put n = go (is_digit (get_or text (at + i) 0)) refl
    where
      go : (b : Bool) → is_digit (get_or text (at + i) 0) ≡ b → Tallied text at (i + 1) next worse
      go true d =
          let v' : v ≡ digit_value (get_or text (at + i) 0) = val.digit d in
          let few : v ≤ 15 = omega (arith, value-most (get_or text (at + i) 0) d) in
          let fine : worse ≡ false = w ∙ le-ltb 15 v few in
          record {
            digits = λ e. more-digits text at i (t.digits refl) d;
            summed = λ e. n ∙ a-digit sum v p d v' (put few) (t.summed refl);
            heavy = λ e. absurd (true≢false (sym e ∙ fine));
          }
      go false d =
          let worst : worse ≡ true = w ∙ lt-ltb 15 v (omega (arith, val.other d)) in
          record { digits = λ e. absurd (true≢false (sym worst ∙ e)); summed = λ e. absurd (true≢false (sym worst ∙ e)); heavy = λ e. no_digit d }

-- the whole
pub tallied-bad : (text : List ℕ) (at sum i : ℕ) → i ≡ 32 → Tallied text at i sum true → Weighs text at 16 8192
tallied-bad text at sum i z t =
    let h : 8192 ≤ sum_at text at 16 = rw (z, pairs_of text at 16) at (t.heavy refl) in
    record { most = omega arith; light = λ l. absurd (omega arith); same = λ l. absurd (omega arith); heavy = λ l. omega arith }

pub tallied-good : (text : List ℕ) (at sum i : ℕ) → i ≡ 32 → sum < 256 → Tallied text at i sum false → Weighs text at 16 sum
tallied-good text at sum i z b t =
    let d : Digits text at 32 = rw z at (t.digits refl) in
    let m : sum_at text at 16 ≤ 255 * 16 = sum-most text at 16 d in
    let s : sum ≡ sum_at text at 16 % 256 = rw (z, pairs_of text at 16) at (t.summed refl) in
    record { most = omega arith; light = λ l. omega arith; same = λ l. omega arith; heavy = λ h. absurd (omega arith) }

-- the loop over bytes
pub one-more-decoded : (b text part : List ℕ) (p i high low x : ℕ) → i < 16 → part ≡ sets b 0 (pairs_at text p i) → Digits text p 32
    → (is_digit (get_or text (p + 2 * i) 0) ≡ true → high ≡ digit_value (get_or text (p + 2 * i) 0)) → (is_digit (get_or text (p + 2 * i + 1) 0) ≡ true → low ≡ digit_value (get_or text (p + 2 * i + 1) 0))
    → x ≡ (16 * (high % 16) + low) % 256 → set part i x ≡ sets b 0 (pairs_at text p (i + 1))
one-more-decoded b text part p i high low x few e digits h l is =
    let n : p + 2 * i + 1 ≡ p + (2 * i + 1) = omega arith in
    let first : is_digit (get_or text (p + 2 * i) 0) ≡ true = digits (2 * i) (omega arith) in
    let second : is_digit (get_or text (p + 2 * i + 1) 0) ≡ true = rw n (digits (2 * i + 1) (omega arith)) in
    let two = pair-value text (p + 2 * i) first second in
    let x' : x ≡ pair_at text (p + 2 * i) = is ∙ small-sum _ _ _ (omega (arith, h first, value-most (get_or text (p + 2 * i) 0) first)) (omega (arith, two.0, h first, l second)) two.1 in
    rw (e, x') (rw (zero-add i) at (one-more-byte b text 0 p i))
  where
    small-sum : (a c r : ℕ) → a ≤ 15 → r ≡ 16 * a + c → r ≤ 255 → (16 * (a % 16) + c) % 256 ≡ r
    small-sum a c r l e m = omega arith

pub all-decoded : (b text part : List ℕ) (p i : ℕ) → length b ≡ 16 → i ≡ 16 → part ≡ sets b 0 (pairs_at text p i) → part ≡ pairs_at text p 16
all-decoded b text part p i size z e =
    let none : drop 16 b ≡ [] = drop_of_length-le b {i = 16} (omega arith) in
    e ∙ rw z (sets-front b (pairs_at text p 16) 16 (pairs-size text p 16) (omega arith) ∙ rw (none, append-nil (pairs_at text p 16)))
