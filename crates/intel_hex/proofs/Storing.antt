-- Laws of bytes stored one after another. Assumes nothing.
use Rattle.std.proofs.Common.{◌≡◌, ℕ, suc, ◌+◌, ◌<◌, ◌≤◌, List, [], ◌∷◌, ◌++◌, length, get_or, take, drop, set, sym, refl, ap, ◌∙◌, add-zero, zero-add, add-one, arith, length-take-le, take-suc, append_assoc, drop-drop}
use borrow.Rule.Slice.PartMut.{put_mid}
use lib.Seq.{sets, sets-eq, length-sets}
use Rattle.intel_hex.specs.Found.{PutsText}

-- some, and then others
pub sets-append : (b : List ℕ) (at : ℕ) (xs ys : List ℕ) → sets b at (xs ++ ys) ≡ sets (sets b at xs) (at + length xs) ys
sets-append b at [] ys = rw (add-zero at)
sets-append b at (x ∷ xs) ys =
    let e : at + suc (length xs) ≡ suc at + length xs = omega arith in
    rw e (sets-append (set b at x) (suc at) xs ys)

-- the same, where the first end at a known position
pub sets_then : (b : List ℕ) (at n : ℕ) (xs ys : List ℕ) → length xs ≡ n → sets (sets b at xs) (at + n) ys ≡ sets b at (xs ++ ys)
sets_then b at n xs ys e = rw (← e) (sym (sets-append b at xs ys))

-- from the front on
pub sets-front : (b xs : List ℕ) (n : ℕ) → length xs ≡ n → n ≤ length b → sets b 0 xs ≡ xs ++ drop n b
sets-front b xs n e h = sets-eq xs b 0 (omega arith) ∙ rw (zero-add (length xs), e)

-- the same of characters put into a text
module _ {xs b : List ℕ} {at : ℕ} {m : List ℕ} (p : PutsText xs b at m) where
  pub puts_then : {ys e : List ℕ} (next : ℕ) → next ≡ at + length xs → PutsText ys m next e → PutsText (xs ++ ys) b at e
  puts_then {ys} next n q = record { stored = q.stored ∙ rw (p.stored, n) (sets_then b at (length xs) xs ys refl) }

  pub puts-size : length m ≡ length b
  puts-size = ap length p.stored ∙ length-sets b at xs

  pub still-long : (k : ℕ) → k ≤ length b → k ≤ length m
  still-long k h = omega (arith, puts-size)

  pub puts-same : {ys : List ℕ} → xs ≡ ys → PutsText ys b at m
  puts-same e = rw (← e) p

pub puts_one : (x : ℕ) (b : List ℕ) (at : ℕ) → PutsText (x ∷ []) b at (set b at x)
puts_one x b at = record { stored = refl }

pub puts_none : (b : List ℕ) (at : ℕ) → PutsText [] b at b
puts_none b at = record { stored = refl }

-- the first of some, and one more
pub one-more-stored : (xs : List ℕ) (i : ℕ) → i < length xs → {b : List ℕ} {at : ℕ} {m : List ℕ} → PutsText (take i xs) b at m → PutsText (take (i + 1) xs) b at (set m (at + i) (get_or xs i 0))
one-more-stored xs i h {b} {at} {m} p =
    let size : length (take i xs) ≡ i = length-take-le i xs (omega arith) in
    rw (add-one i, take-suc xs i 0 h) (puts_then p (at + i) (rw size) (puts_one (get_or xs i 0) m (at + i)))

-- a part of a list that is written at once
pub sets-mid : (b xs ys : List ℕ) (at n : ℕ) → ys ≡ xs → n ≡ length xs → at + length xs ≤ length b → put_mid at n b ys ≡ sets b at xs
sets-mid b xs ys at n same e h =
    let d : drop n (drop at b) ≡ drop (at + length xs) b = drop-drop n at b ∙ rw e in
    rw (same, d) (sym (sets-eq xs b at h ∙ append_assoc (take at b) xs (drop (at + length xs) b)))
