-- Laws of lists by index. Assumes nothing.
use Rattle.std.proofs.Common.{◌≡◌, ℕ, zero, suc, ◌+◌, ◌-◌, ◌<◌, ◌≤◌, ◌⊎◌, List, ◌++◌, length, length-take, length-drop, get_or, take, drop, set, sym, refl, ap, ◌∙◌, inl, inr, ⊎_elim, append_assoc, add-zero, add-suc, suc-add, zero-add, arith, length-take-le, get_or-drop, get_or-set_other, get_or-take, drop-drop, get_or-append-add, ext_get_or}
use lib.ListN.{get_or-append}
use lib.Seq.{sets, sets-eq}
use Rattle.tables.specs.Cells.{from, Outside, pasted}

module _ {ℓ} {A : Type ℓ} where
  pub length_from : (k n : ℕ) (f : ℕ → A) → length (from k n f) ≡ n
  unfolding from
  length_from k zero f = refl
  length_from k (suc n) f = ap suc (length_from (suc k) n f)

  pub get_or-from : (k n i : ℕ) (f : ℕ → A) (d : A) → i < n → get_or (from k n f) i d ≡ f (k + i)
  unfolding from
  get_or-from k zero i f d h = absurd (omega arith)
  get_or-from k (suc n) zero f d h = rw add-zero
  get_or-from k (suc n) (suc i) f d h = get_or-from (suc k) n i f d (omega arith) ∙ ap f (omega arith)

  pub from-same : (k n : ℕ) (f g : ℕ → A) → ((i : ℕ) → k ≤ i → i < k + n → g i ≡ f i) → from k n g ≡ from k n f
  unfolding from
  from-same k zero f g h = refl
  from-same k (suc n) f g h = rw (h k (omega arith) (omega arith), from-same (suc k) n f g (λ i l m. h i (omega arith) (omega arith)))

  pub from-set : (k n i : ℕ) (f g : ℕ → A) (v : A) → i < n → g (k + i) ≡ v → ((j : ℕ) → k ≤ j → j < k + n → (j ≡ k + i → ⊥) → g j ≡ f j) → from k n g ≡ set (from k n f) i v
  unfolding from
  from-set k zero i f g v l e h = absurd (omega arith)
  from-set k (suc n) zero f g v l e h =
      let w : g k ≡ v = (rw add-zero at e) in
      rw (w, from-same (suc k) n f g (λ i p q. h i (omega arith) (omega arith) (λ z. omega arith)))
  from-set k (suc n) (suc i) f g v l e h =
      rw (
        h k (omega arith) (omega arith) (λ z. omega arith),
        from-set (suc k) n i f g v (omega arith) (rw (suc-add, ← add-suc) e) (λ j p q r. h j (omega arith) (omega arith) (λ z. r (omega arith))),
      )

-- pasted cells
module _ (xs ys : List ℕ) (a k : ℕ) (fits : a + k ≤ length xs) (long : length ys ≡ k) where
  len : length (take a xs) ≡ a
  len = length-take-le a xs (omega arith)

  pub pasted-in : (i : ℕ) → i < k → get_or (pasted xs a k ys) (a + i) 0 ≡ get_or ys i 0
  pasted-in i h =
      ap (λ (n : ℕ). get_or (pasted xs a k ys) (n + i) 0) (sym len)
      ∙ get_or-append-add (take a xs) (ys ++ drop k (drop a xs)) i 0
      ∙ get_or-append ys (drop k (drop a xs)) 0 i (omega arith)

  low : (i : ℕ) → i < a → get_or (pasted xs a k ys) i 0 ≡ get_or xs i 0
  low i h = get_or-append (take a xs) _ 0 i (omega (arith, len)) ∙ get_or-take a xs i 0 h

  high : (j : ℕ) → get_or (pasted xs a k ys) (a + (k + j)) 0 ≡ get_or xs (a + (k + j)) 0
  high j =
      ap (λ (n : ℕ). get_or (pasted xs a k ys) (n + (k + j)) 0) (sym len)
      ∙ get_or-append-add (take a xs) (ys ++ drop k (drop a xs)) (k + j) 0
      ∙ ap (λ (n : ℕ). get_or (ys ++ drop k (drop a xs)) (n + j) 0) (sym long)
      ∙ get_or-append-add ys (drop k (drop a xs)) j 0
      ∙ get_or-drop k (drop a xs) j 0
      ∙ get_or-drop a xs (k + j) 0

  pub pasted-out : Outside xs (pasted xs a k ys) a k
  pasted-out i = ⊎_elim (low i) (λ h. let e : a + (k + (i - a - k)) ≡ i = omega arith in rw e at (high (i - a - k)))

-- stores one after another
pub sets-pasted : (xs vs : List ℕ) (a : ℕ) → a + length vs ≤ length xs → sets xs a vs ≡ pasted xs a (length vs) vs
sets-pasted xs vs a h = sets-eq vs xs a h ∙ append_assoc (take a xs) vs _ ∙ ap (λ (l : List ℕ). take a xs ++ (vs ++ l)) (sym (drop-drop (length vs) a xs))

pub sets-in : (xs vs : List ℕ) (a i : ℕ) → a + length vs ≤ length xs → i < length vs → get_or (sets xs a vs) (a + i) 0 ≡ get_or vs i 0
sets-in xs vs a i h l = ap (λ (z : List ℕ). get_or z (a + i) 0) (sets-pasted xs vs a h) ∙ pasted-in xs vs a (length vs) h refl i l

pub sets-out : (xs vs : List ℕ) (a : ℕ) → a + length vs ≤ length xs → Outside xs (sets xs a vs) a (length vs)
sets-out xs vs a h i o = ap (λ (z : List ℕ). get_or z i 0) (sets-pasted xs vs a h) ∙ pasted-out xs vs a (length vs) h refl i o

pub set-out-of : (xs : List ℕ) (i v a n : ℕ) → a ≤ i → i < a + n → Outside xs (set xs i v) a n
set-out-of xs i v a n l m j h = get_or-set_other xs i j v 0 (λ e. ⊎_elim (λ p. omega arith) (λ p. omega arith) h)

pub outside-then : (xs ys zs : List ℕ) (a n : ℕ) → Outside xs ys a n → Outside ys zs a n → Outside xs zs a n
outside-then xs ys zs a n p q i h = q i h ∙ p i h

-- a run of m cells at b that lies apart from n cells at a
pub clear : (a n b m i : ℕ) → (a + n ≤ b) ⊎ (b + m ≤ a) → b ≤ i → i < b + m → (i < a) ⊎ (a + n ≤ i)
clear a n b m i d l h = ⊎_elim (λ p. inr (omega arith)) (λ p. inl (omega arith)) d

-- an array that is filled cell by cell
pub filled : (xs places : List ℕ) (a n : ℕ) → length places ≡ n → ((k : ℕ) → k < n → get_or places k 0 ≡ get_or xs (a + k) 0) → places ≡ from 0 n (λ i. get_or xs (a + i) 0)
filled xs places a n l f =
    ext_get_or 0 places (from 0 n (λ i. get_or xs (a + i) 0)) (l ∙ sym (length_from 0 n _))
    (λ i h. f i (omega arith) ∙ ap (λ (k : ℕ). get_or xs (a + k) 0) (sym (zero-add i)) ∙ sym (get_or-from 0 n i (λ k. get_or xs (a + k) 0) 0 (omega arith)))

-- a part that is read
pub part-is : (xs : List ℕ) (a n k : ℕ) → k ≡ n → a + n ≤ length xs → take k (drop a xs) ≡ from 0 n (λ i. get_or xs (a + i) 0)
part-is xs a n k e fits =
    filled xs (take k (drop a xs)) a n (simp (length-take, length-drop) (omega arith))
    (λ i h. get_or-take k (drop a xs) i 0 (omega arith) ∙ get_or-drop a xs i 0)
