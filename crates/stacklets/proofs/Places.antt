-- Laws of the stacklets' tops: a push and a pop change one top, a new frame overlaps no frame that lies below its stacklet's top, and a pop
-- undoes a push. Assumes nothing.
use mathlib.Core.Bool.{Bool, true, false, cond, ◌&&◌}
use mathlib.Core.List.{List}
use mathlib.Core.Logic.{inl, inr, ⊎_elim}
use mathlib.Core.Path.{◌≡◌, refl, ◌∙◌, ap}
use Prim.Native.Nat.{ℕ, ◌+◌, ◌/◌, ◌%◌, ◌≤◌, ◌<◌}
use native.Mathlib.Decide.{ℕ_discrete, dec_le, dec_lt}
use native.Mathlib.Omega.{arith}
use lib.Dec.{ltb, leb}
use lib.ListN.{set, length, length-set, get_or-eq_default}
use lib.Seq.{get_or-set_same, get_or-set_other, set-set, set-get_or, set_out}
use borrow.Author.Tests.{lt-ltb, le-ltb, le-leb, lt-leb, eq-eqb, eqb-true}
use Rattle.stacklets.specs.Tops.{top_at, base_on, fits_on, is_topmost, pushed_tops, popped_tops}
use Rattle.stacklets.specs.Layout.{Apart, Under}

-- what fitting means
pub fits-means : (tops : List ℕ) (x n : ℕ) → fits_on tops x n ≡ true → (x < 16) × (top_at tops x + n ≤ 64)
unfolding fits_on
fits-means tops x n h = go (dec_lt x 16) (dec_le (top_at tops x + n) 64) h
  where
    go : Dec (x < 16) → Dec (top_at tops x + n ≤ 64) → (ltb x 16 && leb (top_at tops x + n) 64) ≡ true → (x < 16) × (top_at tops x + n ≤ 64)
    go (yes a) (yes b) e = (a, b)
    go (no a) _ e = let q : false ≡ true = rw (le-ltb x 16 (omega arith)) at e in let z : ◌≡◌ {A = ℕ} 0 1 = cc in absurd (omega arith)
    go (yes a) (no b) e =
        let q : false ≡ true = rw (lt-ltb x 16 a, lt-leb (top_at tops x + n) 64 (omega arith)) at e in let z : ◌≡◌ {A = ℕ} 0 1 = cc in absurd (omega arith)

pub fits-yes : (tops : List ℕ) (x n : ℕ) → x < 16 → top_at tops x + n ≤ 64 → fits_on tops x n ≡ true
unfolding fits_on
fits-yes tops x n h k = rw (lt-ltb x 16 h, le-leb (top_at tops x + n) 64 k)

-- two frames, each within a stacklet, that lie on different stacklets or one below the other
pub place-apart : (b m b' n : ℕ) → b % 64 + m ≤ 64 → b' % 64 + n ≤ 64 → (b / 64 ≡ b' / 64 → b % 64 + m ≤ b' % 64) → Apart b m b' n
place-apart b m b' n h k f = go (dec_lt (b / 64) (b' / 64)) (ℕ_discrete (b / 64) (b' / 64))
  where
    go : Dec (b / 64 < b' / 64) → Dec (b / 64 ≡ b' / 64) → Apart b m b' n
    go (yes l) _ = inl (omega arith)
    go (no l) (yes e) = let q = f e in inl (omega arith)
    go (no l) (no x) = inr (omega arith)

pub stacklets-apart : (b m b' n : ℕ) → b % 64 + m ≤ 64 → b' % 64 + n ≤ 64 → ¬ (b / 64 ≡ b' / 64) → Apart b m b' n
stacklets-apart b m b' n h k f = place-apart b m b' n h k (λ e. absurd (f e))

pub apart-sym : (b m b' n : ℕ) → Apart b m b' n → Apart b' n b m
apart-sym b m b' n a = ⊎_elim (λ x. inr x) (λ x. inl x) a

-- a frame above a topmost one starts where that ends
pub topmost-base : (tops : List ℕ) (b n : ℕ) → is_topmost tops b n ≡ true → base_on tops (b / 64) ≡ b + n
topmost-base tops b n h = let e = eqb-true (b % 64 + n) (top_at tops (b / 64)) h in omega arith

-- tops past the stacklets are 0
top-outside : (tops : List ℕ) (x : ℕ) → length tops ≤ x → top_at tops x ≡ 0
top-outside tops x h = get_or-eq_default tops 0 {n = x} h

-- a store of a top changes that one only
top_set : (tops : List ℕ) (x y v : ℕ) → ¬ (y ≡ x) → top_at (set tops x v) y ≡ top_at tops y
top_set tops x y v h = get_or-set_other tops x y v 0 h

-- a store of no more than 64 keeps every top so
top-most : (tops : List ℕ) (x y v : ℕ) → v ≤ 64 → top_at tops y ≤ 64 → top_at (set tops x v) y ≤ 64
top-most tops x y v h k = go (ℕ_discrete y x) (dec_lt x (length tops))
  where
    go : Dec (y ≡ x) → Dec (x < length tops) → top_at (set tops x v) y ≤ 64
    go (yes e) (yes l) = rw (e, get_or-set_same tops x v 0 l) h
    go (yes e) (no l) = rw (set_out tops x v (omega arith)) k
    go (no e) _ = rw (top_set tops x y v e) k

-- a pop: the top of the frame's stacklet is where the frame began, all others stay
pub popped-length : (tops : List ℕ) (b : ℕ) → length (popped_tops tops b) ≡ length tops
popped-length tops b = length-set tops (b / 64) (b % 64)

pub popped-top : (tops : List ℕ) (b : ℕ) → b / 64 < length tops → top_at (popped_tops tops b) (b / 64) ≡ b % 64
popped-top tops b h = get_or-set_same tops (b / 64) (b % 64) 0 h

pub popped-other : (tops : List ℕ) (b y : ℕ) → ¬ (y ≡ b / 64) → top_at (popped_tops tops b) y ≡ top_at tops y
popped-other tops b y h = top_set tops (b / 64) y (b % 64) h

pub popped-most : (tops : List ℕ) (b y : ℕ) → top_at tops y ≤ 64 → top_at (popped_tops tops b) y ≤ 64
popped-most tops b y h = top-most tops (b / 64) y (b % 64) (omega arith) h

-- a frame that does not overlap the topmost one lies below the top when that has gone
pub popped-under : (tops : List ℕ) (b m b' n : ℕ) → is_topmost tops b' n ≡ true → Apart b m b' n → 0 < m → Under tops b m → Under (popped_tops tops b') b m
popped-under tops b m b' n t a p u = go (ℕ_discrete (b / 64) (b' / 64)) (dec_lt (b' / 64) (length tops))
  where
    top : b' % 64 + n ≡ top_at tops (b' / 64)
    top = eqb-true (b' % 64 + n) (top_at tops (b' / 64)) t

    go : Dec (b / 64 ≡ b' / 64) → Dec (b' / 64 < length tops) → Under (popped_tops tops b') b m
    go (no e) _ = rw (popped-other tops b' (b / 64) e) u
    go (yes e) (no l) =
        let z = top-outside tops (b' / 64) (omega arith) in
        let w : top_at tops (b / 64) ≡ top_at tops (b' / 64) = ap (top_at tops) e in
        absurd (omega arith)
    go (yes e) (yes l) =
        let w : top_at tops (b / 64) ≡ top_at tops (b' / 64) = ap (top_at tops) e in
        rw (e, popped-top tops b' l) (⊎_elim (λ x. omega arith) (λ x. absurd (omega (arith, top))) a)

-- a push that does not fit changes nothing
pub tops-refused : (tops : List ℕ) (x n : ℕ) → fits_on tops x n ≡ false → pushed_tops tops x n ≡ tops
unfolding pushed_tops
tops-refused tops x n h = rw h

pub pushed-length : (tops : List ℕ) (x n : ℕ) → length (pushed_tops tops x n) ≡ length tops
unfolding pushed_tops
pushed-length tops x n = go (fits_on tops x n)
  where
    go : (b : Bool) → length (cond b (set tops x (top_at tops x + n)) tops) ≡ length tops
    go true = length-set tops x (top_at tops x + n)
    go false = refl

-- a push that fits
module _ (tops : List ℕ) (x n : ℕ) (fit : fits_on tops x n ≡ true) (small : 0 < n) where
  pub pushed-is : pushed_tops tops x n ≡ set tops x (top_at tops x + n)
  unfolding pushed_tops
  pushed-is = rw fit

  -- the new frame's stacklet and its place there, and that it ends within all words
  pub base-stacklet : base_on tops x / 64 ≡ x
  base-stacklet = omega (arith, fits-means tops x n fit)

  pub base-place : base_on tops x % 64 ≡ top_at tops x
  base-place = omega (arith, fits-means tops x n fit)

  pub base-below : base_on tops x + n ≤ 1024
  base-below = omega (arith, fits-means tops x n fit)

  pub pushed-top : x < length tops → top_at (pushed_tops tops x n) x ≡ top_at tops x + n
  pushed-top l = rw (pushed-is, get_or-set_same tops x (top_at tops x + n) 0 l)

  pub pushed-other : (y : ℕ) → ¬ (y ≡ x) → top_at (pushed_tops tops x n) y ≡ top_at tops y
  pushed-other y h = rw (pushed-is, top_set tops x y (top_at tops x + n) h)

  pub pushed_most : (y : ℕ) → top_at tops y ≤ 64 → top_at (pushed_tops tops x n) y ≤ 64
  pushed_most y h = rw pushed-is (top-most tops x y (top_at tops x + n) (fits-means tops x n fit).1 h)

  -- no top falls, so every frame below a top stays so
  pub pushed-under : (b m : ℕ) → Under tops b m → Under (pushed_tops tops x n) b m
  pushed-under b m u = go (ℕ_discrete (b / 64) x) (dec_lt x (length tops))
    where
      go : Dec (b / 64 ≡ x) → Dec (x < length tops) → Under (pushed_tops tops x n) b m
      go (no e) _ = rw (pushed-other (b / 64) e) u
      go (yes e) (yes l) = let w : top_at tops (b / 64) ≡ top_at tops x = ap (top_at tops) e in rw (e, pushed-top l) (omega arith)
      go (yes e) (no l) = rw (pushed-is, set_out tops x (top_at tops x + n) (omega arith)) u

  -- the new frame is topmost
  pub pushed-topmost : x < length tops → is_topmost (pushed_tops tops x n) (base_on tops x) n ≡ true
  pushed-topmost l = rw (base-stacklet, base-place, pushed-top l) (eq-eqb (top_at tops x + n) (top_at tops x + n) refl)

  -- and overlaps no frame that lies below its stacklet's top
  pub pushed-apart : (b m : ℕ) → Under tops b m → top_at tops (b / 64) ≤ 64 → Apart b m (base_on tops x) n
  pushed-apart b m u t =
      place-apart b m (base_on tops x) n (omega arith) (rw base-place (fits-means tops x n fit).1)
      (λ e. rw base-place (let w : top_at tops (b / 64) ≡ top_at tops x = ap (top_at tops) (e ∙ base-stacklet) in omega arith))

  -- a pop undoes a push
  pub popped-pushed : popped_tops (pushed_tops tops x n) (base_on tops x) ≡ tops
  popped-pushed = rw (base-stacklet, base-place, pushed-is, set-set) (set-get_or tops x 0)
