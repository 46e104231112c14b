-- Laws of windows: a child's part and the rest of a cut do not meet, what is shared is stored by neither, a join gives back the whole, and
-- every window made from the root's lies within the memory words. Assumes nothing.
use mathlib.Core.Bool.{Bool, true, false, cond, ◌&&◌, ◌||◌, or-true}
use mathlib.Core.Logic.{inl, inr}
use mathlib.Core.Path.{◌≡◌}
use Prim.Native.Nat.{ℕ, ◌≤◌, ◌<◌}
use native.Mathlib.Decide.{dec_le, dec_lt}
use native.Mathlib.Omega.{arith}
use lib.Dec.{ltb, leb}
use borrow.Author.Tests.{lt-ltb, le-ltb, le-leb, lt-leb}
use Rattle.window.specs.declared.Window.{Window}
use Rattle.std.specs.Prelude.{Some, None}
use Rattle.window.specs.declared.Cut.{Cut}
use Rattle.window.specs.Rights.{root_window, is_from, may_load, may_store, span_from, span_to, cut_at, child_of, rest_of, parts_at, is_between, share_at, sharing_of, rejoined, Fits}
use Rattle.window.specs.Numbers.{NotFrom}

-- whether an address is one of those from x up to y, seen with the reason
pub data Seen (x y a : ℕ) : Bool → Type 0 where
  inside : x ≤ a → a < y → Seen x y a true
  outside : NotFrom x y a → Seen x y a false

pub seen : (x y a : ℕ) → Seen x y a (is_from x y a)
seen x y a = go (dec_le x a) (dec_lt a y)
  where
    go : Dec (x ≤ a) → Dec (a < y) → Seen x y a (leb x a && ltb a y)
    go (yes p) (yes q) = rw (le-leb _ _ p, lt-ltb _ _ q) (inside p q)
    go (no p) _ = rw (lt-leb x a (omega arith)) (outside (inl (omega arith)))
    go (yes p) (no q) = rw (le-leb _ _ p, le-ltb a y (omega arith)) (outside (inr (omega arith)))

pub inside-from : (x y a : ℕ) → x ≤ a → a < y → is_from x y a ≡ true
inside-from x y a p q = rw (le-leb _ _ p, lt-ltb _ _ q)

-- a stored address lies from the mark up to the ceiling and is no parameter word, and conversely
pub store-means : (w : Window) (a : ℕ) → may_store w a ≡ true → (32 ≤ a) × (w.mark ≤ a) × (a < w.ceiling)
unfolding may_store
store-means w a h = go (dec_le 32 a) (seen w.mark w.ceiling a) h
  where
    go : {b : Bool} → Dec (32 ≤ a) → Seen w.mark w.ceiling a b → (leb 32 a && b) ≡ true → (32 ≤ a) × (w.mark ≤ a) × (a < w.ceiling)
    go (yes l) (inside p q) e = (l, p, q)
    go (yes l) (outside p) e = let x = le-leb 32 a l in let z : ◌≡◌ {A = ℕ} 0 1 = cc in absurd (omega arith)
    go (no l) _ e = let x = lt-leb 32 a (omega arith) in let z : ◌≡◌ {A = ℕ} 0 1 = cc in absurd (omega arith)

pub store-allowed : (w : Window) (a : ℕ) → 32 ≤ a → w.mark ≤ a → a < w.ceiling → may_store w a ≡ true
unfolding may_store
store-allowed w a x y z = rw (le-leb _ _ x, le-leb _ _ y, lt-ltb _ _ z)

-- a window that fits stores memory words alone
pub store-in-memory : (w : Window) (a : ℕ) → Fits w → may_store w a ≡ true → (32 ≤ a) × (a < 1024)
store-in-memory w a f h = let m = store-means w a h in (m.0, omega (arith, f.below, f.above, f.span, f.within))

-- a parameter word is always loaded and never stored
pub load-parameter : (w : Window) (a : ℕ) → a < 32 → may_load w a ≡ true
unfolding may_load
load-parameter w a h = rw (lt-ltb _ _ h)

pub store-parameter : (w : Window) (a : ℕ) → a < 32 → may_store w a ≡ false
unfolding may_store
store-parameter w a h = rw (lt-leb 32 a h)

-- why an address may be loaded
pub data Loading (w : Window) (a : ℕ) : Type 0 where
  parameter : a < 32 → Loading w a
  own : w.mark ≤ a → a < w.hi → Loading w a
  given : w.from ≤ a → a < w.to → Loading w a

pub load-means : (w : Window) (a : ℕ) → may_load w a ≡ true → Loading w a
unfolding may_load
load-means w a h = go (dec_lt a 32) (seen w.mark w.hi a) (seen w.from w.to a) h
  where
    go : {b c : Bool} → Dec (a < 32) → Seen w.mark w.hi a b → Seen w.from w.to a c → (ltb a 32 || (b || c)) ≡ true → Loading w a
    go (yes l) _ _ e = parameter l
    go (no l) (inside p q) _ e = own p q
    go (no l) (outside p) (inside q r) e = given q r
    go (no l) (outside p) (outside q) e = let x = le-ltb a 32 (omega arith) in let z : ◌≡◌ {A = ℕ} 0 1 = cc in absurd (omega arith)

pub load-own : (w : Window) (a : ℕ) → w.mark ≤ a → a < w.hi → may_load w a ≡ true
unfolding may_load
load-own w a p q = rw (inside-from w.mark w.hi a p q, or-true)

pub load_given : (w : Window) (a : ℕ) → w.from ≤ a → a < w.to → may_load w a ≡ true
unfolding may_load
load_given w a p q = rw (inside-from w.from w.to a p q, or-true, or-true)

-- a window that fits loads no word past the memory
pub load-in-memory : (w : Window) (a : ℕ) → Fits w → may_load w a ≡ true → a < 1024
load-in-memory w a f h = go (load-means w a h)
  where
    go : Loading w a → a < 1024
    go (parameter p) = omega arith
    go (own p q) = omega (arith, f.above, f.span, f.within)
    go (given p q) = omega (arith, f.within)

-- a cut, or what is to be shared, tested against the mark and the ceiling: seen with the reason
pub data Range (w : Window) (e : ℕ) : Bool → Type 0 where
  fitting : w.mark ≤ e → e ≤ w.ceiling → Range w e true
  too-low : e < w.mark → Range w e false
  too-high : w.ceiling < e → Range w e false

pub range : (w : Window) (e : ℕ) → Range w e (is_between w e)
range w e = go (dec_le w.mark e) (dec_le e w.ceiling)
  where
    go : Dec (w.mark ≤ e) → Dec (e ≤ w.ceiling) → Range w e (is_between w e)
    go (yes x) (yes y) = rw (le-leb _ _ x, le-leb _ _ y) (fitting x y)
    go (no x) _ = rw (lt-leb w.mark e (omega arith)) (too-low (omega arith))
    go (yes x) (no y) = rw (le-leb _ _ x, lt-leb e w.ceiling (omega arith)) (too-high (omega arith))

-- what a cut that was made tells
pub record Cutting (w : Window) (e : ℕ) (c : Cut) : Type 0 where
  pub low : w.mark ≤ e
  pub high : e ≤ w.ceiling
  pub is : c ≡ parts_at w e

pub cut-means : (w : Window) (e : ℕ) (c : Cut) → cut_at w e ≡ Some c → Cutting w e c
unfolding cut_at
cut-means w e c h = go (range w e) h
  where
    go : {b : Bool} → Range w e b → cond b (Some (parts_at w e)) None ≡ Some c → Cutting w e c
    go (fitting x y) p = record { low = x; high = y; is = cc }
    go (too-low x) p = let z : ◌≡◌ {A = ℕ} 0 1 = cc in absurd (omega arith)
    go (too-high x) p = let z : ◌≡◌ {A = ℕ} 0 1 = cc in absurd (omega arith)

pub cut-made : (w : Window) (e : ℕ) → w.mark ≤ e → e ≤ w.ceiling → cut_at w e ≡ Some (parts_at w e)
unfolding cut_at
cut-made w e x y = rw (le-leb _ _ x, le-leb _ _ y)

-- what a share that was made tells
pub record Sharing (w : Window) (s : ℕ) (rest : Window) : Type 0 where
  pub low : w.mark ≤ s
  pub high : s ≤ w.ceiling
  pub is-rest : rest ≡ sharing_of w s

pub share-means : (w : Window) (s : ℕ) (rest : Window) → share_at w s ≡ Some rest → Sharing w s rest
unfolding share_at
share-means w s r h = go (range w s) h
  where
    go : {b : Bool} → Range w s b → cond b (Some (sharing_of w s)) None ≡ Some r → Sharing w s r
    go (fitting x y) p = record { low = x; high = y; is-rest = cc }
    go (too-low x) p = let z : ◌≡◌ {A = ℕ} 0 1 = cc in absurd (omega arith)
    go (too-high x) p = let z : ◌≡◌ {A = ℕ} 0 1 = cc in absurd (omega arith)

pub share-made : (w : Window) (s : ℕ) → w.mark ≤ s → s ≤ w.ceiling → share_at w s ≡ Some (sharing_of w s)
unfolding share_at
share-made w s x y = rw (le-leb _ _ x, le-leb _ _ y)

-- which words a child forked now is given to read
pub data Span (w : Window) : ℕ → ℕ → Type 0 where
  shared : w.ceiling < w.hi → Span w w.ceiling w.hi
  handed-on : w.hi ≤ w.ceiling → Span w w.from w.to

pub span_of : (w : Window) → Span w (span_from w) (span_to w)
span_of w = go (dec_lt w.ceiling w.hi)
  where
    go : Dec (w.ceiling < w.hi) → Span w (span_from w) (span_to w)
    go (yes h) = rw (lt-ltb w.ceiling w.hi h) (shared h)
    go (no h) = rw (le-ltb w.ceiling w.hi (omega arith)) (handed-on (omega arith))

-- every window that is made from the root's fits
pub root-fits : Fits root_window
root-fits = record {
  memory = omega arith;
  behind = omega arith;
  before = omega arith;
  below = omega arith;
  above = omega arith;
  span = omega arith;
  within = omega arith;
}

pub rejoined-fits : (w : Window) → Fits w → Fits (rejoined w)
rejoined-fits w f = record {
  memory = f.memory;
  behind = omega arith;
  before = omega (arith, f.behind, f.before, f.below);
  below = omega arith;
  above = f.above;
  span = f.span;
  within = f.within;
}

pub sharing-fits : (w : Window) (s : ℕ) → w.mark ≤ s → s ≤ w.ceiling → Fits w → Fits (sharing_of w s)
sharing-fits w s low high f = record {
  memory = f.memory;
  behind = f.behind;
  before = low;
  below = omega (arith, f.below);
  above = f.above;
  span = f.span;
  within = f.within;
}

module _ (w : Window) (e : ℕ) (low : w.mark ≤ e) (high : e ≤ w.ceiling) (f : Fits w) where
  pub child_fits : Fits (child_of w e)
  child_fits = go (span_of w)
    where
      go : {x y : ℕ} → Span w x y → Fits (record { lo = w.mark; mark = w.mark; ceiling = e; hi = e; from = x; to = y })
      go (shared h) = record {
        memory = omega (arith, f.memory, f.behind);
        behind = omega arith;
        before = low;
        below = omega arith;
        above = high;
        span = f.below;
        within = omega (arith, f.above, f.span, f.within);
      }
      go (handed-on h) = record {
        memory = omega (arith, f.memory, f.behind);
        behind = omega arith;
        before = low;
        below = omega arith;
        above = omega (arith, f.below, f.above);
        span = f.span;
        within = f.within;
      }

  pub rest-fits : Fits (rest_of w e)
  rest-fits = record {
    memory = f.memory;
    behind = omega (arith, f.behind);
    before = high;
    below = f.below;
    above = f.above;
    span = f.span;
    within = f.within;
  }
