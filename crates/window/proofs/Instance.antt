-- The windows of this crate are windows of the fork-join theory: cut by `cut_at`, shared by `share_at`, given back by `rejoined`. Assumes
-- nothing.
use mathlib.Core.Option.{Option, none, some}
use mathlib.Core.Path.{◌≡◌, refl, subst, sym}
use Prim.Native.Nat.{ℕ, ◌+◌, ◌≤◌, ◌<◌, max}
use native.Mathlib.Decide.{dec_lt}
use native.Mathlib.Omega.{arith}
use Rattle.forkjoin.proofs.Rights.{Rights, Within, over, known, over-within, all_three, in-first, in-second, in-third}
use Rattle.forkjoin.proofs.Windows.{Windows, Parts, Less}
use Rattle.window.specs.declared.Window.{Window}
use Rattle.window.specs.declared.Cut.{Cut}
use Rattle.std.specs.Prelude.{Some, None}
use Rattle.std.specs.declared.option.Option.{Option as Optional}
use Rattle.window.specs.Rights.{span_from, span_to, cut_at, child_of, rest_of, share_at, sharing_of, rejoined, Fits}
use Rattle.window.proofs.Laws.{Span, shared, handed-on, span_of, cut-means, share-means, child_fits, rest-fits, sharing-fits, rejoined-fits}

-- a right to write below the ceiling, and to read up to hi and what was given to read; parameter words are nobody's to write, so the theory
-- leaves them out
abbrev pub rights : Window → Rights
rights w a = max (over 2 w.mark w.ceiling a) (max (over 1 w.mark w.hi a) (over 1 w.from w.to a))

-- a cut and a share as the theory has them
abbrev pub parts_of : Optional Cut → Option (Window × Window)
parts_of (Some c) = some (c.child, c.rest)
parts_of None = none

abbrev pub shared_of : Optional Window → Option Window
shared_of (Some rest) = some rest
shared_of None = none

-- and back
pub parts_cut : (c : Optional Cut) (child rest : Window) → parts_of c ≡ some (child, rest) → c ≡ Some (record { child = child; rest = rest })
parts_cut (Some x) child rest h =
    let z : ◌≡◌ {A = Window × Window} (x.child, x.rest) (child, rest) = cc in
    λ ι. Some (record { child = (z ι).0; rest = (z ι).1 })
parts_cut None child rest h = let z : ◌≡◌ {A = ℕ} 0 1 = cc in absurd (omega arith)

pub shared_back : (c : Optional Window) (rest : Window) → shared_of c ≡ some rest → c ≡ Some rest
shared_back (Some x) rest h = let z : x ≡ rest = cc in λ ι. Some (z ι)
shared_back None rest h = let z : ◌≡◌ {A = ℕ} 0 1 = cc in absurd (omega arith)

-- bounds of the rights to a word
pub most : (w : Window) (a : ℕ) → rights w a ≤ 2
most w a = all_three _ _ _ 2 (known 2 w.mark w.ceiling a).most
    (let z = (known 1 w.mark w.hi a).most in omega arith) (let z = (known 1 w.from w.to a).most in omega arith)

pub only-read : (w : Window) (a : ℕ) → w.ceiling ≤ a → rights w a ≤ 1
only-read w a h = all_three _ _ _ 1 (let z = (known 2 w.mark w.ceiling a).high h in omega arith)
    (known 1 w.mark w.hi a).most (known 1 w.from w.to a).most

none_below : (w : Window) (a : ℕ) → a < w.mark → a < w.from → rights w a ≤ 0
none_below w a h k = all_three _ _ _ 0 (let z = (known 2 w.mark w.ceiling a).low h in omega arith)
    (let z = (known 1 w.mark w.hi a).low h in omega arith) (let z = (known 1 w.from w.to a).low k in omega arith)

none_between : (w : Window) (a : ℕ) → w.ceiling ≤ a → w.hi ≤ a → a < w.from → rights w a ≤ 0
none_between w a h k l = all_three _ _ _ 0 (let z = (known 2 w.mark w.ceiling a).high h in omega arith)
    (let z = (known 1 w.mark w.hi a).high k in omega arith) (let z = (known 1 w.from w.to a).low l in omega arith)

add : (n m i j : ℕ) → n ≤ i → m ≤ j → i + j ≤ 2 → n + m ≤ 2
add n m i j h k l = omega arith

module _ (w : Window) (e : ℕ) (low : w.mark ≤ e) (high : e ≤ w.ceiling) (f : Fits w) where
  -- what a child is given to read, its parent may read
  given : (a : ℕ) → over 1 (span_from w) (span_to w) a ≤ rights w a
  given a = go (span_of w)
    where
      go : {x y : ℕ} → Span w x y → over 1 x y a ≤ rights w a
      go (shared h) = in-second _ (over 2 w.mark w.ceiling a) _ (over 1 w.from w.to a) (over-within 1 1 _ _ _ _ (omega arith) f.before (omega arith) a)
      go (handed-on h) = in-third _ (over 2 w.mark w.ceiling a) (over 1 w.mark w.hi a) _ (omega arith)

  -- and it begins at the ceiling or above
  given-high : w.ceiling ≤ span_from w
  given-high = go (span_of w)
    where
      go : {x y : ℕ} → Span w x y → w.ceiling ≤ x
      go (shared h) = omega arith
      go (handed-on h) = omega (arith, f.below, f.above)

  part : Within (rights (rejoined (child_of w e))) (rights w)
  part a = all_three _ _ _ _
      (in-first _ _ (over 1 w.mark w.hi a) (over 1 w.from w.to a) (over-within 2 2 _ _ _ _ (omega arith) (omega arith) high a))
      (in-second _ (over 2 w.mark w.ceiling a) _ (over 1 w.from w.to a) (over-within 1 1 _ _ _ _ (omega arith) (omega arith) (omega (arith, f.below)) a))
      (given a)

  less : Within (rights (rest_of w e)) (rights w)
  less a = all_three _ _ _ _
      (in-first _ _ (over 1 w.mark w.hi a) (over 1 w.from w.to a) (over-within 2 2 _ _ _ _ (omega arith) low (omega arith) a))
      (in-second _ (over 2 w.mark w.ceiling a) _ (over 1 w.from w.to a) (over-within 1 1 _ _ _ _ (omega arith) low (omega arith) a))
      (in-third _ (over 2 w.mark w.ceiling a) (over 1 w.mark w.hi a) _ (omega arith))

  -- below the cut the parent has nothing, from it up to the ceiling the child has nothing, and above both may only read
  apart : (a : ℕ) → rights (rest_of w e) a + rights (rejoined (child_of w e)) a ≤ 2
  apart a = go (dec_lt a e) (dec_lt a w.ceiling)
    where
      go : Dec (a < e) → Dec (a < w.ceiling) → rights (rest_of w e) a + rights (rejoined (child_of w e)) a ≤ 2
      go (yes h) _ = add _ _ 0 2 (none_below (rest_of w e) a h (omega (arith, f.below, f.above))) (most (rejoined (child_of w e)) a) (omega arith)
      go (no h) (yes k) = add _ _ 2 0 (most (rest_of w e) a)
          (none_between (rejoined (child_of w e)) a (omega arith) (omega arith) (let z = given-high in omega arith)) (omega arith)
      go (no h) (no k) = add _ _ 1 1 (only-read (rest_of w e) a (omega arith)) (only-read (rejoined (child_of w e)) a (omega arith)) (omega arith)

  pub divided : Parts Fits rights (λ v. rights (rejoined v)) w (child_of w e) (rest_of w e)
  divided = record {
    fit-child = child_fits w e low high f;
    fit-rest = rest-fits w e low high f;
    less = less;
    same = λ a. refl;
    part = part;
    own = λ a. omega arith;
    apart = apart;
  }

-- a ceiling that comes down gives up rights to write
pub lessened : (w : Window) (s : ℕ) → w.mark ≤ s → s ≤ w.ceiling → Fits w → Less Fits rights (λ v. rights (rejoined v)) w (sharing_of w s)
lessened w s low high f = record {
  fit = sharing-fits w s low high f;
  less = λ a. all_three _ _ _ _
      (in-first _ _ (over 1 w.mark w.hi a) (over 1 w.from w.to a) (over-within 2 2 _ _ _ _ (omega arith) (omega arith) high a))
      (in-second _ (over 2 w.mark w.ceiling a) _ (over 1 w.from w.to a) (omega arith))
      (in-third _ (over 2 w.mark w.ceiling a) (over 1 w.mark w.hi a) _ (omega arith));
  same = λ a. refl;
}

abbrev pub windows : Windows
windows = record {
  W = Window;
  now = rights;
  whole = λ w. rights (rejoined w);
  cut = λ w e. parts_of (cut_at w e);
  share = λ w s. shared_of (share_at w s);
  rejoin = rejoined;
  Fit = Fits;
  cut-law = λ w e child rest f h. let m = cut-means w e _ (parts_cut (cut_at w e) child rest h) in
      subst (λ (c : Cut). Parts Fits rights (λ v. rights (rejoined v)) w c.child c.rest) (sym m.is) (divided w e m.low m.high f);
  share-law = λ w s rest f h. let m = share-means w s rest (shared_back (share_at w s) rest h) in
      subst (λ x. Less Fits rights (λ v. rights (rejoined v)) w x) (sym m.is-rest) (lessened w s m.low m.high f);
  rejoin-fit = rejoined-fits;
  rejoin-same = λ w a f. refl;
  rejoin-own = λ w f a. omega arith;
}
