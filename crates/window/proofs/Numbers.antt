-- A window's answers, each number exactly under its condition. Assumes nothing.
use mathlib.Core.Bool.{Bool, true, false, cond, ◌&&◌, ◌||◌}
use mathlib.Core.Logic.{◌↔◌, ◌⊎◌, inl, inr}
use mathlib.Core.Path.{◌≡◌, refl, ap}
use Prim.Native.Nat.{ℕ, ◌≤◌, ◌<◌}
use native.Mathlib.Decide.{dec_le, dec_lt}
use native.Mathlib.Omega.{arith}
use lib.Dec.{leb, ltb}
use borrow.Author.Tests.{le-leb, lt-leb, lt-ltb, le-ltb}
use Rattle.window.specs.declared.Window.{Window}
use Rattle.window.specs.declared.Cut.{Cut}
use Rattle.std.specs.Prelude.{Option, Some, None}
use Rattle.window.specs.Rights.{may_load, may_store, cut_at, parts_at, share_at, sharing_of}
use Rattle.window.specs.Numbers.{NotFrom, number_of_access, number_of_cut, number_of_share, LoadAnswer, StoreAnswer, CutAnswer, ShareAnswer}
use Rattle.window.proofs.Laws.{Seen, inside, outside, seen, Range, fitting, too-low, too-high, range}

-- the number 0 is given where the test holds
access-0 : (r : Bool) → (number_of_access r ≡ 0) ↔ (r ≡ true)
access-0 true = (λ e. refl, λ e. refl)
access-0 false = (λ e. absurd (omega arith), ap number_of_access)

not-both : (x y a : ℕ) → x ≤ a → a < y → NotFrom x y a → ⊥
not-both x y a p q (inl h) = omega arith
not-both x y a p q (inr h) = omega arith

module _ (w : Window) (a : ℕ) where
  store-10 : {b : Bool} → Dec (32 ≤ a) → Seen w.mark w.ceiling a b
      → (number_of_access (leb 32 a && b) ≡ 10) ↔ ((a < 32) ⊎ NotFrom w.mark w.ceiling a)
  store-10 (no l) _ = rw (lt-leb 32 a (omega arith)) (λ e. inl (omega arith), λ c. refl)
  store-10 (yes l) (inside p q) = rw (le-leb 32 a l) (λ e. absurd (omega arith), λ c. absurd (never c))
    where
      never : (a < 32) ⊎ NotFrom w.mark w.ceiling a → ⊥
      never (inl h) = omega arith
      never (inr h) = not-both w.mark w.ceiling a p q h
  store-10 (yes l) (outside p) = rw (le-leb 32 a l) (λ e. inr p, λ c. refl)

  pub stored : (r : Bool) → r ≡ may_store w a → StoreAnswer w a r
  unfolding may_store
  stored r is = record { is = is; number10 = rw is (store-10 (dec_le 32 a) (seen w.mark w.ceiling a)); number0 = access-0 r }

  load-10 : {b c : Bool} → Dec (a < 32) → Seen w.mark w.hi a b → Seen w.from w.to a c
      → (number_of_access (ltb a 32 || (b || c)) ≡ 10) ↔ ((32 ≤ a) × NotFrom w.mark w.hi a × NotFrom w.from w.to a)
  load-10 (yes l) _ _ = rw (lt-ltb a 32 l) (λ e. absurd (omega arith), λ c. absurd (omega (arith, c.0)))
  load-10 (no l) (inside p q) _ = rw (le-ltb a 32 (omega arith)) (λ e. absurd (omega arith), λ c. absurd (not-both w.mark w.hi a p q c.1))
  load-10 (no l) (outside p) (inside q r) = rw (le-ltb a 32 (omega arith)) (λ e. absurd (omega arith), λ c. absurd (not-both w.from w.to a q r c.2))
  load-10 (no l) (outside p) (outside q) = rw (le-ltb a 32 (omega arith)) (λ e. (omega arith, p, q), λ c. refl)

  pub loaded : (r : Bool) → r ≡ may_load w a → LoadAnswer w a r
  unfolding may_load
  loaded r is = record { is = is; number10 = rw is (load-10 (dec_lt a 32) (seen w.mark w.hi a) (seen w.from w.to a)); number0 = access-0 r }

module _ (w : Window) (e : ℕ) where
  never : w.mark ≤ e → e ≤ w.ceiling → (e < w.mark) ⊎ (w.ceiling < e) → ⊥
  never x y (inl h) = omega arith
  never x y (inr h) = omega arith

  cut-11 : {b : Bool} → Range w e b → (number_of_cut (cond b (Some (parts_at w e)) None) ≡ 11) ↔ ((e < w.mark) ⊎ (w.ceiling < e))
  cut-11 (fitting x y) = (λ p. absurd (omega arith), λ c. absurd (never x y c))
  cut-11 (too-low x) = (λ p. inl x, λ c. refl)
  cut-11 (too-high x) = (λ p. inr x, λ c. refl)

  cut-0 : {b : Bool} → Range w e b → (number_of_cut (cond b (Some (parts_at w e)) None) ≡ 0)
      ↔ (cond b (Some (parts_at w e)) None ≡ Some (parts_at w e))
  cut-0 (fitting x y) = (λ p. refl, λ c. refl)
  cut-0 (too-low x) = (λ p. absurd (omega arith), ap number_of_cut)
  cut-0 (too-high x) = (λ p. absurd (omega arith), ap number_of_cut)

  pub cut_as : (r : Option Cut) → r ≡ cut_at w e → CutAnswer w e r
  unfolding cut_at
  cut_as r is = record { is = is; number11 = rw is (cut-11 (range w e)); number0 = rw is (cut-0 (range w e)) }

  share-31 : {b : Bool} → Range w e b → (number_of_share (cond b (Some (sharing_of w e)) None) ≡ 31) ↔ ((e < w.mark) ⊎ (w.ceiling < e))
  share-31 (fitting x y) = (λ p. absurd (omega arith), λ c. absurd (never x y c))
  share-31 (too-low x) = (λ p. inl x, λ c. refl)
  share-31 (too-high x) = (λ p. inr x, λ c. refl)

  share-0 : {b : Bool} → Range w e b → (number_of_share (cond b (Some (sharing_of w e)) None) ≡ 0) ↔ (cond b (Some (sharing_of w e)) None ≡ Some (sharing_of w e))
  share-0 (fitting x y) = (λ p. refl, λ c. refl)
  share-0 (too-low x) = (λ p. absurd (omega arith), ap number_of_share)
  share-0 (too-high x) = (λ p. absurd (omega arith), ap number_of_share)

  pub share_as : (r : Option Window) → r ≡ share_at w e → ShareAnswer w e r
  unfolding share_at
  share_as r is = record { is = is; number31 = rw is (share-31 (range w e)); number0 = rw is (share-0 (range w e)) }
