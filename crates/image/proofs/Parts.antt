-- A part of the marks is lent to each routine, and comes back. Assumes nothing.
use borrow.Rule.Slice.PartMut.{mid_of, put_mid, mid_len, drop_put}
use mathlib.Core.List.{List}
use mathlib.Core.Path.{◌≡◌, refl, sym, ◌∙◌, ap}
use Prim.Native.Nat.{ℕ, zero, suc, ◌+◌, ◌-◌, ◌≤◌, ◌<◌}
use native.Mathlib.Decide.{dec_lt}
use native.Mathlib.Omega.{arith}
use lib.ListN.{length, get_or, drop, replicate, length-take, get_or-eq_default}
use lib.Seq.{get_or-take, get_or-drop}

-- nothing is marked from a place on
abbrev pub BlankFrom : ℕ → List ℕ → Type 0
BlankFrom start marks = (t : ℕ) → start ≤ t → get_or marks t 0 ≡ 0

module _ (marks : List ℕ) (start end : ℕ) (b : BlankFrom start marks) where
  -- the part is blank
  pub part-blank : (t : ℕ) → get_or (mid_of start (end - start) marks) t 0 ≡ 0
  part-blank t = go (dec_lt t (end - start))
    where
      go : Dec (t < end - start) → get_or (mid_of start (end - start) marks) t 0 ≡ 0
      go (yes h) = get_or-take (end - start) (drop start marks) t 0 h ∙ get_or-drop start marks t 0 ∙ b (start + t) (omega arith)
      go (no h) =
          let past : length (mid_of start (end - start) marks) ≤ t = simp length-take (omega arith) in
          get_or-eq_default (mid_of start (end - start) marks) 0 past

  -- with whatever came back in its place, the marks are blank behind it
  module _ (part : List ℕ) (size : length part ≡ length (mid_of start (end - start) marks)) (h : start ≤ end) (k : end ≤ length marks) where
    behind : (i : ℕ) → get_or (put_mid start (end - start) marks part) (end + i) 0 ≡ 0
    behind i =
        sym (get_or-drop end (put_mid start (end - start) marks part) i 0)
        ∙ ap (λ l. get_or l i 0) (drop_put start end marks part h k (size ∙ mid_len start end marks k)) ∙ get_or-drop end marks i 0 ∙ b (end + i) (omega arith)

    pub part-back : BlankFrom end (put_mid start (end - start) marks part)
    part-back t l = let e : t ≡ end + (t - end) = omega arith in rw e (behind (t - end))

-- marks that are not set yet
pub zeros : (n t : ℕ) → ◌≡◌ {A = ℕ} (get_or (replicate n 0) t 0) 0
zeros zero t = refl
zeros (suc n) zero = refl
zeros (suc n) (suc t) = zeros n t
