-- What a pair of bytes at a position tells: one with the number 1 + 256 * c is a step of core c, and a step of core c is such a pair. Assumes nothing.
use mathlib.Core.Bool.{true, false, true≢false}
use mathlib.Core.List.{List}
use mathlib.Core.Path.{◌≡◌, sym, ◌∙◌, ap}
use Prim.Native.Nat.{ℕ, ◌+◌, ◌*◌, ◌≤◌, ◌<◌}
use native.Mathlib.Nat.{add_assoc}
use native.Mathlib.Omega.{arith}
use borrow.Author.Tests.{leb-true, le-leb, eqb-true, eq-eqb}
use lib.ListN.{length, get_or}
use lib.Seq.{get_or-drop}
use Rattle.schedule.specs.declared.Entry.TheVariants.{Step}
use Rattle.schedule.specs.Format.{entry_at}
use Rattle.schedule.proofs.Bools.{both}
use Rattle.schedule.proofs.Standing.{FoundAt, found, reads-step}
use Rattle.reader.specs.Row.{key_at, is_pair, are_four}
use Rattle.std.proofs.Common.{Some, Ok}

-- two bytes with the number key
pub record Pair (s : List ℕ) (at key : ℕ) : Type 0 where
  pub fits : at + 2 ≤ length s
  pub is : key_at s at (at + 1) ≡ key

-- four such pairs
pub record Four (s : List ℕ) (at key : ℕ) : Type 0 where
  pub fits : at + 8 ≤ length s
  pub first : key_at s at (at + 1) ≡ key
  pub second : key_at s (at + 2) (at + 3) ≡ key
  pub third : key_at s (at + 4) (at + 5) ≡ key
  pub fourth : key_at s (at + 6) (at + 7) ≡ key

-- four steps of core c, one after another
pub record Steps (s : List ℕ) (at c : ℕ) : Type 0 where
  pub first : entry_at s at ≡ Ok (Some (Step c, at + 2))
  pub second : entry_at s (at + 2) ≡ Ok (Some (Step c, at + 4))
  pub third : entry_at s (at + 4) ≡ Ok (Some (Step c, at + 6))
  pub fourth : entry_at s (at + 6) ≡ Ok (Some (Step c, at + 8))

module _ (s : List ℕ) (at key : ℕ) where
  pair : is_pair s at key ≡ true → Pair s at key
  unfolding is_pair
  pair h = let a = both _ _ h in record { fits = leb-true _ _ a.0; is = eqb-true _ _ a.1 }

  is-pair : Pair s at key → is_pair s at key ≡ true
  unfolding is_pair
  is-pair p = rw (le-leb _ _ p.fits, eq-eqb _ _ p.is)

  four : are_four s at key ≡ true → Four s at key
  unfolding are_four
  four h =
      let a = both _ _ h in
      let b = both _ _ a.1 in
      let c = both _ _ b.1 in
      let d = both _ _ c.1 in
      record { fits = leb-true _ _ a.0; first = eqb-true _ _ b.0; second = eqb-true _ _ c.0; third = eqb-true _ _ d.0; fourth = eqb-true _ _ d.1 }

-- a step is a pair
step-pair : (s : List ℕ) (at c next : ℕ) → entry_at s at ≡ Ok (Some (Step c, next)) → Pair s at (1 + c * 256)
step-pair s at c next h =
    let f : FoundAt s at (Step c) next = found s at (Step c) next h in
    let same : at + 0 ≡ at = omega arith in
    let kind : get_or s at 0 ≡ 1 = rw same at (sym (get_or-drop at s 0 0) ∙ ap (λ (l : List ℕ). get_or l 0 0) f.bytes) in
    let core : get_or s (at + 1) 0 ≡ c = sym (get_or-drop at s 1 0) ∙ ap (λ (l : List ℕ). get_or l 1 0) f.bytes in
    record { fits = omega (arith, f.wide, f.within); is = omega (arith, kind, core) }

-- the steps of core c by their pairs, whose number is key
module _ (s : List ℕ) (c key : ℕ) (number : key ≡ 1 + c * 256) (bytes : (i : ℕ) → get_or s i 0 < 256) where
  by-pair : (at : ℕ) → at + 2 ≤ length s → key_at s at (at + 1) ≡ key → entry_at s at ≡ Ok (Some (Step c, at + 2))
  by-pair at l h =
      let kind : get_or s at 0 ≡ 1 = omega (arith, h, number, bytes at) in
      let core : get_or s (at + 1) 0 ≡ c = omega (arith, h, number, bytes at) in
      reads-step s at (omega arith) kind ∙ rw core

  -- k bytes behind a position
  behind : (at k : ℕ) → at + k + 2 ≤ length s → key_at s (at + k) (at + (k + 1)) ≡ key → entry_at s (at + k) ≡ Ok (Some (Step c, at + (k + 2)))
  behind at k l h = rw (← add_assoc at k 2) (by-pair (at + k) l (rw (← add_assoc at k 1) at h))

  pub step : (at : ℕ) → is_pair s at key ≡ true → entry_at s at ≡ Ok (Some (Step c, at + 2))
  step at h = let p : Pair s at key = pair s at key h in by-pair at p.fits p.is

  pub no_step : (at next : ℕ) → is_pair s at key ≡ false → entry_at s at ≡ Ok (Some (Step c, next)) → ⊥
  no_step at next h e = true≢false (sym (is-pair s at key (rw number (step-pair s at c next e))) ∙ h)

  -- four steps one after another
  pub steps : (at : ℕ) → are_four s at key ≡ true → Steps s at c
  steps at h =
      let f : Four s at key = four s at key h in
      record {
        first = by-pair at (omega arith) f.first;
        second = behind at 2 (omega arith) f.second;
        third = behind at 4 (omega arith) f.third;
        fourth = behind at 6 (omega arith) f.fourth;
      }
