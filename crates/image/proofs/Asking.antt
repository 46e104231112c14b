-- Targets that are asked for in the marks of a code. Assumes nothing.
use borrow.Author.Tests.{eq-eqb, ne_eqb}
use mathlib.Core.Bool.{Bool, true, false}
use mathlib.Core.List.{List}
use mathlib.Core.Path.{◌≡◌, refl, sym, ◌∙◌}
use Prim.Native.Nat.{ℕ, ◌+◌, ◌≤◌, ◌<◌}
use native.Mathlib.Decide.{ℕ_discrete, dec_lt}
use native.Mathlib.Omega.{arith}
use lib.Dec.{eqb}
use lib.ListN.{length, get_or, set, length-set, get_or-eq_default}
use lib.Seq.{get_or-set_same, get_or-set_other}
use borrow.Author.Count.{below_more}
use Rattle.image.specs.Marks.{marked, Left, MarksAsked}

pub never : {P : Type 0} → ◌≡◌ {A = Bool} false true → P
never h = let z : ◌≡◌ {A = ℕ} 0 1 = cc in absurd (omega arith)

-- a byte that is asked for is inside
pub asked-inside : (marks : List ℕ) (t : ℕ) → get_or marks t 0 ≡ 2 → t < length marks
asked-inside marks t two = go (dec_lt t (length marks))
  where
    go : Dec (t < length marks) → t < length marks
    go (yes h) = h
    go (no h) = let past : length marks ≤ t = omega arith in absurd (omega (arith, get_or-eq_default marks 0 past))

module _ (marks : List ℕ) (t : ℕ) where
  -- the target is outside the code
  pub outside : length marks ≤ t → MarksAsked (λ start. start t) marks marks false
  outside h = record {
    size = refl;
    kept = λ u. refl;
    put = λ start i a e. absurd (omega (arith, i.within t e));
    back = λ start i e a. never e;
  }

  -- a command was met there
  pub was-met : get_or marks t 0 ≡ 1 → MarksAsked (λ start. start t) marks marks true
  unfolding marked
  was-met e = record {
    size = refl;
    kept = λ u. refl;
    put = λ start i a f. (refl, a);
    back = λ start i f a. (a, i.met t (eq-eqb (get_or marks t 0) 1 e));
  }

  -- none was met there yet
  pub asks : t < length marks → (get_or marks t 0 ≡ 1 → ⊥) → MarksAsked (λ start. start t) marks (set marks t 2) true
  unfolding marked
  asks h n = record {
    size = length-set marks t 2;
    kept = λ u. same u (ℕ_discrete u t);
    put = λ start i a e. (refl, λ u two. put start a e u two (ℕ_discrete u t));
    back = λ start i f a. (λ u two. back start a u two (ℕ_discrete u t), a t (get_or-set_same marks t 2 0 h));
  }
    where
      same : (u : ℕ) → Dec (u ≡ t) → eqb (get_or (set marks t 2) u 0) 1 ≡ eqb (get_or marks u 0) 1
      same u (yes e) = rw (e, get_or-set_same marks t 2 0 h) (sym (ne_eqb (get_or marks t 0) 1 n))
      same u (no d) = rw (get_or-set_other marks t u 2 0 d)

      put : (start : ℕ → Bool) → ((u : ℕ) → get_or marks u 0 ≡ 2 → start u ≡ true) → start t ≡ true → (u : ℕ) → get_or (set marks t 2) u 0 ≡ 2
          → Dec (u ≡ t) → start u ≡ true
      put start a e u two (yes i) = rw i e
      put start a e u two (no d) = a u (sym (get_or-set_other marks t u 2 0 d) ∙ two)

      back : (start : ℕ → Bool) → ((u : ℕ) → get_or (set marks t 2) u 0 ≡ 2 → start u ≡ true) → (u : ℕ) → get_or marks u 0 ≡ 2
          → Dec (u ≡ t) → start u ≡ true
      back start a u two (yes i) = rw i (a t (get_or-set_same marks t 2 0 h))
      back start a u two (no d) = a u (get_or-set_other marks t u 2 0 d ∙ two)

-- the same test in other words
pub reworded : (test test' : (ℕ → Bool) → Bool) (before after : List ℕ) (inside : Bool) → ((start : ℕ → Bool) → test start ≡ test' start)
    → MarksAsked test before after inside → MarksAsked test' before after inside
reworded test test' before after inside same r = record {
  size = r.size;
  kept = r.kept;
  put = λ start i a e. r.put start i a (same start ∙ e);
  back = λ start i f a. ((r.back start i f a).0, sym (same start) ∙ (r.back start i f a).1);
}

-- a test that always holds
pub untested : (test : (ℕ → Bool) → Bool) (marks : List ℕ) → ((start : ℕ → Bool) → test start ≡ true) → MarksAsked test marks marks true
untested test marks holds = record {
  size = refl;
  kept = λ u. refl;
  put = λ start i a e. (refl, a);
  back = λ start i f a. (a, holds start);
}

-- a byte that is asked for, and was not met, is left
pub left_here : (marks : List ℕ) (i : ℕ) → get_or marks i 0 ≡ 2 → Left marks
left_here marks i two = record { byte = i; asked = two }

-- none is asked for below i, nor at i, so none below the next
pub none_more : (marks : List ℕ) (i : ℕ) → ((t : ℕ) → t < i → get_or marks t 0 ≡ 2 → ⊥) → (get_or marks i 0 ≡ 2 → ⊥) → (t : ℕ) → t < i + 1 → get_or marks t 0 ≡ 2 → ⊥
none_more marks i below here = below_more _ _ below here
