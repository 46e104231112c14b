-- Queues as lists of different numbers. A queue of different numbers below 32 has room for one more of them, so no queue ever refuses a
-- number (`appended-new`). Assumes nothing.
use mathlib.Core.Bool.{Bool, true, false, cond}
use mathlib.Core.List.{List, [], ◌∷◌, ◌++◌}
use mathlib.Core.Logic.{◌⊎◌, inl, inr, ⊎_elim}
use mathlib.Core.Path.{◌≡◌, refl, sym, ◌∙◌, ap, subst}
use Prim.Native.Nat.{ℕ, zero, suc, ◌<◌, ◌≤◌}
use native.Mathlib.Decide.{ℕ_discrete}
use native.Mathlib.Omega.{arith}
use lib.Dec.{eqb}
use lib.ListN.{length}
use borrow.Author.Tests.{eqb-true, eqb-false}
use Rattle.queue.specs.Contents.{appended, capacity}
use Rattle.queue.proofs.Laws.{appended-room}
use Rattle.rules.specs.Lists.{Every, Member, Distinct}

-- EVERY
pub every_map : {P Q : ℕ → Type 0} → ((x : ℕ) → P x → Q x) → (xs : List ℕ) → Every P xs → Every Q xs
every_map f [] h = tt
every_map f (x ∷ xs) h = (f x h.0, every_map f xs h.1)

-- what holds of every number holds of a member
pub every-member : (P : ℕ → Type 0) (xs : List ℕ) → Every P xs → (x : ℕ) → Member x xs → P x
every-member P [] h x m = elim m [ ]
every-member P (y ∷ ys) h x m = ⊎_elim (λ e. subst P (sym e) h.0) (λ k. every-member P ys h.1 x k) m

-- what holds of all members holds of every number
pub member-every : {P : ℕ → Type 0} (xs : List ℕ) → ((x : ℕ) → Member x xs → P x) → Every P xs
member-every [] f = tt
member-every (y ∷ ys) f = (f y (inl refl), member-every ys (λ x m. f x (inr m)))

pub every-last : (P : ℕ → Type 0) (xs : List ℕ) (n : ℕ) → Every P xs → P n → Every P (xs ++ (n ∷ []))
every-last P [] n h p = (p, tt)
every-last P (x ∷ xs) n h p = (h.0, every-last P xs n h.1 p)

-- MEMBER
pub member-left : (u : ℕ) (xs ys : List ℕ) → Member u xs → Member u (xs ++ ys)
member-left u [] ys h = elim h [ ]
member-left u (x ∷ xs) ys h = ⊎_elim (λ e. inl e) (λ k. inr (member-left u xs ys k)) h

pub member-last : (u : ℕ) (xs : List ℕ) → Member u (xs ++ (u ∷ []))
member-last u [] = inl refl
member-last u (x ∷ xs) = inr (member-last u xs)

pub member-split : (u n : ℕ) (xs : List ℕ) → Member u (xs ++ (n ∷ [])) → (u ≡ n) ⊎ Member u xs
member-split u n [] h = ⊎_elim (λ e. inl e) (λ k. absurd k) h
member-split u n (x ∷ xs) h = ⊎_elim (λ e. inr (inl e)) (λ k. ⊎_elim (λ e. inl e) (λ m. inr (inr m)) (member-split u n xs k)) h

-- DISTINCT
pub distinct-last : (xs : List ℕ) (n : ℕ) → Distinct xs → (Member n xs → ⊥) → Distinct (xs ++ (n ∷ []))
distinct-last [] n d f = ((λ m. m), tt)
distinct-last (x ∷ xs) n d f =
    ((λ m. ⊎_elim (λ e. f (inl (sym e))) d.0 (member-split x n xs m)), distinct-last xs n d.1 (λ m. f (inr m)))

-- THE PIGEONHOLE. Different numbers below k + 1 without the number k are as many, but for one
record Fewer (k : ℕ) (xs : List ℕ) : Type 0 where
  others : List ℕ
  below : Every (λ y. y < k) others
  distinct : Distinct others
  long : length xs ≤ suc (length others)
  among : (x : ℕ) → Member x others → Member x xs

fewer : (k : ℕ) (xs : List ℕ) → Distinct xs → Every (λ x. x < suc k) xs → Fewer k xs
fewer k [] d l = record { others = []; below = tt; distinct = tt; long = omega arith; among = λ x m. m }
fewer k (x ∷ xs) d l = go (ℕ_discrete x k) (fewer k xs d.1 l.1)
  where
    go : Dec (x ≡ k) → Fewer k xs → Fewer k (x ∷ xs)
    go (yes e) f = record {
      others = xs;
      below = member-every xs (λ y m.
          let a = every-member (λ z. z < suc k) xs l.1 y m in
          let b : ¬ (y ≡ k) = λ q. d.0 (subst (λ z. Member z xs) (q ∙ sym e) m) in
          omega arith);
      distinct = d.1;
      long = omega arith;
      among = λ y m. inr m;
    }
    go (no n) f = record {
      others = x ∷ f.others;
      below = ((let a = l.0 in omega arith), f.below);
      distinct = ((λ m. d.0 (f.among x m)), f.distinct);
      long = (let a = f.long in omega arith);
      among = λ y m. ⊎_elim (λ e. inl e) (λ q. inr (f.among y q)) m;
    }

pub at_most : (k : ℕ) (xs : List ℕ) → Distinct xs → Every (λ x. x < k) xs → length xs ≤ k
at_most zero [] d l = omega arith
at_most zero (x ∷ xs) d l = absurd (let a = l.0 in omega arith)
at_most (suc k) xs d l =
    let f = fewer k xs d l in
    let z = at_most k f.others f.distinct f.below in
    let y = f.long in
    omega arith

-- a queue of different numbers below 32 takes one more of them
pub appended-new : (xs : List ℕ) (n : ℕ) → Distinct xs → Every (λ x. x < 32) xs → n < 32 → (Member n xs → ⊥)
    → appended capacity xs n ≡ xs ++ (n ∷ [])
appended-new xs n d l low f = appended-room 32 xs n (at_most 32 (n ∷ xs) (f, d) (low, l))

-- ALL NUMBERS BELOW k. A list without one occurrence of n
unfoldable without : ℕ → List ℕ → List ℕ
without n [] = []
without n (x ∷ xs) = cond (eqb n x) xs (x ∷ without n xs)

without-stays : (n x : ℕ) (xs : List ℕ) → ¬ (x ≡ n) → Member x xs → Member x (without n xs)
unfolding without
without-stays n x [] d m = elim m [ ]
without-stays n x (y ∷ ys) d m = go (eqb n y) refl (λ k. without-stays n x ys d k)
  where
    go : (b : Bool) → eqb n y ≡ b → (Member x ys → Member x (without n ys)) → Member x (cond b ys (y ∷ without n ys))
    go true e rec = ⊎_elim (λ q. absurd (d (q ∙ sym (eqb-true _ _ e)))) (λ k. k) m
    go false e rec = ⊎_elim (λ q. inl q) (λ k. inr (rec k)) m

without-shorter : (n : ℕ) (xs : List ℕ) → Member n xs → suc (length (without n xs)) ≡ length xs
unfolding without
without-shorter n [] m = elim m [ ]
without-shorter n (y ∷ ys) m = go (eqb n y) refl (λ k. without-shorter n ys k)
  where
    go : (b : Bool) → eqb n y ≡ b → (Member n ys → suc (length (without n ys)) ≡ length ys)
        → suc (length (cond b ys (y ∷ without n ys))) ≡ suc (length ys)
    go true e rec = refl
    go false e rec = ⊎_elim (λ q. absurd (eqb-false _ _ e q)) (λ k. ap suc (rec k)) m

-- a list that holds every number below k has at least k numbers
pub at_least : (k : ℕ) (xs : List ℕ) → ((x : ℕ) → x < k → Member x xs) → k ≤ length xs
at_least zero xs h = omega arith
at_least (suc k) xs h =
    let z = at_least k (without k xs) (λ x l. without-stays k x xs (λ e. omega arith) (h x (omega arith))) in
    let y = without-shorter k xs (h k (omega arith)) in
    omega arith
