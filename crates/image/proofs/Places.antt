-- Where the codes stand, row by row: what the loops over the rows and over the routines rest on. Assumes nothing.
use mathlib.Core.Bool.{Bool, true, false}
use mathlib.Core.List.{List}
use mathlib.Core.Path.{◌≡◌, refl, sym, ◌∙◌, ap}
use Prim.Native.Nat.{ℕ, zero, suc, ◌+◌, ◌-◌, ◌*◌, ◌≤◌, ◌<◌}
use native.Mathlib.Decide.{ℕ_discrete}
use native.Mathlib.Numerals.{add-one}
use native.Mathlib.Omega.{arith}
use lib.ListN.{length, get_or, set, take, drop, replicate, length-set, length-replicate}
use lib.Seq.{get_or-set_same, get_or-set_other}
use Rattle.std.specs.Prelude.{Ok, Err}
use Rattle.command.proofs.Bools.{both}
use Rattle.image.specs.declared.Row.{Row}
use Rattle.image.specs.Code.{Verdict}
use Rattle.image.specs.declared.Refusal.{Refusal}
use Rattle.image.specs.Layout.{routine_count, slots_of, length_of, start_of, code_of, row_of, rows_of, blank_row, program_of, starts_in, starts_up_to}
use Rattle.image.specs.Code.{routine_verdict}
use Rattle.image.specs.Image.{row_good, rows_good, in_range, routines_verdict}

module _ (s : List ℕ) where
  pub start_first : (count : ℕ) → count ≡ routine_count s → 4 * count + 1 ≡ start_of s 0
  unfolding start_of
  start_first count e = rw e

  pub start-next : (r : ℕ) → start_of s r + length_of s r ≡ start_of s (r + 1)
  unfolding start_of
  start-next r = rw add-one

  step-mono : (r n : ℕ) → start_of s r ≤ start_of s n → start_of s r ≤ start_of s (suc n)
  unfolding start_of
  step-mono r n h = omega arith

  pub start-mono : (r n : ℕ) → r ≤ n → start_of s r ≤ start_of s n
  start-mono r zero h = let e : r ≡ 0 = omega arith in rw e (omega arith)
  start-mono r (suc n) h = go (ℕ_discrete r (suc n)) (λ k. start-mono r n k)
    where
      go : Dec (r ≡ suc n) → (r ≤ n → start_of s r ≤ start_of s n) → start_of s r ≤ start_of s (suc n)
      go (yes e) f = rw e (omega arith)
      go (no k) f = step-mono r n (f (omega arith))

  -- a routine's code stands before the next one's
  pub code_inside : (r n : ℕ) → r < n → start_of s r + length_of s r ≤ start_of s n
  code_inside r n h = rw (start-next r) (start-mono (r + 1) n (omega arith))

  -- the part of the image that a routine's code is
  pub code-part : (r start len : ℕ) → start ≡ start_of s r → len ≡ length_of s r → take (start + len - start) (drop start s) ≡ code_of s r
  code-part r start len e f =
      let d : start_of s r + length_of s r - start_of s r ≡ length_of s r = omega arith in
      rw (e, f, d)

  pub good-first : rows_good s 0 ≡ true
  unfolding rows_good
  good-first = refl

  pub good_more : (r : ℕ) → rows_good s r ≡ true → row_good s r ≡ true → rows_good s (r + 1) ≡ true
  unfolding rows_good
  good_more r h k = rw (add-one, h) k

  pub good-all : (r n : ℕ) → r < n → rows_good s n ≡ true → row_good s r ≡ true
  unfolding rows_good
  good-all r zero h e = absurd (omega arith)
  good-all r (suc n) h e = go (ℕ_discrete r n) (λ k d. good-all r n k d)
    where
      go : Dec (r ≡ n) → (r < n → rows_good s n ≡ true → row_good s r ≡ true) → row_good s r ≡ true
      go (yes i) f = rw i (both (rows_good s n) _ e).1
      go (no i) f = f (omega arith) (both (rows_good s n) _ e).0

  pub bad-row : (r n : ℕ) → r < n → row_good s r ≡ false → false ≡ rows_good s n
  bad-row r n h bad = go (rows_good s n) refl
    where
      go : (b : Bool) → rows_good s n ≡ b → false ≡ rows_good s n
      go true e = let z : row_good s r ≡ true = good-all r n h e in let y : ◌≡◌ {A = ℕ} 0 1 = cc in absurd (omega arith)
      go false e = sym e

  pub rows-first : replicate 32 blank_row ≡ rows_of s 0
  unfolding rows_of
  rows-first = refl

  pub rows_more : (r : ℕ) → set (rows_of s r) r (row_of s r) ≡ rows_of s (r + 1)
  unfolding rows_of
  rows_more r = rw (add-one r)

  length-rows : (n : ℕ) → length (rows_of s n) ≡ 32
  unfolding rows_of
  length-rows zero = length-replicate 32 blank_row
  length-rows (suc n) = length-set (rows_of s n) n (row_of s n) ∙ length-rows n

  -- the row of each routine that there is
  pub row_at : (r n : ℕ) → r < n → n ≤ 32 → get_or (rows_of s n) r blank_row ≡ row_of s r
  unfolding rows_of
  row_at r zero h k = absurd (omega arith)
  row_at r (suc n) h k = go (ℕ_discrete r n) (λ l. row_at r n l (omega arith))
    where
      go : Dec (r ≡ n) → (r < n → get_or (rows_of s n) r blank_row ≡ row_of s r) → get_or (set (rows_of s n) n (row_of s n)) r blank_row ≡ row_of s r
      go (yes e) f = rw e (get_or-set_same (rows_of s n) n (row_of s n) blank_row (omega (arith, length-rows n)))
      go (no e) f = get_or-set_other (rows_of s n) n r (row_of s n) blank_row e ∙ f (omega arith)

  -- the verdict on the part of the image that is a routine's code is the routine's
  pub routine-at : (r start len slots : ℕ) (v : Verdict) → start ≡ start_of s r → len ≡ length_of s r → slots ≡ slots_of s r
      → v ≡ routine_verdict (in_range s slots) (take (start + len - start) (drop start s)) → v ≡ routine_verdict (in_range s (slots_of s r)) (code_of s r)
  routine-at r start len slots v e f g is = is ∙ rw (code-part r start len e f, g)

  -- one routine more is accepted
  pub routine-passes : (r n : ℕ) (v : Verdict) → r < n → v ≡ routine_verdict (in_range s (slots_of s r)) (code_of s r) → v ≡ Ok tt
      → routines_verdict s (n - r) r ≡ routines_verdict s (n - (r + 1)) (r + 1)
  unfolding routines_verdict
  routine-passes r n v h is e =
      let d : n - r ≡ suc (n - (r + 1)) = omega arith in
      rw (d, sym is ∙ e, add-one)

  -- a routine is refused
  pub routine-fails : (r n : ℕ) (v : Verdict) (x : Refusal) → r < n → v ≡ routine_verdict (in_range s (slots_of s r)) (code_of s r) → v ≡ Err x
      → Err x ≡ routines_verdict s (n - r) r
  unfolding routines_verdict
  routine-fails r n v x h is e =
      let d : n - r ≡ suc (n - (r + 1)) = omega arith in
      rw (d, sym is ∙ e)

  pub routines-end : (r n : ℕ) → n ≤ r → Ok tt ≡ routines_verdict s (n - r) r
  unfolding routines_verdict
  routines-end r n h = let d : n - r ≡ 0 = omega arith in rw d

  pub first-routine : (n : ℕ) → routines_verdict s (n - 0) 0 ≡ routines_verdict s n 0
  first-routine n = let d : n - 0 ≡ n = omega arith in rw d

-- the starts copied out of the rows
pub starts_first : (rows : List Row) → replicate 32 0 ≡ starts_up_to rows 0
unfolding starts_up_to
starts_first rows = refl

pub starts_more : (rows : List Row) (r : ℕ) → set (starts_up_to rows r) r (get_or rows r blank_row).start ≡ starts_up_to rows (r + 1)
unfolding starts_up_to
starts_more rows r = rw (add-one r)

length-starts : (rows : List Row) (n : ℕ) → length (starts_up_to rows n) ≡ 32
unfolding starts_up_to
length-starts rows zero = refl
length-starts rows (suc n) = length-set (starts_up_to rows n) n (get_or rows n blank_row).start ∙ length-starts rows n

start-of-row : (rows : List Row) (r n : ℕ) → r < n → n ≤ 32 → get_or (starts_up_to rows n) r 0 ≡ (get_or rows r blank_row).start
unfolding starts_up_to
start-of-row rows r zero h k = absurd (omega arith)
start-of-row rows r (suc n) h k = go (ℕ_discrete r n) (λ l. start-of-row rows r n l (omega arith))
  where
    go : Dec (r ≡ n) → (r < n → get_or (starts_up_to rows n) r 0 ≡ (get_or rows r blank_row).start)
        → get_or (set (starts_up_to rows n) n (get_or rows n blank_row).start) r 0 ≡ (get_or rows r blank_row).start
    go (yes e) f = rw e (get_or-set_same (starts_up_to rows n) n (get_or rows n blank_row).start 0 (omega (arith, length-starts rows n)))
    go (no e) f = get_or-set_other (starts_up_to rows n) n r (get_or rows n blank_row).start 0 e ∙ f (omega arith)

-- where each routine's code starts
pub starts-at : (s : List ℕ) (r : ℕ) → r < routine_count s → routine_count s ≤ 32 → get_or (starts_in (program_of s)) r 0 ≡ start_of s r
starts-at s r h k = start-of-row (rows_of s (routine_count s)) r 32 (omega arith) (omega arith) ∙ ap (λ row. row.start) (row_at s r (routine_count s) h k)
