-- Which bytes stand where an entry is read: for any bytes and any position. Assumes nothing.
use mathlib.Core.Path.{◌≡◌, refl, ap, ◌∙◌}
use mathlib.Core.Bool.{Bool, true, false, cond}
use mathlib.Core.List.{List, [], ◌∷◌, ◌++◌}
use Prim.Native.Nat.{ℕ, suc, ◌+◌, ◌-◌, ◌≤◌, ◌<◌}
use native.Mathlib.Numerals.{add-one}
use native.Mathlib.Omega.{arith}
use borrow.Author.Tests.{eqb-true, ne_eqb}
use lib.ListN.{length, get_or, drop, length-append, length-drop, drop_of_length-le}
use lib.Seq.{drop-cons, drop-drop}
use lib.Dec.{eqb}
use Rattle.schedule.specs.Format.{EntryRead, bytes_of_entry, one_operand, entry_in, entry_at}
use Rattle.schedule.specs.declared.Entry.{Entry}
use Rattle.schedule.specs.declared.Entry.TheVariants.{Step, Take, Steal, Enable}
use Rattle.std.proofs.Common.{Some, None, Ok, Err}

module _ (s : List ℕ) (at : ℕ) where
  two-left : 2 ≤ length s - at → drop at s ≡ get_or s at 0 ∷ get_or s (at + 1) 0 ∷ drop (at + 2) s
  two-left h =
      let two : at + 2 ≡ suc (suc at) = omega arith in
      rw (drop-cons s at 0 (omega arith), drop-cons s (suc at) 0 (omega arith), add-one at, two)

  -- nothing is left
  pub reads_end : length s ≤ at → entry_at s at ≡ Ok None
  unfolding entry_at entry_in
  reads_end h = rw (drop_of_length-le s h)

  -- one byte is left
  pub reads-cut : at < length s → length s - at < 2 → entry_at s at ≡ Err (record {})
  unfolding entry_at entry_in
  reads-cut h l =
      let none : drop (suc at) s ≡ [] = drop_of_length-le s {i = suc at} (omega arith) in
      rw (drop-cons s at 0 h, none)

  -- an entry of one operand, or an unknown byte
  in_one : (k x : ℕ) (rest : List ℕ) → eqb k 3 ≡ false → entry_in at (k ∷ x ∷ rest) ≡ one_operand k x (λ e. Ok (Some (e, at + 2))) (Err (record {}))
  unfolding entry_in
  in_one k x [] e = refl
  in_one k x (y ∷ rest) e = rw e

  reads-one : 2 ≤ length s - at → (get_or s at 0 ≡ 3 → ⊥) → entry_at s at ≡ one_operand (get_or s at 0) (get_or s (at + 1) 0) (λ e. Ok (Some (e, at + 2))) (Err (record {}))
  unfolding entry_at
  reads-one h n = rw (two-left h) (in_one _ _ _ (ne_eqb _ _ n))

  pub reads-step : 2 ≤ length s - at → get_or s at 0 ≡ 1 → entry_at s at ≡ Ok (Some (Step (get_or s (at + 1) 0), at + 2))
  reads-step h k = reads-one h (λ e. omega arith) ∙ rw k

  pub reads-take : 2 ≤ length s - at → get_or s at 0 ≡ 2 → entry_at s at ≡ Ok (Some (Take (get_or s (at + 1) 0), at + 2))
  reads-take h k = reads-one h (λ e. omega arith) ∙ rw k

  pub reads-enable : 2 ≤ length s - at → get_or s at 0 ≡ 4 → entry_at s at ≡ Ok (Some (Enable (get_or s (at + 1) 0), at + 2))
  reads-enable h k = reads-one h (λ e. omega arith) ∙ rw k

  pub reads-unknown : 2 ≤ length s - at → (get_or s at 0 ≡ 1 → ⊥) → (get_or s at 0 ≡ 2 → ⊥) → (get_or s at 0 ≡ 4 → ⊥) → (get_or s at 0 ≡ 3 → ⊥) → entry_at s at ≡ Err (record {})
  reads-unknown h a b c d = reads-one h d ∙ rw (ne_eqb _ _ a, ne_eqb _ _ b, ne_eqb _ _ c)

  -- a steal cut short
  pub reads-cut-steal : 2 ≤ length s - at → length s - at < 3 → get_or s at 0 ≡ 3 → entry_at s at ≡ Err (record {})
  unfolding entry_at entry_in
  reads-cut-steal h l k =
      let none : drop (at + 2) s ≡ [] = drop_of_length-le s {i = at + 2} (omega arith) in
      rw (two-left (omega arith), none, k)

  pub reads-steal : 3 ≤ length s - at → get_or s at 0 ≡ 3 → entry_at s at ≡ Ok (Some (Steal (get_or s (at + 1) 0) (get_or s (at + 2) 0), at + 3))
  unfolding entry_at entry_in
  reads-steal h k = rw (two-left (omega arith), drop-cons s (at + 2) 0 (omega arith), k)

-- an entry's bytes at a position are read as that entry, whatever follows
in_entry : (at : ℕ) (e : Entry) (rest : List ℕ) → entry_in at (bytes_of_entry e ++ rest) ≡ Ok (Some (e, at + length (bytes_of_entry e)))
unfolding entry_in
in_entry at (Step c) [] = refl
in_entry at (Step c) (y ∷ rest) = refl
in_entry at (Take c) [] = refl
in_entry at (Take c) (y ∷ rest) = refl
in_entry at (Steal c t) rest = refl
in_entry at (Enable t) [] = refl
in_entry at (Enable t) (y ∷ rest) = refl

pub reads-entry : (s : List ℕ) (at : ℕ) (e : Entry) (rest : List ℕ) → drop at s ≡ bytes_of_entry e ++ rest → entry_at s at ≡ Ok (Some (e, at + length (bytes_of_entry e)))
unfolding entry_at
reads-entry s at e rest h = rw h (in_entry at e rest)

-- what a found entry says of the bytes l, which start at a position
pub record Stands (l : List ℕ) (at : ℕ) (e : Entry) (next : ℕ) : Type 0 where
  pub bytes : l ≡ bytes_of_entry e ++ drop (length (bytes_of_entry e)) l
  pub after : next ≡ at + length (bytes_of_entry e)

-- the entry and the position that were read, or others
entry_or : Entry → EntryRead → Entry
entry_or d (Ok (Some (e, n))) = e
entry_or d (Ok None) = d
entry_or d (Err _) = d

next_or : ℕ → EntryRead → ℕ
next_or m (Ok (Some (e, n))) = n
next_or m (Ok None) = m
next_or m (Err _) = m

pub same-found : (d e : Entry) (m n : ℕ) → ◌≡◌ {A = EntryRead} (Ok (Some (d, m))) (Ok (Some (e, n))) → (d ≡ e) × (m ≡ n)
unfolding entry_or next_or
same-found d e m n h = (ap {A = EntryRead} (entry_or d) h, ap {A = EntryRead} (next_or m) h)

moved : (l : List ℕ) (at : ℕ) (d e : Entry) (m n : ℕ) → ◌≡◌ {A = EntryRead} (Ok (Some (d, m))) (Ok (Some (e, n))) → Stands l at d m → Stands l at e n
moved l at d e m n h st =
    let p = same-found d e m n h in
    rw (← p.0, ← p.1) st

by_byte : (k x at : ℕ) (rest : List ℕ) (a b c : Bool) (e : Entry) (n : ℕ) → eqb k 1 ≡ a → eqb k 2 ≡ b → eqb k 4 ≡ c
    → cond {A = EntryRead} a (Ok (Some (Step x, at + 2))) (cond b (Ok (Some (Take x, at + 2))) (cond c (Ok (Some (Enable x, at + 2))) (Err (record {})))) ≡ Ok (Some (e, n)) → Stands (k ∷ x ∷ rest) at e n
by_byte k x at rest true b c e n p q r h = moved _ _ _ _ _ _ h (rw (eqb-true k 1 p) (record { bytes = refl; after = refl }))
by_byte k x at rest false true c e n p q r h = moved _ _ _ _ _ _ h (rw (eqb-true k 2 q) (record { bytes = refl; after = refl }))
by_byte k x at rest false false true e n p q r h = moved _ _ _ _ _ _ h (rw (eqb-true k 4 r) (record { bytes = refl; after = refl }))
by_byte k x at rest false false false e n p q r h = let z : ◌≡◌ {A = ℕ} 0 1 = cc in absurd (omega arith)

by-steal : (k x y at : ℕ) (rest : List ℕ) (a : Bool) (e : Entry) (n : ℕ) → eqb k 3 ≡ a
    → cond {A = EntryRead} a (Ok (Some (Steal x y, at + 3))) (one_operand k x (λ d. Ok (Some (d, at + 2))) (Err (record {}))) ≡ Ok (Some (e, n)) → Stands (k ∷ x ∷ y ∷ rest) at e n
by-steal k x y at rest true e n p h = moved _ _ _ _ _ _ h (rw (eqb-true k 3 p) (record { bytes = refl; after = refl }))
by-steal k x y at rest false e n p h = by_byte k x at (y ∷ rest) (eqb k 1) (eqb k 2) (eqb k 4) e n refl refl refl h

in-found : (l : List ℕ) (at : ℕ) (e : Entry) (n : ℕ) → entry_in at l ≡ Ok (Some (e, n)) → Stands l at e n
unfolding entry_in
in-found [] at e n h = let z : ◌≡◌ {A = ℕ} 0 1 = cc in absurd (omega arith)
in-found (k ∷ []) at e n h = let z : ◌≡◌ {A = ℕ} 0 1 = cc in absurd (omega arith)
in-found (k ∷ x ∷ []) at e n h = by_byte k x at [] (eqb k 1) (eqb k 2) (eqb k 4) e n refl refl refl h
in-found (k ∷ x ∷ y ∷ rest) at e n h = by-steal k x y at rest (eqb k 3) e n refl h

no_end : (x at : ℕ) (a b c : Bool) → cond {A = EntryRead} a (Ok (Some (Step x, at + 2))) (cond b (Ok (Some (Take x, at + 2))) (cond c (Ok (Some (Enable x, at + 2))) (Err (record {})))) ≡ Ok None → ◌≡◌ {A = ℕ} 0 1
no_end x at true b c h = cc
no_end x at false true c h = cc
no_end x at false false true h = cc
no_end x at false false false h = cc

no-end-steal : (k x y at : ℕ) (a : Bool) → cond {A = EntryRead} a (Ok (Some (Steal x y, at + 3))) (one_operand k x (λ d. Ok (Some (d, at + 2))) (Err (record {}))) ≡ Ok None → ◌≡◌ {A = ℕ} 0 1
no-end-steal k x y at true h = cc
no-end-steal k x y at false h = no_end x at (eqb k 1) (eqb k 2) (eqb k 4) h

in_end : (l : List ℕ) (at : ℕ) → entry_in at l ≡ Ok None → l ≡ []
unfolding entry_in
in_end [] at h = refl
in_end (k ∷ []) at h = let z : ◌≡◌ {A = ℕ} 0 1 = cc in absurd (omega arith)
in_end (k ∷ x ∷ []) at h = let z : ◌≡◌ {A = ℕ} 0 1 = no_end x at (eqb k 1) (eqb k 2) (eqb k 4) h in absurd (omega arith)
in_end (k ∷ x ∷ y ∷ rest) at h = let z : ◌≡◌ {A = ℕ} 0 1 = no-end-steal k x y at (eqb k 3) h in absurd (omega arith)

-- an entry that is read stands there, byte for byte, and ends within the schedule
pub record FoundAt (s : List ℕ) (at : ℕ) (e : Entry) (next : ℕ) : Type 0 where
  pub bytes : drop at s ≡ bytes_of_entry e ++ drop next s
  pub after : next ≡ at + length (bytes_of_entry e)
  pub within : next ≤ length s
  pub wide : at + 2 ≤ next

-- an entry has two bytes at least
pub two_bytes : (e : Entry) → 2 ≤ length (bytes_of_entry e)
two_bytes (Step c) = omega arith
two_bytes (Take c) = omega arith
two_bytes (Steal c t) = omega arith
two_bytes (Enable t) = omega arith

pub found : (s : List ℕ) (at : ℕ) (e : Entry) (next : ℕ) → entry_at s at ≡ Ok (Some (e, next)) → FoundAt s at e next
unfolding entry_at
found s at e next h =
    let st : Stands (drop at s) at e next = in-found (drop at s) at e next h in
    let w : 2 ≤ length (bytes_of_entry e) = two_bytes e in
    let b : drop at s ≡ bytes_of_entry e ++ drop (at + length (bytes_of_entry e)) s = st.bytes ∙ ap (λ (l : List ℕ). bytes_of_entry e ++ l) (drop-drop (length (bytes_of_entry e)) at s) in
    let n : length s - at ≡ length (bytes_of_entry e) + (length s - (at + length (bytes_of_entry e))) = simp (length-append, length-drop) at (ap length b) in
    record { bytes = rw st.after b; after = st.after; within = omega (arith, st.after); wide = omega (arith, st.after) }

pub ended : (s : List ℕ) (at : ℕ) → entry_at s at ≡ Ok None → drop at s ≡ []
unfolding entry_at
ended s at h = in_end (drop at s) at h
