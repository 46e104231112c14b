-- The entries of a schedule are those that reading finds one after another, and their bytes are the schedule's. Assumes nothing.
use mathlib.Core.Path.{◌≡◌, refl, ap, sym, ◌∙◌}
use mathlib.Core.Bool.{Bool, true, false, cond}
use mathlib.Core.List.{List, [], ◌∷◌, ◌++◌}
use Prim.Native.Nat.{ℕ, ◌+◌, ◌≤◌}
use native.Mathlib.Omega.{arith}
use borrow.Author.Tests.{ltb-false, le-ltb}
use lib.ListN.{length, drop}
use lib.Seq.{drop-drop}
use lib.Dec.{eqb, ltb}
use Rattle.schedule.proofs.Standing.{FoundAt, found, ended}
use Rattle.schedule.specs.Format.{EntryRead, bytes_of_entry, bytes_of_entries, entry_in, entry_at}
use Rattle.schedule.specs.Meaning.{Schedule, prepend, entries_of, schedule_of}
use Rattle.schedule.specs.declared.Entry.{Entry}
use Rattle.schedule.specs.declared.Entry.TheVariants.{Step, Take, Steal, Enable}
use Rattle.std.proofs.Common.{Some, None, Ok, Err}

-- the entries from what was read at a position on
abbrev pub follow : List ℕ → EntryRead → Schedule
follow s (Ok (Some (e, next))) = prepend e (entries_of (drop next s))
follow s (Ok None) = Ok []
follow s (Err _) = Err (record {})

-- a function of what is made of an entry with one operand
pub one_map : {A B : Type 0} (f : A → B) (x : ℕ) (g : Entry → A) (u : A) (a b c : Bool)
    → f (cond a (g (Step x)) (cond b (g (Take x)) (cond c (g (Enable x)) u))) ≡ cond a (f (g (Step x))) (cond b (f (g (Take x))) (cond c (f (g (Enable x))) (f u)))
one_map f x g u true b c = refl
one_map f x g u false true c = refl
one_map f x g u false false true = refl
one_map f x g u false false false = refl

follow-steal : (s : List ℕ) (a : Bool) (e : Entry) (n : ℕ) (l : List ℕ) (r : EntryRead) (t : Schedule) → drop n s ≡ l → t ≡ follow s r
    → cond a (prepend e (entries_of l)) t ≡ follow s (cond a (Ok (Some (e, n))) r)
follow-steal s true e n l r t h k = rw h
follow-steal s false e n l r t h k = k

-- one step of reading on
in-follows : (s : List ℕ) (at : ℕ) (l : List ℕ) → drop at s ≡ l → entries_of l ≡ follow s (entry_in at l)
unfolding entries_of entry_in
in-follows s at [] h = refl
in-follows s at (k ∷ []) h = refl
in-follows s at (k ∷ x ∷ []) h =
    let d : drop (at + 2) s ≡ [] = sym (drop-drop 2 at s) ∙ ap (drop 2) h in
    sym (one_map (follow s) x (λ e. Ok (Some (e, at + 2))) (Err (record {})) (eqb k 1) (eqb k 2) (eqb k 4) ∙ rw d)
in-follows s at (k ∷ x ∷ y ∷ rest) h =
    let d : drop (at + 2) s ≡ y ∷ rest = sym (drop-drop 2 at s) ∙ ap (drop 2) h in
    let t : drop (at + 3) s ≡ rest = sym (drop-drop 3 at s) ∙ ap (drop 3) h in
    follow-steal s (eqb k 3) (Steal x y) (at + 3) rest _ _ t (sym (one_map (follow s) x (λ e. Ok (Some (e, at + 2))) (Err (record {})) (eqb k 1) (eqb k 2) (eqb k 4) ∙ rw d))

pub follows : (s : List ℕ) (at : ℕ) → entries_of (drop at s) ≡ follow s (entry_at s at)
unfolding entry_at
follows s at = in-follows s at (drop at s) refl

prepended : (d : Entry) (t : Schedule) (e : Entry) (es : List Entry) → prepend d t ≡ Ok (e ∷ es) → (d ≡ e) × (t ≡ Ok es)
prepended d (Ok ds) e es h = (cc, cc)
prepended d (Err _) e es h = let z : ◌≡◌ {A = ℕ} 0 1 = cc in absurd (omega arith)

prepended-some : (d : Entry) (t : Schedule) → prepend d t ≡ Ok [] → ◌≡◌ {A = ℕ} 0 1
prepended-some d (Ok ds) h = cc
prepended-some d (Err _) h = cc

-- what is met at a position where the entries e and then es are left
pub record Next (s : List ℕ) (at : ℕ) (e : Entry) (es : List Entry) : Type 0 where
  pub read : entry_at s at ≡ Ok (Some (e, at + length (bytes_of_entry e)))
  pub rest : entries_of (drop (at + length (bytes_of_entry e)) s) ≡ Ok es

next-by : (s : List ℕ) (at : ℕ) (r : EntryRead) (e : Entry) (es : List Entry) → entry_at s at ≡ r → follow s r ≡ Ok (e ∷ es) → Next s at e es
next-by s at (Ok (Some (d, n))) e es h k =
    let p : (d ≡ e) × (entries_of (drop n s) ≡ Ok es) = prepended d (entries_of (drop n s)) e es k in
    let f : FoundAt s at d n = found s at d n h in
    let q : n ≡ at + length (bytes_of_entry e) = f.after ∙ ap (λ (i : Entry). at + length (bytes_of_entry i)) p.0 in
    record { read = h ∙ rw (p.0, q); rest = rw (← q) p.1 }
next-by s at (Ok None) e es h k = let z : ◌≡◌ {A = ℕ} 0 1 = cc in absurd (omega arith)
next-by s at (Err _) e es h k = let z : ◌≡◌ {A = ℕ} 0 1 = cc in absurd (omega arith)

pub next-entry : (s : List ℕ) (at : ℕ) (e : Entry) (es : List Entry) → entries_of (drop at s) ≡ Ok (e ∷ es) → Next s at e es
next-entry s at e es h = next-by s at (entry_at s at) e es refl (sym (follows s at) ∙ h)

end_by : (s : List ℕ) (at : ℕ) (r : EntryRead) → entry_at s at ≡ r → follow s r ≡ Ok [] → entry_at s at ≡ Ok None
end_by s at (Ok (Some (d, n))) h k = let z : ◌≡◌ {A = ℕ} 0 1 = prepended-some d (entries_of (drop n s)) k in absurd (omega arith)
end_by s at (Ok None) h k = h
end_by s at (Err _) h k = let z : ◌≡◌ {A = ℕ} 0 1 = cc in absurd (omega arith)

-- after the last entry the end is met
pub no-entry : (s : List ℕ) (at : ℕ) → entries_of (drop at s) ≡ Ok [] → entry_at s at ≡ Ok None
no-entry s at h = end_by s at (entry_at s at) refl (sym (follows s at) ∙ h)

-- what a reader knows who has read e where the entries es are left: e is the first of them, and the others are left after it
pub record ReadOf (s : List ℕ) (es : List Entry) (e : Entry) (next : ℕ) : Type 0 where
  pub others : List Entry
  pub first : es ≡ e ∷ others
  pub rest : entries_of (drop next s) ≡ Ok others

read_by : (s : List ℕ) (es : List Entry) (e : Entry) (next : ℕ) (t : Schedule) → entries_of (drop next s) ≡ t → prepend e t ≡ Ok es → ReadOf s es e next
read_by s es e next (Ok ds) h k = record { others = ds; first = cc; rest = h }
read_by s es e next (Err _) h k = let z : ◌≡◌ {A = ℕ} 0 1 = cc in absurd (omega arith)

module _ (s : List ℕ) (at : ℕ) (es : List Entry) (left : entries_of (drop at s) ≡ Ok es) where
  pub read-entry : (e : Entry) (next : ℕ) → entry_at s at ≡ Ok (Some (e, next)) → ReadOf s es e next
  read-entry e next h = read_by s es e next (entries_of (drop next s)) refl (sym (follows s at ∙ ap (follow s) h) ∙ left)

  -- at the end no entry is left
  pub read-end : entry_at s at ≡ Ok None → es ≡ []
  read-end h = let k : ◌≡◌ {A = Schedule} (Ok []) (Ok es) = sym (follows s at ∙ ap (follow s) h) ∙ left in cc

  -- an accepted schedule is malformed nowhere
  pub read-malformed : entry_at s at ≡ Err (record {}) → ⊥
  read-malformed h =
      let k : ◌≡◌ {A = Schedule} (Err (record {})) (Ok es) = sym (follows s at ∙ ap (follow s) h) ∙ left in
      let z : ◌≡◌ {A = ℕ} 0 1 = cc in
      omega arith

-- the bytes of accepted entries are the schedule
pub whole_from : (s : List ℕ) (at : ℕ) (es : List Entry) → entries_of (drop at s) ≡ Ok es → drop at s ≡ bytes_of_entries es
unfolding bytes_of_entries
whole_from s at [] h = ended s at (no-entry s at h)
whole_from s at (e ∷ es) h =
    let n : Next s at e es = next-entry s at e es h in
    (found s at e _ n.read).bytes ∙ ap (λ (l : List ℕ). bytes_of_entry e ++ l) (whole_from s (at + length (bytes_of_entry e)) es n.rest)

-- an entry's bytes before others are that entry before theirs
entries-entry : (e : Entry) (l : List ℕ) → entries_of (bytes_of_entry e ++ l) ≡ prepend e (entries_of l)
unfolding entries_of
entries-entry (Step c) [] = refl
entries-entry (Step c) (y ∷ rest) = refl
entries-entry (Take c) [] = refl
entries-entry (Take c) (y ∷ rest) = refl
entries-entry (Steal c t) l = refl
entries-entry (Enable t) [] = refl
entries-entry (Enable t) (y ∷ rest) = refl

-- the bytes of a list of entries are accepted as these entries
pub accepts : (es : List Entry) → entries_of (bytes_of_entries es) ≡ Ok es
unfolding bytes_of_entries entries_of
accepts [] = refl
accepts (e ∷ es) = entries-entry e (bytes_of_entries es) ∙ ap (prepend e) (accepts es)

-- a schedule that is accepted is one of at most 32,768 bytes
pub record Accepted (s : List ℕ) (es : List Entry) : Type 0 where
  pub means : entries_of s ≡ Ok es
  pub bytes : s ≡ bytes_of_entries es
  pub short : length s ≤ 32768

accepted-by : (s : List ℕ) (es : List Entry) (b : Bool) → ltb 32768 (length s) ≡ b → cond b (Err (record {})) (entries_of s) ≡ Ok es → Accepted s es
accepted-by s es true h k = let z : ◌≡◌ {A = ℕ} 0 1 = cc in absurd (omega arith)
accepted-by s es false h k = record { means = k; bytes = whole_from s 0 es k; short = ltb-false 32768 (length s) h }

pub accepted : (s : List ℕ) (es : List Entry) → schedule_of s ≡ Ok es → Accepted s es
unfolding schedule_of
accepted s es h = accepted-by s es (ltb 32768 (length s)) refl h

-- and the bytes of any entries that short are
pub accepts-short : (es : List Entry) → length (bytes_of_entries es) ≤ 32768 → schedule_of (bytes_of_entries es) ≡ Ok es
unfolding schedule_of
accepts-short es h = rw (le-ltb 32768 (length (bytes_of_entries es)) h) (accepts es)
