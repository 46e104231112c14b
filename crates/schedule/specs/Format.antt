-- The bytes of an entry, and the entry that stands at a position of a schedule: document 01, "Schedule".
use Rattle.std.specs.Prelude.{List, [], ◌∷◌, ◌++◌, cond, ◌↔◌, ◌⊎◌, ◌≡◌, ℕ, ◌+◌, ◌≤◌, ◌<◌, length, drop, eqb, Option, Some, None, Result, Ok, Err}
use Rattle.schedule.specs.declared.Entry.{Entry}
use Rattle.schedule.specs.declared.Entry.TheVariants.{Step, Take, Steal, Enable}
use Rattle.schedule.specs.declared.Malformed.{Malformed}

-- "01 c step; 02 c take ..; 03 c t steal ..; 04 t enable"
abbrev pub bytes_of_entry : Entry → List ℕ
bytes_of_entry (Step c) = 1 ∷ c ∷ []
bytes_of_entry (Take c) = 2 ∷ c ∷ []
bytes_of_entry (Steal c t) = 3 ∷ c ∷ t ∷ []
bytes_of_entry (Enable t) = 4 ∷ t ∷ []

-- the bytes of entries, one after another
unfoldable pub bytes_of_entries : List Entry → List ℕ
bytes_of_entries [] = []
bytes_of_entries (e ∷ es) = bytes_of_entry e ++ bytes_of_entries es

-- what is made of an entry with the one operand x, by its command byte k: 01, 02 or 04; and of any other byte
abbrev pub one_operand : {A : Type 0} → ℕ → ℕ → (Entry → A) → A → A
one_operand k x found unknown =
    cond (eqb k 1) (found (Step x))
    (cond (eqb k 2) (found (Take x))
    (cond (eqb k 4) (found (Enable x))
    unknown))

-- what reading finds: an entry and the position after it, none at the end, or an unknown byte or a cut entry
abbrev pub EntryRead : Type 0
EntryRead = Result (Option (Entry × ℕ)) Malformed

-- the entry at the front of bytes that start at a position, with the position after it
unfoldable pub entry_in : ℕ → List ℕ → EntryRead
entry_in at [] = Ok None
entry_in at (k ∷ []) = Err (record {})
entry_in at (k ∷ x ∷ []) = one_operand k x (λ e. Ok (Some (e, at + 2))) (Err (record {}))
entry_in at (k ∷ x ∷ y ∷ rest) = cond (eqb k 3) (Ok (Some (Steal x y, at + 3))) (one_operand k x (λ e. Ok (Some (e, at + 2))) (Err (record {})))

-- the entry at a position of a schedule
unfoldable pub entry_at : List ℕ → ℕ → EntryRead
entry_at s at = entry_in at (drop at s)

-- document 01's number for each answer of `read`: 13 is "unknown byte, cut entry"
abbrev pub number_of_entry_read : EntryRead → ℕ
number_of_entry_read (Ok (Some (e, next))) = 0
number_of_entry_read (Ok None) = 0
number_of_entry_read (Err _) = 13

-- an entry's bytes stand at a position
abbrev pub StandsAt : List ℕ → ℕ → Entry → Type 0
StandsAt s at e = (rest : List ℕ) × (drop at s ≡ bytes_of_entry e ++ rest)

-- what `read` gives: each answer exactly under its condition, which does not cite the row of tests
pub record EntryAnswer (s : List ℕ) (at : ℕ) (r : EntryRead) : Type 0 where
  pub is : r ≡ entry_at s at
  -- "13 (whole run): unknown byte, cut entry": bytes are left, and no entry's bytes stand there
  pub number13 : (number_of_entry_read r ≡ 13) ↔ ((at < length s) × ((e : Entry) → ¬ (StandsAt s at e)))
  -- else nothing is left, or an entry's bytes stand there
  pub number0 : (number_of_entry_read r ≡ 0) ↔ ((length s ≤ at) ⊎ ((e : Entry) × StandsAt s at e))
  pub ends : (r ≡ Ok None) ↔ (length s ≤ at)
  -- that entry is given, with "the next entry's position"
  pub finds : (e : Entry) → (r ≡ Ok (Some (e, at + length (bytes_of_entry e)))) ↔ StandsAt s at e
