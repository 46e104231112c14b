-- What the bytes of a whole schedule mean: a list of entries, or document 01's number 13.
use Rattle.std.specs.Prelude.{◌≡◌, List, [], ◌∷◌, cond, ◌↔◌, ℕ, ◌≤◌, length, ltb, eqb, Result, Ok, Err}
use Rattle.schedule.specs.Format.{bytes_of_entries, one_operand}
use Rattle.schedule.specs.declared.Entry.{Entry}
use Rattle.schedule.specs.declared.Entry.TheVariants.{Steal}
use Rattle.schedule.specs.declared.Malformed.{Malformed}

-- a schedule that is accepted, with its entries in order, or one that is not
abbrev pub Schedule : Type 0
Schedule = Result (List Entry) Malformed

-- an entry before the others
abbrev pub prepend : Entry → Schedule → Schedule
prepend e (Ok es) = Ok (e ∷ es)
prepend e (Err m) = Err m

-- the entries that stand one after another in some bytes: "one-byte commands with one-byte operands"; an unknown byte or a cut entry spoils all
unfoldable pub entries_of : List ℕ → Schedule
entries_of [] = Ok []
entries_of (k ∷ []) = Err (record {})
entries_of (k ∷ x ∷ []) = one_operand k x (λ e. Ok (e ∷ [])) (Err (record {}))
entries_of (k ∷ x ∷ y ∷ rest) =
    cond (eqb k 3) (prepend (Steal x y) (entries_of rest))
    (one_operand k x (λ e. prepend e (entries_of (y ∷ rest))) (Err (record {})))

-- the meaning of a schedule: "13 (whole run): unknown byte, cut entry, or over 32,768 bytes"
unfoldable pub schedule_of : List ℕ → Schedule
schedule_of s = cond (ltb 32768 (length s)) (Err (record {})) (entries_of s)

-- its entries; none of one that is malformed
abbrev pub entries_in : Schedule → List Entry
entries_in (Ok es) = es
entries_in (Err _) = []

-- document 01's number for a schedule: 13, or 0 where it is accepted
abbrev pub number_of_schedule : Schedule → ℕ
number_of_schedule (Ok es) = 0
number_of_schedule (Err _) = 13

-- a schedule of these entries: their bytes and nothing else, so no byte is unknown and no entry cut, and not over 32,768 bytes
pub record IsSchedule (schedule : List ℕ) (es : List Entry) : Type 0 where
  pub bytes : schedule ≡ bytes_of_entries es
  pub short : length schedule ≤ 32768

abbrev pub WellFormed : List ℕ → Type 0
WellFormed schedule = (es : List Entry) × IsSchedule schedule es

-- the count of a schedule's entries
abbrev pub counted_of : Schedule → Result ℕ Malformed
counted_of (Ok es) = Ok (length es)
counted_of (Err m) = Err m

-- document 01's number for each answer of `count`
abbrev pub number_of_counted : Result ℕ Malformed → ℕ
number_of_counted (Ok n) = 0
number_of_counted (Err _) = 13

-- what `count` gives of a schedule's bytes: each number exactly under its condition, which does not cite the reading
pub record Counts (s : List ℕ) (r : Result ℕ Malformed) : Type 0 where
  pub is : r ≡ counted_of (schedule_of s)
  pub number : number_of_counted r ≡ number_of_schedule (schedule_of s)
  -- "13 (whole run): unknown byte, cut entry, or over 32,768 bytes"
  pub number13 : (number_of_counted r ≡ 13) ↔ (¬ (WellFormed s))
  pub number0 : (number_of_counted r ≡ 0) ↔ WellFormed s
  -- the number of the entries whose bytes it is
  pub many : (es : List Entry) → IsSchedule s es → r ≡ Ok (length es)
