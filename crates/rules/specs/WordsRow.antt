-- A worked row of the stacklets' words: a small run by entries, with the words that are not zero after each of them, worked out by hand from
-- document 01 and T-02. No log byte and no end shows what a frame leaves behind, so that the other rows do not witness it.
use Rattle.std.specs.Prelude.{cond, List, [], ◌∷◌, ℕ, suc, eqb}
use Rattle.schedule.specs.declared.Entry.{Entry}
use Rattle.rules.specs.State.{Job, State}
use Rattle.rules.specs.Rules.{entry_of}
use Rattle.rules.specs.Row.{job_for, start_for}

-- a word: its number among all 1,024, 64 to a stacklet, and what it holds
pub record Word : Type 0 where
  pub number : ℕ
  pub value : ℕ

infix 80 ◌holds◌
abbrev pub ◌holds◌ : ℕ → ℕ → Word
i holds v = record { number = i; value = v }

-- an entry, and the words that are not zero after it
pub record Passed : Type 0 where
  pub entry : Entry
  pub words : List Word

infix 70 ◌leaving◌
abbrev pub ◌leaving◌ : Entry → List Word → Passed
e leaving words = record { entry = e; words = words }

-- a run as a `WorkedRow` tells it: its arguments are 7 and on
pub record WordsRow : Type 0 where
  pub image : List ℕ
  pub cores : ℕ
  pub allowance : ℕ
  pub passed : List Passed

-- those of some words that are not zero, the first of them being word i
abbrev standing : ℕ → List ℕ → List Word
standing i [] = []
standing i (w ∷ ws) = cond (eqb w 0) (standing (suc i) ws) (i holds w ∷ standing (suc i) ws)

-- the entries, each with the words that the rules leave
abbrev passed_from : Job → State → List Passed → List Passed
passed_from j s [] = []
passed_from j s (p ∷ ps) =
    (p.entry leaving standing 0 (entry_of j s p.entry).state.store.words) ∷ passed_from j (entry_of j s p.entry).state ps

-- the same row by the rules
abbrev pub words_by_rules : WordsRow → WordsRow
words_by_rules r = record {
  image = r.image;
  cores = r.cores;
  allowance = r.allowance;
  passed = passed_from (job_for r.image r.allowance) (start_for (job_for r.image r.allowance) r.cores) r.passed;
}

-- of each
abbrev pub each_words : List WordsRow → List WordsRow
each_words [] = []
each_words (r ∷ rs) = words_by_rules r ∷ each_words rs
