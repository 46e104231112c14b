-- What a run gives of its machine beside the answer.
use Rattle.std.specs.Prelude.{List, [], ◌∷◌, ◌≡◌, ℕ, replicate}
use Rattle.thread.specs.declared.Thread.{Thread}
use Rattle.thread.specs.Thread.{status_number}
use Rattle.census.specs.declared.Census.{Census}
use Rattle.census.specs.Counted.{census_of}
use Rattle.rules.specs.State.{State}
use Rattle.tables.specs.Change.{Reads}
use Rattle.demands.specs.declared.RunAnswer.{RunAnswer}
use Rattle.run.specs.declared.Shown.{Shown}
use Rattle.run.specs.declared.Ran.{Ran}

-- the number of each record's status
unfoldable pub statuses_of : List Thread → List ℕ
statuses_of [] = []
statuses_of (thread ∷ threads) = status_number thread.status ∷ statuses_of threads

-- these counts, statuses and words are those of a state
pub record MachineIs (s : State) (census : Census) (numbers stacklets : List ℕ) : Type 0 where
  -- "After a run the records in each state are counted over the thread table"
  pub counts : census ≡ census_of s.threads
  pub statuses : numbers ≡ statuses_of s.threads
  -- the words of the stacklets
  pub words : stacklets ≡ s.store.words

-- an answer, and the counts and statuses that some tables tell
pub record ShownBy (told : RunAnswer) (tables : List ℕ) (r : Shown) : Type 0 where
  pub answer : r.answer ≡ told
  pub counts : Reads tables r.counts (λ s. census_of s.threads) (census_of [])
  pub statuses : Reads tables r.statuses (λ s. statuses_of s.threads) (replicate 32 0)

-- what a run gives, where the words stand in an array of the caller's
abbrev pub ran_with : Shown → List ℕ → Ran
ran_with shown words = record { shown = shown; words = words }
