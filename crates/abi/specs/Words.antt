-- Answers and counts as words of an array.
use Rattle.std.specs.Prelude.{List, [], ◌∷◌, ◌≡◌, ℕ}
use Rattle.census.specs.declared.Census.{Census}
use Rattle.demands.specs.Input.{number_of_run_refusal}
use Rattle.demands.specs.declared.RunAnswer.{RunAnswer}
use Rattle.demands.specs.declared.RunAnswer.TheVariants.{Refused, Finished, Faulted, Open}
use Rattle.run.specs.declared.Shown.{Shown}

-- 0 and the number of a refused run; 1, result and units; 2, number, thread and offset; 3 and the units
abbrev pub answer_words : RunAnswer → List ℕ
answer_words (Refused why) = 0 ∷ number_of_run_refusal why ∷ 0 ∷ 0 ∷ []
answer_words (Finished result units) = 1 ∷ result ∷ units ∷ 0 ∷ []
answer_words (Faulted number thread offset) = 2 ∷ number ∷ thread ∷ offset ∷ []
answer_words (Open units) = 3 ∷ units ∷ 0 ∷ 0 ∷ []

-- "free, running, ready, suspended, waiting or lent": the records in each, in this order
abbrev pub count_words : Census → List ℕ
count_words c = c.free ∷ c.running ∷ c.ready ∷ c.suspended ∷ c.waiting ∷ c.lent ∷ []

-- the words that a call has written: the answer's, the counts', the statuses' and the stacklets'
pub record Written : Type 0 where
  pub answer : List ℕ
  pub counts : List ℕ
  pub statuses : List ℕ
  -- the words of the stacklets
  pub stacklets : List ℕ

abbrev pub written : List ℕ → List ℕ → List ℕ → List ℕ → Written
written answer counts statuses stacklets = record { answer = answer; counts = counts; statuses = statuses; stacklets = stacklets }

-- the words tell what is shown of a run
pub record IsTold (shown : Shown) (answer counts statuses : List ℕ) : Type 0 where
  pub answered : answer ≡ answer_words shown.answer
  pub counted : counts ≡ count_words shown.counts
  pub states : statuses ≡ shown.statuses
