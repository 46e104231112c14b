-- A run: the fold of the rules over a list of entries. Document 01, "Schedule".
use Rattle.std.specs.Prelude.{List, [], ◌∷◌, ◌++◌, ℕ, length, drop}
use Rattle.schedule.specs.declared.Entry.{Entry}
use Rattle.rules.specs.State.{Job, State}
use Rattle.rules.specs.Rules.{entry_of}

-- "In a run each entry meets what the last left, the first Start's state, and nothing else writes state or memory"
unfoldable pub run_from : Job → State → List Entry → State
run_from j s [] = s
run_from j s (e ∷ es) = run_from j (entry_of j s e).state es

-- "One log byte per entry: 0 or its number"
unfoldable pub logs_from : Job → State → List Entry → List ℕ
logs_from j s [] = []
logs_from j s (e ∷ es) = (entry_of j s e).log ∷ logs_from j (entry_of j s e).state es

-- "Log bytes past the entries stay"
abbrev pub logged : List ℕ → List ℕ → List ℕ
logged log bytes = bytes ++ drop (length bytes) log
