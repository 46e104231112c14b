-- What going through a schedule's entries gives.
use Rattle.std.specs.Prelude.{cond, List, [], ◌∷◌, ◌≡◌, ℕ, eqb, length, take}
use Rattle.schedule.specs.declared.Entry.{Entry}
use Rattle.schedule.specs.declared.Entry.TheVariants.{Steal}
use Rattle.schedule.specs.Format.{one_operand}
use Rattle.thread.specs.Job.{Job}
use Rattle.rules.specs.State.{State}
use Rattle.rules.specs.Runs.{run_from, logs_from, logged}

-- the entries at the front of some bytes, up to their end or up to bytes that are no entry
unfoldable pub leading : List ℕ → List Entry
leading [] = []
leading (k ∷ []) = []
leading (k ∷ x ∷ []) = one_operand k x (λ e. e ∷ []) []
leading (k ∷ x ∷ y ∷ rest) = cond (eqb k 3) (Steal x y ∷ leading rest) (one_operand k x (λ e. e ∷ leading (y ∷ rest)) [])

-- those that are met: as many as the log has room for
abbrev pub playable : List ℕ → List ℕ → List Entry
playable schedule log = take (length log) (leading schedule)

-- the fold's state over them, and its log
pub record Played (j : Job) (s : State) (schedule logBefore : List ℕ) (end : State) (logAfter : List ℕ) : Type 0 where
  pub state : end ≡ run_from j s (playable schedule logBefore)
  pub log : logAfter ≡ logged logBefore (logs_from j s (playable schedule logBefore))
