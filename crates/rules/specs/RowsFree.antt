-- Worked rows: which thread numbers and stacklets are free at a row's end, and in which order. The order of the stacklets shows in no log byte
-- and in no end, so that the other rows do not witness it.
use Rattle.std.specs.Prelude.{List, [], ◌∷◌, ◌++◌, ℕ}
use Rattle.queue.specs.Contents.{ascending_from}
use Rattle.rules.specs.State.{State}
use Rattle.rules.specs.Runs.{run_from}
use Rattle.rules.specs.Row.{WorkedRow, row_job, row_start}
use Rattle.rules.specs.RowsForks.{lfork_runs_its_child, fork_queues_its_child}

-- a row, and what is free at its end, in the order in which it is handed out
pub record FreeRow : Type 0 where
  pub row : WorkedRow
  pub threads : List ℕ
  pub stacklets : List ℕ

-- the state at a row's end
abbrev end_of : WorkedRow → State
end_of r = run_from (row_job r) (row_start r) r.entries

-- the same by the rules
abbrev pub free_by_rules : FreeRow → FreeRow
free_by_rules r = record { row = r.row; threads = (end_of r.row).queues.free_threads; stacklets = (end_of r.row).queues.free_stacklets }

-- "Free thread numbers and free stacklets each stand in a line, at first ascending: taken at the head, given back at the tail": threads 1 to 31
-- and stacklets 1 to 15 beside the root's. An lfork's child has thread 1 and a frame above its parent's; a fork's has thread 1 and stacklet 1.
-- What the child had is given back before what the root had
abbrev pub free_rows : List FreeRow
free_rows =
    record { row = lfork_runs_its_child; threads = ascending_from 2 30 ++ (1 ∷ 0 ∷ []); stacklets = ascending_from 1 15 ++ (0 ∷ []) }
    ∷ record { row = fork_queues_its_child; threads = ascending_from 2 30 ++ (1 ∷ 0 ∷ []); stacklets = ascending_from 2 14 ++ (1 ∷ 0 ∷ []) }
    ∷ []

-- of each
abbrev pub each_free : List FreeRow → List FreeRow
each_free [] = []
each_free (r ∷ rs) = free_by_rules r ∷ each_free rs
