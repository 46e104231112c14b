-- Which thread records some bytes hold.
use Rattle.std.specs.Prelude.{List, [], ◌∷◌, ◌++◌, ℕ, zero, suc, ◌*◌, ◌/◌, length}
use Rattle.thread.specs.declared.Thread.{Thread}
use Rattle.cells.specs.Record.{record_at}

-- the first n records of some bytes, 24 bytes each
unfoldable pub records_up_to : List ℕ → ℕ → List Thread
records_up_to bytes zero = []
records_up_to bytes (suc n) = records_up_to bytes n ++ (record_at bytes (24 * n) ∷ [])

-- all of them; fewer than 24 bytes behind the last one are no record
abbrev pub records_of : List ℕ → List Thread
records_of bytes = records_up_to bytes (length bytes / 24)
