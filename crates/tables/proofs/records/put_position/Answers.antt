-- `tables::records::put_position` meets its contract. Assumes nothing.
use Rattle.cells.proofs.Laws.{low, high}
use Rattle.tables.proofs.Changes.{changed}
use Rattle.tables.proofs.Stores.{position-store}
use Rattle.std.proofs.Common.{◌%◌, mod-lt, arith, length-set}
use Rattle.tables.proofs.records.put_position.Goals as goal

pub returns : goal.returns
returns c =
    let args' = c.args in
    let if1' = c.if-tables-ne-SIZE in
    let place-of' = c.place_of-a in
    changed args'.tables.now _ _ if1'.false (simp length-set) (λ words memory. rw (low _ _ c.to_le_bytes.ensures, high _ _ (omega arith) c.to_le_bytes.ensures) (position-store args'.tables.now words memory place-of'.result (args'.t % 32) place-of'.ensures.0 (mod-lt _ (omega arith)) args'.p if1'.false))
