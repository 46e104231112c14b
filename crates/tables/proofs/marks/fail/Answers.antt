-- `tables::marks::fail` meets its contract. Assumes nothing.
use Rattle.std.proofs.Common.{arith, length-set}
use Rattle.cells.proofs.Laws.{low, high}
use Rattle.tables.proofs.Changes.{changed}
use Rattle.tables.proofs.Stores.{faulted-store}
use Rattle.std.proofs.Common.{length-set}
use Rattle.tables.proofs.marks.fail.Goals as goal

pub returns : goal.returns
returns c =
    let args' = c.args in
    let if1' = c.if-tables-ne-SIZE in
    changed args'.tables.now _ _ if1'.false (simp length-set) (λ words memory. rw (low _ _ c.to_le_bytes.ensures, high _ _ (omega arith) c.to_le_bytes.ensures) (faulted-store args'.tables.now words memory args'.n args'.t args'.offset if1'.false))
