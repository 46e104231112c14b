-- `tables::marks::put_count` meets its contract. Assumes nothing.
use Rattle.tables.proofs.Changes.{changed}
use Rattle.tables.proofs.Stores.{count-store}
use Rattle.std.proofs.Common.{length-set}
use Rattle.tables.proofs.marks.put_count.Goals as goal

pub returns : goal.returns
returns c =
    changed c.args.tables.now _ _ c.if-tables-ne-SIZE.false (simp length-set) (λ words memory. count-store c.args.tables.now words memory c.args.n c.if-tables-ne-SIZE.false)
