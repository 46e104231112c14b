-- `tables::marks::put_core` meets its contract. Assumes nothing.
use Rattle.tables.proofs.Changes.{changed}
use Rattle.tables.proofs.Stores.{core-store}
use Rattle.std.proofs.Common.{◌%◌, mod-lt, arith, length-set}
use Rattle.tables.proofs.marks.put_core.Goals as goal

pub returns : goal.returns
returns c =
    changed c.args.tables.now _ _ c.if-tables-ne-SIZE.false (simp length-set) (λ words memory. core-store c.args.tables.now words memory (c.args.c % 4) c.args.t c.if-tables-ne-SIZE.false (mod-lt _ (omega arith)))
