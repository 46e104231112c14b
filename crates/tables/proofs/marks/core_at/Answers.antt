-- `tables::marks::core_at` meets its contract. Assumes nothing.
use Rattle.tables.proofs.Changes.{read}
use Rattle.tables.proofs.Meaning.{core_is}
use Rattle.std.proofs.Common.{◌%◌, mod-lt, arith}
use Rattle.tables.proofs.marks.core_at.Goals as goal

pub returns : goal.returns
returns c =
    read c.args.tables.now _ _ _ c.if-tables-ne-SIZE.false (λ words memory. core_is c.args.tables.now words memory (c.args.c % 4) (mod-lt _ (omega arith)))
