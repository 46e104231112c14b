-- `tables::records::thread_at` meets its contract. Assumes nothing.
use Rattle.tables.proofs.Changes.{read}
use Rattle.tables.proofs.Stores.{part-long, record-read}
use Rattle.std.proofs.Common.{◌%◌, ◌∙◌, mod-lt, arith}
use Rattle.tables.proofs.records.thread_at.Goals as goal

pub returns : goal.returns
returns c =
    let args' = c.args in
    let place-of' = c.place_of-a in
    read args'.tables.now _ _ _ c.if-tables-ne-SIZE.false (λ words memory. c.read_record.ensures.0 (part-long args'.tables.now place-of'.result (omega arith)) ∙ record-read args'.tables.now words memory place-of'.result (args'.t % 32) place-of'.ensures.0 (mod-lt _ (omega arith)))
