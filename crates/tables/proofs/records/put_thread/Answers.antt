-- `tables::records::put_thread` meets its contract. Assumes nothing.
use Rattle.tables.proofs.Changes.{changed}
use Rattle.tables.proofs.Stores.{part-long, record-store}
use Rattle.std.proofs.Common.{◌%◌, mod-lt, arith, rules}
use Rattle.tables.proofs.records.put_thread.Goals as goal

pub returns : goal.returns
returns c =
    let args' = c.args in
    let if1' = c.if-tables-ne-SIZE in
    let place-of' = c.place_of-a in
    changed args'.tables.now _ _ if1'.false (search rules) (λ words memory. record-store args'.tables.now words memory place-of'.result (args'.t % 32) place-of'.ensures.0 (mod-lt _ (omega arith)) _ args'.th if1'.false (c.write_record.ensures.0 (part-long args'.tables.now place-of'.result (omega arith))))
