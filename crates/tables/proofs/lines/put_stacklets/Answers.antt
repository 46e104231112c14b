-- `tables::lines::put_stacklets` meets its contract. Assumes nothing.
use Rattle.std.proofs.Common.{◌≡◌, length, arith, rules, length-take, length-drop}
use Rattle.tables.proofs.Changes.{changed, unchanged}
use Rattle.tables.proofs.Stores.{tops-store}
use Rattle.tables.proofs.lines.put_stacklets.Goals as goal

pub copy_from_slice-requires : goal.copy_from_slice-requires
copy_from_slice-requires c = let long : length c.args.s.tops ≡ 16 = search rules in simp (length-take, length-drop) (omega arith)

pub returns-then-tables-ne-SIZE : goal.returns-then-tables-ne-SIZE
returns-then-tables-ne-SIZE c = unchanged c.args.tables.now _ c.if-tables-ne-SIZE.true

pub returns : goal.returns
returns c =
    let long : length c.args.s.tops ≡ 16 = search rules in
    changed c.args.tables.now _ _ c.if-tables-ne-SIZE.false (search rules)
    (λ words memory. tops-store c.args.tables.now words memory _ c.args.s c.if-tables-ne-SIZE.false long c.copy_from_slice.ensures.after)
