-- `tables::frames::push_frame` meets its contract. Assumes nothing.
use Rattle.tables.proofs.Framing.{room, pushed, laid, not-pushed, not-laid}
use Rattle.std.proofs.Common.{◌%◌, arith}
use Rattle.tables.proofs.frames.push_frame.Goals as goal

pub overflow_add-top : goal.overflow_add-top
overflow_add-top c =
    let r = room c.args.tables.now (c.args.x % 16) c.args.slots c.if-tables-ne-SIZE.false c.if-fits.ensures c.top_at-top.result c.top_at-top.ensures in
    omega arith

pub returns-then-fits-clause-tops : goal.returns-then-fits-clause-tops
returns-then-fits-clause-tops c =
    pushed c.args.tables.now (c.args.x % 16) c.args.slots c.if-tables-ne-SIZE.false c.if-fits.ensures _ c.top_at-top.result c.top_at-top.ensures c.put_top.ensures

pub returns-then-fits-clause-words : goal.returns-then-fits-clause-words
returns-then-fits-clause-words c =
    laid c.args.tables.now (c.args.x % 16) c.args.slots c.if-tables-ne-SIZE.false c.if-fits.ensures _ _ _ c.next_base-base.result c.next_base-base.ensures c.lay_frame.ensures

pub returns-else-fits-clause-tops : goal.returns-else-fits-clause-tops
returns-else-fits-clause-tops c =
    not-pushed c.args.tables.now (c.args.x % 16) c.args.slots c.if-tables-ne-SIZE.false c.if-fits.ensures

pub returns-else-fits-clause-words : goal.returns-else-fits-clause-words
returns-else-fits-clause-words c =
    not-laid c.args.tables.now (c.args.x % 16) c.args.slots c.if-tables-ne-SIZE.false c.if-fits.ensures _ _
