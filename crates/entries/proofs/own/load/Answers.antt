-- `entries::own::load` meets its contract. Assumes nothing.
use Rattle.std.proofs.Common.{le-ltb, lt-ltb}
use Rattle.entries.proofs.own.load.Goals as goal

pub returns-then-a-lt32 : goal.returns-then-a-lt32
returns-then-a-lt32 c = rw (lt-ltb _ _ c.if-a-lt32.true) c.word_in.ensures

pub returns : goal.returns
returns c = rw (le-ltb _ _ c.if-a-lt32.false) c.word_in-2.ensures
