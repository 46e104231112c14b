-- `entries::own::put_in` meets its contract. Assumes nothing.
use Rattle.std.proofs.Common.{sym}
use lib.Seq.{set_out}
use Rattle.entries.proofs.own.put_in.Goals as goal

pub returns-else-i-words : goal.returns-else-i-words
returns-else-i-words c = sym (set_out c.args.words.now _ _ c.if-i-words.false)
