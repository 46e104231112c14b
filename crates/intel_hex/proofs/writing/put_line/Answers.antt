-- `intel_hex::writing::put_line` meets its contract. Assumes nothing.
use Rattle.intel_hex.proofs.TextLaws.{line-written}
use Rattle.intel_hex.proofs.writing.put_line.Goals as goal

pub returns : goal.returns
returns c = line-written _ _ _ c.put_data-inner.ensures.1 c.put_head.ensures c.put_data-inner.ensures.0 c.put_check.ensures
