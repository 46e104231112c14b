-- `transcript::entry_count` meets its contract. Assumes nothing.
use Rattle.transcript.proofs.Running.{counted}
use Rattle.transcript.proofs.entry_count.Goals as goal

pub returns : goal.returns
returns c = counted _ _ _ c.count.ensures c.unwrap_or.ensures
