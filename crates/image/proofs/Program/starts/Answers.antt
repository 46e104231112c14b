-- `image::Program::starts` meets its contract. Assumes nothing.
use Rattle.image.proofs.Places.{starts_first, starts_more}
use Rattle.image.proofs.Program.starts.Goals as goal

pub loop-r-init : goal.loop-r-init
loop-r-init c = starts_first _

pub loop-r-preserved : goal.loop-r-preserved
loop-r-preserved c = rw c.loop-r.invariant (starts_more _ _)
