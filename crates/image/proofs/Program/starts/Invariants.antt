-- `image::Program::starts` meets its contract. Assumes nothing.
use mathlib.Core.Path.{◌≡◌}
use Rattle.image.specs.Layout.{starts_up_to}
use Rattle.image.proofs.Program.starts.Given as goal

abbrev pub invariant-loop-r : goal.invariant-loop-r
invariant-loop-r l = l.starts ≡ starts_up_to l.self.rows l.r
