-- A good job gives the theory's routines: those of its image, with its parameter words and weights. Assumes nothing.
use Prim.Native.Nat.{ℕ}
use Rattle.thread.proofs.Routines.{Code}
use Rattle.rules.specs.State.{Job}
use Rattle.rules.specs.Sound.{GoodJob}
use Rattle.simulation.proofs.ImageCode.{weight_at, image_code}

-- the weight of routine r's command at position p
abbrev pub weight_in : Job → ℕ → ℕ → ℕ
weight_in j r p = weight_at j.image j.weights r p

abbrev pub code_of : (j : Job) → GoodJob j → Code
code_of j good = image_code j.image good.image j.parameters j.weights good.weighs
