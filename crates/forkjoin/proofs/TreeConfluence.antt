-- The task tree is confluent: it has the laws of `Confluence`, by the diamond and the kept invariant. So a finished run's result,
-- memory, units and number of steps are the same in whatever order threads stepped.
use Rattle.forkjoin.proofs.Confluence.{Laws}
use Rattle.forkjoin.proofs.TaskName.{TaskName, same-name?}
use Rattle.forkjoin.proofs.Language.{Language}
use Rattle.forkjoin.proofs.TaskTree.{Finished, Halts, State, Step}
use Rattle.forkjoin.proofs.Invariant.{Invariant}
use Rattle.forkjoin.proofs.Diamond.{deterministic, diamond, finished-no-thread, halt-lasts}
use Rattle.forkjoin.proofs.Preservation.{kept}

module _ (𝓛 : Language) where
  open 𝓛 use {Local}

  pub laws : Laws (State Local) TaskName (Step 𝓛) (Halts 𝓛) (Invariant 𝓛) (Finished 𝓛)
  laws = record {
    same-label? = same-name?;
    kept = kept 𝓛;
    deterministic = deterministic 𝓛;
    diamond = diamond 𝓛;
    halt-lasts = halt-lasts 𝓛;
    finished-still = λ p s t i f m. finished-no-thread 𝓛 p s m.who i f m.there;
    finished-no-halt = λ p s n i f h. finished-no-thread 𝓛 p s h.who i f h.there;
  }
