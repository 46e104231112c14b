-- Windows of memory, as far as the theory needs them: any structure in which a window is cut into a child's part and a rest of which
-- neither may write what the other may read, gives up rights to share words for reading, and is put together again by a join. An instance
-- (an interval with a mark, a grid, ..) fills in the record.
use mathlib.Core.Path.{◌≡◌}
use mathlib.Core.Option.{Option, some}
use Prim.Native.Nat.{ℕ}
use Rattle.forkjoin.proofs.Rights.{Apart, Rights, Within}

-- w is cut into the child's c and the rest r
pub record Parts {W : Type 0} (Fit : W → Type 0) (now whole : W → Rights) (w c r : W) : Type 0 where
  pub fit-child : Fit c
  pub fit-rest : Fit r
  pub less : Within (now r) (now w)
  pub same : (a : ℕ) → whole r a ≡ whole w a
  pub part : Within (whole c) (now w)
  pub own : Within (now c) (whole c)
  pub apart : Apart (now r) (whole c)

-- w goes on as r, and gives up rights until the join
pub record Less {W : Type 0} (Fit : W → Type 0) (now whole : W → Rights) (w r : W) : Type 0 where
  pub fit : Fit r
  pub less : Within (now r) (now w)
  pub same : (a : ℕ) → whole r a ≡ whole w a

-- `now` is what a window allows, `whole` what it allows once the children have ended; `cut` gives the child's part and the rest, `share` what
-- is left of a window that shares
pub record Windows : Type 1 where
  pub W : Type 0
  pub now : W → Rights
  pub whole : W → Rights
  pub cut : W → ℕ → Option (W × W)
  pub share : W → ℕ → Option W
  pub rejoin : W → W
  pub Fit : W → Type 0
  pub cut-law : (w : W) (e : ℕ) (c r : W) → Fit w → cut w e ≡ some (c, r) → Parts Fit now whole w c r
  pub share-law : (w : W) (s : ℕ) (r : W) → Fit w → share w s ≡ some r → Less Fit now whole w r
  pub rejoin-fit : (w : W) → Fit w → Fit (rejoin w)
  pub rejoin-same : (w : W) (a : ℕ) → Fit w → whole (rejoin w) a ≡ whole w a
  pub rejoin-own : (w : W) → Fit w → Within (now (rejoin w)) (whole (rejoin w))
