-- What a step that is refused may lack, where nothing jams. Assumes nothing.
use mathlib.Core.Logic.{◌⊎◌}
use mathlib.Core.Path.{◌≡◌}
use Prim.Native.Nat.{ℕ}

-- "20: no free thread number. 21: a stacklet is needed and none is free. 22: .. pass the allowance"
abbrev pub Lacks : ℕ → Type 0
Lacks n = (n ≡ 20) ⊎ ((n ≡ 21) ⊎ (n ≡ 22))
