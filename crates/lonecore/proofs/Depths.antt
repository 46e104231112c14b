-- How deep each thread in use is, the root's depth being 0: it grows by one from parent to child. Assumes nothing.
use mathlib.Core.Path.{◌≡◌}
use Prim.Native.Nat.{ℕ, suc}
use Rattle.rules.specs.State.{State}
use Rattle.rules.specs.Sound.{Used, parent_at}

pub record Depths (s : State) (depth : ℕ → ℕ) : Type 0 where
  pub root : Used s 0 → depth 0 ≡ 0
  pub child : (u : ℕ) → Used s u → ¬ (u ≡ 0) → depth u ≡ suc (depth (parent_at s u))
