-- A log byte and its condition: each where the other. Assumes nothing.
use mathlib.Core.Logic.{◌↔◌}

-- the last part of a condition said in other words
pub exactly-and : {a b c d : Type 0} → (a ↔ (b × c)) → (c ↔ d) → (a ↔ (b × d))
exactly-and x y = (λ e. let z = x.0 e in (z.0, y.0 z.1), λ z. x.1 (z.0, y.1 z.1))
