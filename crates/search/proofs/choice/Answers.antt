-- `search::choice` meets its contract. Assumes nothing.
use mathlib.Core.Path.{refl}
use native.Mathlib.Omega.{arith}
use Rattle.search.proofs.Searching.{busy, idle}
use Rattle.search.proofs.choice.Goals as goal

pub returns-then-on_core-lt-NONE : goal.returns-then-on_core-lt-NONE
returns-then-on_core-lt-NONE c =
    let on-core' = c.on_core in
    λ ps al. record { means = λ l words memory. busy _ _ _ _ (omega (arith, c.if-on_core-lt-NONE.true, on-core'.ensures.means l words memory)) refl; other = λ n. refl }

pub returns : goal.returns
returns c =
    let on-core' = c.on_core in
    λ ps al.
    record {
      means = λ l words memory. idle _ _ _ _ (omega (arith, c.if-on_core-lt-NONE.false, on-core'.ensures.means l words memory)) ((c.idle_choice.ensures ps al).means l words memory);
      other = λ n. absurd (omega (arith, c.if-on_core-lt-NONE.false, on-core'.ensures.other n));
    }
