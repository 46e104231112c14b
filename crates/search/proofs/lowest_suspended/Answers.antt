-- `search::lowest_suspended` meets its contract. The loop's invariant: the threads left have the lowest suspended one of all.
-- Assumes nothing.
use mathlib.Core.Bool.{true, false}
use mathlib.Core.Path.{◌≡◌, refl, sym, ◌∙◌}
use native.Mathlib.Omega.{arith}
use Rattle.std.proofs.Common.{rules}
use Rattle.thread.specs.declared.Status.TheVariants.{Suspended}
use Rattle.thread.specs.Thread.{◌is◌}
use Rattle.tables.proofs.Changes.{thread-seen}
use Rattle.search.proofs.Searching.{not-blank, lowest-here, lowest-later, lowest-none}
use Rattle.search.proofs.lowest_suspended.Goals as goal

pub loop-t-init : goal.loop-t-init
loop-t-init c = (omega arith, λ l words memory. refl)

pub returns-then-eq : goal.returns-then-eq
returns-then-eq c =
    let thread-at' = c.thread_at in
    let loop' = c.loop-t in
    let here : (thread-at'.result.status is Suspended) ≡ true = search rules in
    record {
      means = λ l words memory. sym (lowest-here _ _ _ thread-at'.result (omega arith) (thread-seen l words memory _ _ (omega arith) thread-at'.ensures) here) ∙ loop'.invariant.1 l words memory;
      other = λ n. absurd (not-blank thread-at'.result (thread-at'.ensures.other n) here);
    }

pub loop-t-preserved : goal.loop-t-preserved
loop-t-preserved c =
    let thread-at' = c.thread_at in
    let loop' = c.loop-t in
    let other : (thread-at'.result.status is Suspended) ≡ false = search rules in (
      omega arith,
      λ l words memory. lowest-later _ _ loop'.t _ thread-at'.result (omega arith) (thread-seen l words memory _ _ (omega arith) thread-at'.ensures) other ∙ loop'.invariant.1 l words memory,
    )

pub returns : goal.returns
returns c =
    record { means = λ l words memory. sym (lowest-none _ _ c.loop-t.t (omega arith)) ∙ c.loop-t.invariant.1 l words memory; other = λ n. refl }
