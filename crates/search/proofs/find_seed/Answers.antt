-- `search::find_seed` meets its contract. The invariants: what is left of a chain has the chain's first seed, and the cores left
-- have the first seed of all. The measure is the cores left. Assumes nothing.
use mathlib.Core.Path.{refl, sym, ◌∙◌}
use Prim.Native.Nat.{◌-◌}
use native.Mathlib.Nat.{sub-zero}
use native.Mathlib.Omega.{arith}
use Rattle.tables.proofs.Changes.{thread-seen}
use Rattle.search.proofs.Searching.{stops, empty, meets, goes, found, missed, absent}
use Rattle.search.proofs.find_seed.Goals as goal
use Rattle.search.proofs.find_seed.Goals.{else-loop-test, then-loop-test+then-t-ge-NONE}

pub search-init : goal.search-init
search-init c = (omega arith, λ l ps al words memory. rw (sub-zero, c.count-cores.ensures.means l words memory))

pub loop-init : goal.loop-init
loop-init c = (omega arith, λ l ps al words memory. rw (c.on_core-t.ensures.means l words memory))

pub loop-preserved : goal.loop-preserved
loop-preserved c =
    let is-seed' = c.is_seed in
    let thread-at' = c.thread_at-h in
    let loop' = c.loop in (
      omega arith,
      λ l ps al words memory. goes _ _ loop'.t thread-at'.result is-seed'.result (omega arith) (thread-seen l words memory _ _ (omega arith) thread-at'.ensures) is-seed'.ensures _ _ _ (omega arith) c.if-is_seed.false c.lent_parent-t.ensures ∙ loop'.invariant.1 l ps al words memory,
    )

pub search-preserved : goal.search-preserved
search-preserved c =
    let loop' = c.loop in
    let search' = c.search in (
      omega arith,
      λ l ps al words memory. missed _ _ _ search'.c _ (omega arith) (sym (loop'.invariant.1 l ps al words memory) ∙ elim c.loop-test.branch [ else-loop-test w ↦ empty _ _ _ _ (omega (arith, w.loop-test.false)) | then-loop-test+then-t-ge-NONE w ↦ stops _ _ _ _ w.if-t-ge-NONE.true ]) ∙ search'.invariant.1 l ps al words memory,
    )

pub returns-then-cores-c : goal.returns-then-cores-c
returns-then-cores-c c =
    let search' = c.search in
    λ ps al. record { means = λ l words memory. sym (absent _ _ _ search'.c (omega arith)) ∙ search'.invariant.1 l ps al words memory; other = λ n. refl }

pub returns-then-is_seed : goal.returns-then-is_seed
returns-then-is_seed c =
    let is-seed' = c.is_seed in
    let thread-at' = c.thread_at-h in
    let loop' = c.loop in
    let search' = c.search in
    let count' = c.count-cores in
    λ ps al.
    record {
      means = λ l words memory.
          sym (found _ _ _ search'.c _ (omega arith)
          (sym (meets _ _ loop'.t thread-at'.result is-seed'.result (omega arith) (thread-seen l words memory _ _ (omega arith) thread-at'.ensures) is-seed'.ensures (32 - loop'.counter) (omega arith) c.if-is_seed.true) ∙ loop'.invariant.1 l ps al words memory)
          (omega arith))
          ∙ search'.invariant.1 l ps al words memory;
      other = λ n. absurd (omega (arith, count'.ensures.other n));
    }
