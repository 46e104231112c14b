-- `search::find_seed` meets its contract. The invariants: what is left of a chain has the chain's first seed, and the cores left
-- have the first seed of all. The measure is the cores left. Assumes nothing.
use mathlib.Core.List.{List}
use mathlib.Core.Path.{◌≡◌}
use Prim.Native.Nat.{ℕ, ◌-◌, ◌≤◌}
use lib.ListN.{length}
use Rattle.rules.specs.State.{Job, State, job_of}
use Rattle.tables.specs.Meaning.{size, meaning}
use Rattle.search.specs.Search.{seed_above, seed_on, seed_from, first_seed}
use Rattle.search.proofs.find_seed.Given as goal

-- of what tables of the right size mean, in every job with this image
abbrev Always : List ℕ → List ℕ → List ℕ → (Job → State → Type 0) → Type 0
Always tables image starts P = length tables ≡ size → (parameters : List ℕ) (allowance : ℕ) (words memory : List ℕ) → P (job_of image starts parameters allowance) (meaning tables words memory)

abbrev pub invariant-loop : goal.invariant-loop
invariant-loop l = (l.counter ≤ 32) × Always l.tables l.job.image.now l.job.starts.now (λ j s. seed_above (32 - l.counter) j s l.t ≡ seed_on j s l.c)

abbrev pub invariant-search : goal.invariant-search
invariant-search l = (l.c ≤ l.cores) × Always l.tables l.job.image.now l.job.starts.now (λ j s. seed_from (l.cores - l.c) j s l.c ≡ first_seed j s)

abbrev pub decreases-search : goal.decreases-search
decreases-search l = l.cores - l.c
