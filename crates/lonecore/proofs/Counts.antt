-- How many records of a state are free, and how many wait. The threads in use are at most count * (levels - 1) + 1, so the other records
-- are free (`used-most`); and each thread that waits has a command ahead of it (`waiting-ahead`), as has an open state (`command-ahead`). The first assumes a sound state that is
-- `Few` and its depths, the second a sound state that is followed, where some run of the tree finishes.
use mathlib.Core.List.{List}
use mathlib.Core.Path.{◌≡◌}
use Prim.Native.Nat.{ℕ, ◌+◌, ◌-◌, ◌*◌, ◌≤◌, ◌<◌}
use native.Mathlib.Omega.{arith}
use Rattle.forkjoin.proofs.Arrays.{words-from}
use Rattle.forkjoin.proofs.Follow.{steps-ahead}
use Rattle.thread.specs.declared.Status.TheVariants.{Free, Waiting}
use Rattle.census.specs.Counted.{records_in}
use Rattle.rules.specs.State.{Job, State, going, thread_at}
use Rattle.rules.specs.Sound.{GoodJob, Sound, Used}
use Rattle.soundness.proofs.Parts.{going-unfinished}
use Rattle.simulation.proofs.StatePool.{link_of, pool_of}
use Rattle.simulation.proofs.OwnSteps.{here}
use Rattle.lonecore.proofs.Depths.{Depths}
use Rattle.lonecore.proofs.Followed.{deep_job, Followed, Ending, cell-of}
use Rattle.lonecore.proofs.FewRunning.{Few}
use Rattle.lonecore.proofs.Crowd.{few-used}
use Rattle.lonecore.proofs.Records.{listed_in, listed-used, records_used, used-and-free}

-- a state's threads in use are at most count * (levels - 1) + 1
pub used-most : (j : Job) (s : State) (ok : Sound j s) (few : Few s) (depth : ℕ → ℕ) (deep : Depths s depth) (levels : ℕ)
    (within : (u : ℕ) → Used s u → depth u < levels) → 32 ≤ records_in Free s.threads + (s.count * (levels - 1) + 1)
used-most j s ok few depth deep levels within =
    let all = listed-used s.threads in
    let most = few-used j s ok few depth deep levels within (records_used s.threads) all.thread all.there all.once in
    let sum = used-and-free s.threads in
    let many = ok.sized.threads in
    omega arith

-- each waiting thread has a command ahead of it
pub waiting-ahead : (j : Job) (good : GoodJob j) (arguments memory : List ℕ) (k : ℕ) (low : k ≤ 31) (s : State) → Sound j s → (n : ℕ)
    → Followed j good arguments memory k low n s → (E : Ending j good arguments memory k low)
    → n + records_in Waiting s.threads ≤ E.count
waiting-ahead j good arguments memory k low s ok n f E =
    let all = listed_in Waiting s.threads in
    steps-ahead (deep_job j good arguments memory k low) (words-from 32 memory) E n (pool_of j s) f (records_in Waiting s.threads) all.thread
    (λ i l.
    let h : Used s (all.thread i) = let z = all.there i l in omega arith in
    (here j good s ok 0 (all.thread i) h, link_of (thread_at s (all.thread i)), cell-of j good arguments memory k low s ok n f (all.thread i) h))
    all.once

-- an open state has a command ahead: the root's, if no other
pub command-ahead : (j : Job) (good : GoodJob j) (arguments memory : List ℕ) (k : ℕ) (low : k ≤ 31) (s : State) → Sound j s → (n : ℕ)
    → Followed j good arguments memory k low n s → s.outcome ≡ going → (E : Ending j good arguments memory k low) → n < E.count
command-ahead j good arguments memory k low s ok n f o E =
    let h = ok.tree.root (going-unfinished s o) in
    let z = steps-ahead (deep_job j good arguments memory k low) (words-from 32 memory) E n (pool_of j s) f 1 (λ _. 0)
    (λ i l. (here j good s ok 0 0 h, link_of (thread_at s 0), cell-of j good arguments memory k low s ok n f 0 h)) (λ i m l l' _. omega arith) in
    omega arith
