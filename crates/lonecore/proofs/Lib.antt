-- In reading order: see README.md.

-- the commands of such an image; the plain run, how deep it goes and its commands; a state followed on the tree of its job
pub mod EffectsMet
pub mod DepthExact
pub mod Depths
pub mod Followed
pub mod SerialEnding
pub mod CommandCount
pub mod PlainRun
-- few threads are at work, so few are in use
pub mod FewRunning
pub mod FewChanges
pub mod FewStep
pub mod FewKept
pub mod Working
pub mod Leaves
pub mod Places
pub mod Exhausted
pub mod Crowd
-- every try of an open state on the scheduler's way is accepted
pub mod Standing
-- counts of records, and the balance of waits and wakes
pub mod Records
pub mod Counts
pub mod WaitingRecords
pub mod BalanceChanges
pub mod BalanceLeaves
pub mod Balance
-- a lone core
pub mod Chain
pub mod Steps
pub mod Rounds
pub mod LoneCore
-- several cores
pub mod Way
pub mod Feeding
pub mod Finishing
pub mod SeveralCores
-- examples
pub mod Rows
pub mod Example
