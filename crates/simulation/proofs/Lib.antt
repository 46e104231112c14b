-- In reading order: a command's operands, an image as the theory's routines, a state as a pool of threads, the rules' changes as steps of
-- the pool, entries, and lists of entries.
pub mod Fetched
pub mod ImageCode
pub mod JobCode
pub mod PendingSlots
pub mod StatePool
pub mod NextCommand
pub mod OwnSteps
pub mod JoinStep
pub mod ForkStep
pub mod ReturnStep
pub mod SamePool
pub mod UsedThreads
pub mod Moves
pub mod EntryMoves
pub mod StartPool
pub mod EntriesRun
pub mod Example
