-- The laws that the proofs of `schedule` and of the crates above it cite.
pub mod Bools
pub mod Standing
pub mod Answers
pub mod Following
pub mod Forming
pub mod Positions
pub mod Four
pub mod Counting
pub mod Writing
pub mod Examples
