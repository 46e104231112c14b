-- The laws of the search, for the proofs of its functions and for the scheduler's.
pub mod Searching
