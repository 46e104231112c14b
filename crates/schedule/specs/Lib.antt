-- The definitions that the contracts of `schedule` cite.
pub mod Format
pub mod Four
pub mod Meaning
pub mod Writing
