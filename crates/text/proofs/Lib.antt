-- The laws that the proofs of `text` and of what prints with it cite.
pub mod Writing
pub mod Digits
pub mod LineLaws
