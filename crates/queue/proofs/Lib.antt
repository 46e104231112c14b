-- The laws that the proofs of `queue` and of the crates above it cite.
pub mod Ascending
pub mod Ring
pub mod Laws
pub mod Filled
pub mod Examples
