-- The laws that the proofs of `transcript` cite.
pub mod LastLineLaws
pub mod Running
pub mod Printing
pub mod Longer
pub mod Early
pub mod Cases
