-- The laws that the proofs of `view` cite.
pub mod Cases
pub mod Examples
