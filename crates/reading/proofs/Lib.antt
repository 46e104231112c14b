-- The laws that the proofs of `reading` cite.
pub mod Words
