-- The definitions that the contracts of `view` cite.
pub mod Part
