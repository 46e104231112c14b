-- The definitions that the contracts of `start` cite.
pub mod Start
