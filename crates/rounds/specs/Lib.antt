-- The built-in scheduler as a definition: what a reader must believe of it.
pub mod Rounds
-- Small runs of it, worked out by hand: a second witness.
pub mod Rows
