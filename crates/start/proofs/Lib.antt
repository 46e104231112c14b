-- The law of Start.
pub mod Starting
