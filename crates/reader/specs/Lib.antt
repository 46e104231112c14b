-- The definitions that contracts of `reader` cite.
pub mod Row
