-- The laws of `reader`.
pub mod Pairs
pub mod Rows
