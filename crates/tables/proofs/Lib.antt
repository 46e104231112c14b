pub mod Runs
pub mod Meaning
pub mod Stores
pub mod Changes
pub mod Framing
pub mod Zeros
