pub mod Command
pub mod Write
pub mod Weight
