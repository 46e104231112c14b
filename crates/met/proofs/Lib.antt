pub mod Operands
pub mod CommandMet
