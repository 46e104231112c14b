mod Parts
pub mod Known
