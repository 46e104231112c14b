pub mod Layout
pub mod Code
pub mod Image
pub mod Step
pub mod Marks
pub mod Cases
pub mod Worked
