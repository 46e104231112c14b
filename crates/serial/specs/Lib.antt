pub mod Serial
pub mod Steps
pub mod Cases
pub mod SharesCases
pub mod Answer
