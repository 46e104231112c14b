pub mod Able
pub mod Queues
pub mod Dispatching
