-- What `run` promises.
pub mod Promise
