-- What a core tries, and which thread is enabled.
pub mod Search
