-- In reading order: what a command does to its own thread, a thread's record, and a job.
pub mod Effect
pub mod View
pub mod Thread
pub mod Job
-- for contracts alone
pub mod Bytes
