-- In reading order: the run that an input asks for, the last line, all that is printed, how it stands in a buffer, and a table of cases.
pub mod Job
pub mod LastLine
pub mod Transcript
pub mod Writing
pub mod Cases
pub mod Parts
