-- In reading order: the condition of a command's fault, and the condition of each number that an entry can meet.
pub mod Faults
pub mod Numbers
