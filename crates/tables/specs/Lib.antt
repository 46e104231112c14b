-- In reading order: cells of a list of bytes; what the bytes of the tables mean; and what a store does to that.
pub mod Cells
pub mod Meaning
pub mod Change
