-- In reading order: the images and the numbers that T-12 speaks of, its promise, that for several cores, and worked rows, a second witness.
pub mod LforksOnly
pub mod Depth
pub mod Commands
pub mod NeverDry
pub mod SeveralCores
pub mod Rows
