-- In reading order: bytes written to the buffer; refused entries; a round and what follows it; an only core's steps in a row; and the loop's
-- variables.
pub mod Keeping
pub mod Refusing
pub mod Rounding
pub mod Rows
pub mod Staging
