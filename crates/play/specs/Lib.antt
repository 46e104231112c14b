-- In reading order: what `play` gives; and what the inner functions give, for the code's contracts alone.
pub mod Entries
pub mod Rows
