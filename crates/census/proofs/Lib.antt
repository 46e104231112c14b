-- In reading order: what the counts of a table come to; and one record more.
pub mod Totals
pub mod Counting
