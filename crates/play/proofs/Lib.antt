-- In reading order: the entries at a schedule's front; entries in a row; and what is left of a schedule.
pub mod Leading
pub mod Rowing
pub mod Playing
