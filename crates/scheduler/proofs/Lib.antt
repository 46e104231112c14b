-- In reading order: when it ends; the run by the entries written; and the parts of a run put together.
pub mod Ending
pub mod Equalling
pub mod Promising
