-- In reading order: the tests one by one, and what a beginning says of its run.
pub mod Testing
pub mod Beginning
