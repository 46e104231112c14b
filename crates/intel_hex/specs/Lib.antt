-- The answers, and what only the code's contracts need.
pub mod Answers
pub mod Found
