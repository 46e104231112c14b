-- What the rounds' functions give, for the code's contracts alone.
pub mod Steps
