-- What the contracts of the machine's entries need beside the rules: an entry that is met again; a command that changes its own thread alone;
-- what an entry gives, and what carrying out a command relies on; and steps in a row.
pub mod Repeat
pub mod Own
pub mod Given
pub mod Burst
