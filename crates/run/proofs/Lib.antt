-- In reading order: what a run tells of its machine; the laws of a run by a schedule; and the demands of what a run gives.
pub mod Telling
pub mod Running
pub mod RunDemand
