-- In reading order: what a run is given, its tests and its answer; the three demands; what holds of shared words; and the whole run's numbers, each
-- exactly under its condition. Document 01's starred cases are their witness.
pub mod Input
pub mod Demands
pub mod Shared
pub mod WholeRun
pub mod Cases
