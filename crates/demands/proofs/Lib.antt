-- In reading order: the serial run is the theory's; the tests by their numbers; what it says that no whole-run test is met; each whole-run number exactly under its
-- condition, of the serial run too; the demands over every list of entries; shared words, and a run that has some; and the starred cases.
pub mod RoutineState
pub mod SerialTheory
pub mod Tests
pub mod Passing
pub mod WholeRun
pub mod SerialNumbers
pub mod Demands
pub mod Shared
pub mod SharedExample
pub mod Cases
