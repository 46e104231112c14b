-- Why the order of steps plays no part: see README.md. The modules stand in reading order.

-- confluence of any step relation
pub mod Confluence
-- the task tree is confluent
pub mod TaskName
pub mod Rights
pub mod Language
pub mod TaskTree
pub mod AfterStep
pub mod Invariant
pub mod Independence
pub mod Diamond
pub mod Preservation
pub mod TreeConfluence
pub mod Units
pub mod LiveSteps
-- the serial run is one of its runs
pub mod TreeStart
pub mod Update
pub mod Compare
pub mod SerialRun
pub mod SerialIsRun
pub mod SerialFuel
pub mod SerialAgrees
-- a pool of threads with reused numbers simulates the tree
pub mod Carried
pub mod ThreadPool
pub mod Represents
pub mod Stepping
pub mod OwnStep
pub mod ForkStep
pub mod ReturnStep
pub mod Simulation
pub mod PoolFacts
-- so its runs agree with the serial run
pub mod Pigeonhole
pub mod DepthBound
pub mod PoolRun
pub mod PoolStart
pub mod DeliveredRun
pub mod Unroll
pub mod ScheduleIndependence
-- a run that is known to finish, and a bound on its depth
pub mod Deeper
pub mod Follow
-- for instances and machines
pub mod Windows
pub mod Arrays
pub mod ChildCount
