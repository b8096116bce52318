pub mod AttachedAlike
pub mod EndAlike
pub mod EndRestored
pub mod FailedCourses
pub mod FailedSteps
pub mod FailedTables
pub mod GivenAttached
pub mod GivenUpStays
pub mod HeapPages
pub mod InTables
pub mod PagesMapped
mod Worked
