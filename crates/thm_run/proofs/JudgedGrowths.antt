pub mod JudgedChanges
pub mod JudgedOn
pub mod JudgedRuns
pub mod Moments
pub mod OpenedBytes
