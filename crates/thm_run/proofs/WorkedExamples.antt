pub mod Worked
pub mod WorkedApart
pub mod WorkedDrops
pub mod WorkedFreed
pub mod WorkedHolds
pub mod WorkedLines
pub mod WorkedRuns
