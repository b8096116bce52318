mod Crossing
mod Dealt
mod Homes
mod Meetings
mod Countings
pub mod NextLines
mod Opened
mod OwnLines
mod Promises
mod Stages
mod Weaves
pub mod WorkSteps
mod Ends
mod Seating
pub mod ServesUntold
pub mod WaitsUntold
mod Handing
