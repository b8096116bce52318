pub mod Agreeing
pub mod ChunksKept
pub mod FirstHall
pub mod FirstNames
pub mod Given
pub mod Giver
pub mod Halls
pub mod HallsGiven
pub mod HallsNoted
pub mod HandedOut
pub mod Held
pub mod Homes
pub mod Mailed
pub mod Mapped
pub mod MovedIn
pub mod NamesKept
pub mod Opened
pub mod Owned
pub mod PlainStates
pub mod Publishes
pub mod Read
pub mod Slotted
pub mod Stepped
pub mod Stored
pub mod Taking
pub mod Walks
mod WorkedKeeping
mod WorkedMeters
