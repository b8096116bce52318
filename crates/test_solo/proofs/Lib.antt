mod SoloOpened
mod Arming
mod StageLemmas
mod Callers
pub mod Homes
pub mod Claims
pub mod Calls
