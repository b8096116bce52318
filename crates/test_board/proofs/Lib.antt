mod Opened
mod TwoOpened
mod Dealt
mod Players
mod Taking
mod Telling
mod Naming
mod Visits
mod Homes
pub mod PlayLemmas
pub mod AskLemmas
pub mod ThreeOpened
pub mod ZoneElements
pub mod ZoneAgreed
pub mod ZoneHands
pub mod ZoneHeaps
pub mod ZoneKnown
pub mod ZoneLemmas
pub mod ZoneCalls
pub mod ZoneNames
pub mod Crossing
