mod BitLemmas
mod LinkedLemmas
pub mod HeadLemmas
mod RemovalLemmas
mod RoomLemmas
mod SearchLemmas
mod AboveLemmas
pub mod SearchLaw
mod GreatestLemmas
mod KeptLemmas
mod KeptReads
mod GreatestRead
mod HeadKept
mod MendLemmas
mod Mending
mod MendSteps
mod MendStops
mod MendReads
pub mod ListedLemmas
mod RemovalKept
mod RoomKept
