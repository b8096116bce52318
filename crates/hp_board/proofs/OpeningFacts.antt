pub mod DealLemmas
pub mod OpeningNamed
pub mod OpeningOwned
pub mod Openings
pub mod SeatLemmas
pub mod SeatParts
pub mod SlotNumbers
