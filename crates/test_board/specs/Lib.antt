pub mod Seating
pub mod Visiting
pub mod Playing
pub mod Asking
pub mod Zoned
pub mod Zoning
