pub mod Zones
pub mod Checking
pub mod Places
pub mod Directory
pub mod Heaps
pub mod Laws
