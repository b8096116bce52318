pub mod Holds
pub mod Deeds
pub mod Weaving
pub mod Laws
