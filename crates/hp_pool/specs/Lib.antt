pub mod Place
pub mod Pools
