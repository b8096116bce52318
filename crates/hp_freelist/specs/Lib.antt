pub mod Lists
pub mod Search
pub mod Greatest
pub mod Links
pub mod Heads
pub mod Kept
pub mod Laws
