pub mod Asking
pub mod Claiming
pub mod Untouched
