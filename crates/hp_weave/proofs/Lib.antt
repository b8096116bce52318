pub mod Interleaving
pub mod Woven
mod Worked
