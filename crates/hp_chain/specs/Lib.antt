pub mod Chain
pub mod Writes
pub mod Edits
pub mod Laws
