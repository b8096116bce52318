pub mod Keys
pub mod Spelling
pub mod Links
pub mod Changes
pub mod Walks
pub mod EditLemmas
mod Worked
