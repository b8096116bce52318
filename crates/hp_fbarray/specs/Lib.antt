pub mod Answers
pub mod FreeRuns
pub mod Mask
pub mod Searches
pub mod Words
