pub mod MovedLemmas
pub mod MovedOptions
pub mod MovedReads
pub mod MovedShapes
