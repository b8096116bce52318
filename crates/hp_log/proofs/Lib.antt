pub mod Counts
pub mod RowLemmas
pub mod LogLemmas
pub mod TableLemmas
pub mod PlaceLemmas
