pub mod Sharing
pub mod RoundLemmas
pub mod OpeningSegs
pub mod Crossing
pub mod VisitLemmas
pub mod AwaitLemmas
