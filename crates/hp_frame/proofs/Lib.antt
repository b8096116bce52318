pub mod PartLemmas
pub mod SpellingLemmas
pub mod FaultLemmas
pub mod FrameLemmas
