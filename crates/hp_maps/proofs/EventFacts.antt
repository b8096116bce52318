pub mod ByteLemmas
pub mod BytesLaw
pub mod FewEvents
pub mod FewLemmas
pub mod FreedCounts
pub mod FreedLemmas
pub mod KnowLemmas
pub mod TellLemmas
