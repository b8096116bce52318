pub mod CountedOn
pub mod HandedNames
pub mod HandedStates
pub mod HandedTogether
pub mod HeapsSeen
pub mod HomeHeaps
pub mod NewestRead
pub mod ReadlessLines
