pub mod AskingFacts
pub mod Attached
mod AttachedTold
pub mod Carrying
pub mod ChunksMarked
pub mod ChunksTied
pub mod AttachReady
mod ChunksBeside
pub mod GivenSteps
pub mod Handed
pub mod HearsLemmas
pub mod InHalls
pub mod MemberLemmas
pub mod Posted
pub mod Rising
pub mod RowsKnown
pub mod Scaled
pub mod SegmentSlots
pub mod Served
pub mod Spoken
pub mod Standing
pub mod StepFalls
pub mod Taken
pub mod Telling
pub mod Tying
pub mod Undenied
pub mod Waits
pub mod Weighs
pub mod WorkedServing
mod ServingLemmas
