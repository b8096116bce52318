mod ListFacts
mod GapLemmas
mod FindLemmas
mod ApartLemmas
mod HeldLemmas
mod MapLemmas
mod DropLemmas
pub mod PlannedLemmas
mod NewRows
mod IndexLemmas
pub mod TableLaw
mod TakeLemmas
pub mod CatchLemmas
pub mod EventFacts
mod EndLemmas
pub mod LawLemmas
pub mod ChunkLemmas
mod LeaveLemmas
mod StayLemmas
pub mod BesideLemmas
pub mod ReadyLemmas
mod TurnLemmas
mod SlotLemmas
mod TogetherLemmas
