pub mod AnswerLemmas
mod BitLemmas
mod CountLemmas
pub mod FreeRunLemmas
mod PlaceLemmas
mod PlaceSteps
mod RunMoves
pub mod RunValues
mod Scans
