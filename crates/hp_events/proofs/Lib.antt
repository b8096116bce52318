pub mod ListFacts
mod RoomLemmas
mod RefusalLemmas
pub mod AnswerLemmas
