mod OfSender
mod Updates
pub mod RingSteps
mod PassLemmas
mod FaultOrder
mod LineLemmas
mod SentLemmas
mod GatherLemmas
pub mod PassLaws
mod WeaveLemmas
mod WriteLemmas
mod ProgramLemmas
