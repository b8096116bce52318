mod Streaming
mod OutcomeLemmas
mod RefusalLemmas
mod OpeningLemmas
mod Coming
mod Places
mod NextLine
mod Knowing
mod Beside
mod Returning
mod ToldLine
mod OneMore
mod Resting
mod Ending
mod EndLemmas
mod FailureLemmas
mod ThreadsRun
mod ReasonLemmas
mod LevelLemmas
pub mod FaultLemmas
pub mod WantLemmas
pub mod CheckedLemmas
mod ProgramLemmas
mod MadeLemmas
mod SummaryLemmas
mod WorkedFailures
mod Newcomers
mod KitLemmas
pub mod Crossing
