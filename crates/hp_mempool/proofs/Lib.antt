mod Counts
pub mod PoolSteps
pub mod PartSteps
mod PutLemmas
mod TakeLemmas
mod FaultOrder
mod ObjectLemmas
mod PassLemmas
pub mod PassLaws
mod RoundLemmas
mod ProgramLemmas
mod OutcomeLemmas
