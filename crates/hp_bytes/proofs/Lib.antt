pub mod WrittenLemmas
pub mod ElementLemmas
pub mod InsideLemmas
pub mod StoreLemmas
pub mod LoanSteps
pub mod CutSteps
pub mod OneMoreLemmas
pub mod AllocLemmas
pub mod LabelLemmas
pub mod TagLemmas
pub mod LiveLemmas
pub mod VerbLemmas
pub mod NewLemmas
pub mod MakeLemmas
pub mod DropLemmas
pub mod OpeningLemmas
mod NumberLemmas
mod FieldLemmas
pub mod ReadingLemmas
mod StreamLemmas
pub mod RunLemmas
mod OutcomeLemmas
