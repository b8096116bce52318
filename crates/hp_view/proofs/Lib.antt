mod NumberLemmas
mod ScaleLemmas
mod FieldLemmas
mod StreamLemmas
mod ReadingLemmas
mod StepLemmas
mod OutcomeLemmas
pub mod ContentLemmas
