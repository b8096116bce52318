pub mod DrawLemmas
pub mod DrawnLemmas
pub mod GeneratedLemmas
pub mod GeneratingLemmas
pub mod GeneratorLemmas
