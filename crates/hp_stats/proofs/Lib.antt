pub mod PairLemmas
mod CellSteps
mod Readings
