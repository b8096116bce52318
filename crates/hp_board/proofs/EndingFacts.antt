pub mod Endings
pub mod Gatherings
pub mod GoodMoves
pub mod MoveChains
