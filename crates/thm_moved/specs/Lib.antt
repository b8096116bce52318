pub mod Adding
pub mod AtBoard
pub mod ByClose
pub mod ByMoves
pub mod NamesLeft
pub mod Within
