pub mod HallEnds
pub mod HallHeaps
pub mod HallHistories
pub mod HallPages
pub mod HallSegs
pub mod HallTables
pub mod HallWay
