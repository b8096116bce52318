pub mod EndOfThreads
pub mod StatsOfThreads
