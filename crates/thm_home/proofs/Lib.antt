pub mod AllAtBoard
pub mod AwaitedForAtBoard
pub mod ThreadsEnded
pub mod ThreadsHome
pub mod ThreadsMail
pub mod WaysOfWorks
pub mod WatchersHome
pub mod BesideHeap
pub mod ActsApart
pub mod ActsSplit
pub mod GivenFronts
pub mod ReadPlaces
pub mod WayReads
pub mod StatsHanded
pub mod StatsAtBoard
pub mod ThreadsStats
mod FirstLines
pub mod NamesSeen
mod SeatsTold
mod SeenStates
pub mod TakenByLines
mod TakenFronts
mod WaysCame
pub mod StatesAtBoard
