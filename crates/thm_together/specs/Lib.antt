pub mod CameHome
pub mod Failing
pub mod OnItsWay
pub mod Watched
