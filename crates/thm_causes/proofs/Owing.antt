pub mod NonesForWant
pub mod NonesInVain
pub mod NothingLost
pub mod Notices
pub mod NoticesHeard
pub mod OwesAlong
pub mod OwesNothing
