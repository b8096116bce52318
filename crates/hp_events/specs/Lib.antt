pub mod Watchers
pub mod Watching
pub mod Validators
pub mod Kept
