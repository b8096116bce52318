pub mod HandedWatchers
pub mod KeptWatchers
pub mod LateGrants
pub mod LaterRecords
pub mod LinesRegistered
pub mod RegisteredOn
pub mod ServedRegistered
