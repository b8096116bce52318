pub mod Lines
pub mod LinesCarried
pub mod LinesOwn
pub mod LinesQuiet
pub mod LinesRoster
pub mod LinesSteps
