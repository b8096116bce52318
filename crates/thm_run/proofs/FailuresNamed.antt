pub mod FailureLaws
pub mod Failures
pub mod MapsRefused
pub mod OwnFailures
pub mod Refusals
pub mod RefusedCalls
pub mod RefusedLines
