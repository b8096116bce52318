pub mod Rounding
pub mod Powers
pub mod ClassLemmas
pub mod Places
pub mod PageLemmas
mod FlagLemmas
pub mod MemoryLemmas
pub mod NameLemmas
pub mod RequestLemmas
pub mod StreamLemmas
mod PlanLemmas
pub mod PlannedMapping
pub mod MappingLemmas
pub mod HeldRowLemmas
mod HeldRunLemmas
mod HeldRunWrites
