pub mod Batch
pub mod Known
pub mod World
