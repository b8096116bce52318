pub mod Spelling
pub mod FirstFault
pub mod View
pub mod Parts
