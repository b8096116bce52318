pub mod InPlaceLemmas
pub mod ResizeLaw
pub mod ResizeTiling
pub mod ResizedLemmas
pub mod TakingLemmas
