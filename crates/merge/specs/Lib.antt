pub mod Merge
pub mod Interleaved
pub mod Answer
pub mod ByPlaces
