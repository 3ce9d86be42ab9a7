pub mod Ruled
pub mod Truth
