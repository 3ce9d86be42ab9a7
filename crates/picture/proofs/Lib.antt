pub mod Dots
pub mod Bytes
pub mod Rows
pub mod Pictures
