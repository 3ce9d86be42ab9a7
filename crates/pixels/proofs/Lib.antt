pub mod Counting
pub mod Bytes
pub mod Maps
