pub mod Meaning
pub mod Notes
pub mod Rows
pub mod Counts
pub mod Inspection
