pub mod Ranges
pub mod Columns
pub mod Fitting
pub mod Rows
