pub mod Rows
pub mod Fit
pub mod OrderWords
pub mod Sending
